use Rattle.std.proofs.Common.{◌≡◌, ◌∙◌, ℕ, List, ◌++◌, ap, sym, rules, Some, string_bytes}
use Rattle.std.specs.Prelude.{codes}
use Rattle.serde_json.specs.Read.{read}
use Rattle.serde_json.specs.View.{view}
use Rattle.serde_json.specs.Written.{compact_text}
use Rattle.iol_answers.proofs.Printed.{compact_printed}
use Rattle.iol_answers.proofs.json_line.json_line.Goals as goal

pub returns : goal.returns
returns c =
    let value = view c.args.value.now in
    let text : string_bytes c.in_ok-text.text ≡ compact_text value = c.in_ok-text.ensures.text c.requires.plain in
    let reads : read (string_bytes c.in_ok-text.text) ≡ Some value = c.in_ok-text.ensures.reads_back c.requires.shallow in
    let pushed : string_bytes c.push.new.self ≡ string_bytes c.in_ok-text.text ++ codes "\n" = search rules in
    record {
      line = pushed ∙ ap (λ (front : List ℕ). front ++ codes "\n") text;
      reads = ap read (sym text) ∙ reads;
      printed = compact_printed value;
    }
