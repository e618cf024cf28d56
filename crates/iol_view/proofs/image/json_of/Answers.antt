use Rattle.std.proofs.Common.{rules, ◌≡◌, ◌++◌, codes, string_bytes}
use Rattle.iol_view.proofs.image.json_of.Goals as goal

-- the text is the object, and then a line feed
pub returns-clause-text : goal.returns-clause-text
returns-clause-text c =
    let ended : string_bytes c.push.new.self ≡ string_bytes c.in_ok-text.text ++ codes "\n" = search rules in
    (string_bytes c.in_ok-text.text, ended, search rules)
