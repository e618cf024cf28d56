use Rattle.std.proofs.Common.{rules, ◌≡◌, ℕ, List, ◌++◌, ap, ◌∙◌}
use Rattle.std.specs.Prelude.{codes}
use Rattle.std.proofs.lemmas.Grind.{put_two}
use Rattle.iol_texts.specs.Recovered.{recovered_text}
use Rattle.iol_run.specs.declared.run.Stamped.{Stamped}
use Rattle.iol_explain.specs.DiskLines.{of_run}
use Rattle.iol_explain.specs.Explained.{run_lines, explained_text}
use Rattle.iol_explain.specs.declared.told_disk.ToldCall.{ToldCall}
use Rattle.iol_explain.proofs.explained.ExplainedDisplay.fmt.Goals as goal

pub returns-clause-writes : goal.returns-clause-writes
returns-clause-writes g c = λ plain ok.
    let run = c.args.self.now in
    let calls : c.calls_of_run-calls.result.now ≡ of_run run.calls.items = c.calls_of_run-calls.ensures ∙ ap of_run c.deref.ensures.value in
    let lines : run_lines run.geometry c.calls_of_run-calls.result.now c.deref-2.result.now c.deref-3.result.now
    ≡ run_lines run.geometry (of_run run.calls.items) run.events_before.items run.events.items =
    ap (λ (told : List ToldCall). run_lines run.geometry told c.deref-2.result.now c.deref-3.result.now) calls
    ∙ (ap (λ (before : List ℕ). run_lines run.geometry (of_run run.calls.items) before c.deref-3.result.now) c.deref-2.ensures.value
    ∙ ap (λ (events : List Stamped). run_lines run.geometry (of_run run.calls.items) run.events_before.items events)
    c.deref-3.ensures.value) in
    let rest : List ℕ =
    codes "stopped  # the power stops, and what it leaves of the disk is recovered\n"
    ++ recovered_text run.recovered.number run.recovered.state in
    put_two g.W.Write.write_str_gives c.args.f.now c.write_lines.new.f c.write.new.self
    (run_lines run.geometry c.calls_of_run-calls.result.now c.deref-2.result.now c.deref-3.result.now) rest
    (explained_text run.geometry run.calls.items run.events_before.items run.events.items run.recovered.number run.recovered.state)
    (search rules) (search rules)
    (ap (λ (text : List ℕ). text ++ rest) lines)
