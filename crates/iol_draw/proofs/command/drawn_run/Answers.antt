use Rattle.std.proofs.Common.{Option, IsSomeAnd, string_bytes, sym, subst}
use Rattle.std.proofs.lemmas.Result.{IfErr-weaker, IfOk-weaker}
use Rattle.iol_script.specs.Script.{Said}
use Rattle.iol_commands.specs.Runs.{IsCause}
use Rattle.iol_commands.specs.declared.fault.Fault.{Fault}
use Rattle.iol_draw.specs.Drawn.{TellsDrawn}
use Rattle.iol_explain.specs.Played.{IsExplained}
use Rattle.iol_draw.proofs.command.drawn_run.Goals as goal

-- the line has the number of events of the run that was made
pub returns-clause-printed : goal.returns-clause-printed
returns-clause-printed c =
    let explained = c.in_ok-explained.explained in
    IfOk-weaker c.drawing_of.result _ (λ drawn. TellsDrawn c.args.script.now (string_bytes drawn.line))
    (λ drawn is. record {
      explained = explained;
      played =
          subst (λ (o : Option Said). IsSomeAnd o (λ said. IsExplained said explained)) (sym c.in_ok-ready.ensures.said)
          c.in_ok-explained.ensures.played;
      text_is = is;
    })
    c.drawing_of.ensures.printed

-- for any script memory may run out
pub returns-clause-cause : goal.returns-clause-cause
returns-clause-cause c =
    let text = c.args.script.now in
    IfErr-weaker c.drawing_of.result _ (IsCause text)
    (λ fault is. subst (λ (f : Fault). IsCause text f) (sym is) c.in_ok-ready.ensures.ran.0) c.drawing_of.ensures.cause
