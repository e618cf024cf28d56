use Rattle.std.proofs.Common.{Option, IsSomeAnd, string_bytes, sym, subst}
use Rattle.std.proofs.lemmas.Result.{IfErr-weaker, IfOk-weaker}
use Rattle.iol_script.specs.Script.{Said}
use Rattle.iol_commands.specs.Runs.{IsCause}
use Rattle.iol_explain.specs.Played.{ExplainsRun, IsExplained}
use Rattle.iol_explain.proofs.Causes.{is_cause}
use Rattle.iol_explain.proofs.explain.text_of_explained.Goals as goal

-- the text explains the run that was played
pub returns-clause-printed : goal.returns-clause-printed
returns-clause-printed c =
    IfOk-weaker c.text_of_ready.result _ (λ printed. ExplainsRun c.args.text.now (string_bytes printed))
    (λ printed is. record {
      explained = is.0;
      played = subst (λ (o : Option Said). IsSomeAnd o (λ said. IsExplained said is.0)) (sym c.in_ok-ready.ensures.said) is.1;
      text_is = is.2;
    })
    c.text_of_ready.ensures.printed

pub returns-clause-cause : goal.returns-clause-cause
returns-clause-cause c =
    IfErr-weaker c.text_of_ready.result _ (IsCause c.args.text.now)
    (λ fault is. is_cause c.args.text.now fault c.in_ok-ready.ensures.ran is) c.text_of_ready.ensures.status
