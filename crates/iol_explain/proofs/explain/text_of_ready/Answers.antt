use Rattle.std.proofs.Common.{rules}
use Rattle.iol_explain.proofs.explain.text_of_ready.Goals as goal

-- the text is that of the run that was played
pub returns-clause-printed : goal.returns-clause-printed
returns-clause-printed c =
    let explained = c.in_ok-explained.explained in (explained, c.in_ok-explained.ensures.played, search rules)
