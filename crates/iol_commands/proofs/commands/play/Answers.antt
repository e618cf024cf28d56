use Rattle.std.proofs.Common.{Option, IsSomeAnd, refl, sym, subst}
use Rattle.iol_script.specs.Script.{Said}
use Rattle.iol_commands.specs.Played.{IsPlayed}
use Rattle.iol_commands.proofs.commands.play.Goals as goal

-- the text is that of the run that was made
pub returns-clause-printed : goal.returns-clause-printed
returns-clause-printed c =
    let played = c.in_ok-played.played in
    record {
      report = played;
      played =
          subst (λ (o : Option Said). IsSomeAnd o (λ said. IsPlayed said played)) (sym c.in_ok-ready.ensures.said)
          c.in_ok-played.ensures.played;
      text_is = refl;
    }
