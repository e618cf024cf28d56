use Rattle.std.proofs.Common.{◌≡◌}
use Rattle.iol_live.specs.declared.telling.Telling.TheVariants.{Nothing}
use Rattle.iol_live.proofs.asking.hear.Given as goal

-- if nothing is to be reported, nothing was written
abbrev pub invariant-loop-told : goal.invariant-loop-told
invariant-loop-told g l = l.telling ≡ Nothing → l.err ≡ l.initial.err
