-- The set of a port that is meant.
use Rattle.std.specs.Prelude.{◌==◌, ℕ, if◌then◌else◌, Option, None, Some}
use Rattle.iol_handed.specs.declared.ask.WhichSet.{WhichSet}
use Rattle.iol_handed.specs.declared.ask.WhichSet.TheVariants.{Present, Previous}

-- the set with this number: the present one of a port, 0, or the previous one, 1 (own)
abbrev pub set_of : ℕ → Option WhichSet
set_of number = if number == 0 then Some Present else (if number == 1 then Some Previous else None)
