-- The published commands of a closed master.
use Rattle.std.specs.Prelude.{◌+◌, length}
use Rattle.iol_front.specs.Fronts.{Start}
use Rattle.iol_headline.specs.Lists.{IsLawfulList}
use Rattle.iol_master.specs.declared.ending.Ending.{Ending}
use Rattle.iol_master.specs.declared.ending.Ending.TheVariants as ending

-- if a master is closed, a lawful trace has acknowledged all that is published, and these are the commands that it accepted (own)
abbrev pub IsSettled : {D F : Type 0} → Start → Ending D F → Type 0
IsSettled start (ending.Closed journal published) = IsLawfulList start (start.number + length published) published
IsSettled start (ending.Unwritten journal published) = Unit {0}
IsSettled start (ending.Faulted left fault) = Unit {0}
