-- What a trail is made of.
use Rattle.std.specs.Prelude.{[], ◌++◌}
use Rattle.iol_engine.specs.Events.{told_of}
use Rattle.iol_engine.specs.declared.trail.Trail.{Trail}
use Rattle.iol_engine.specs.declared.trail.Source.{Source}
use Rattle.iol_engine.specs.declared.trail.Source.TheVariants.{Nothing, Followed}

-- no events, or those of a trail and then the ones that follow it (own)
abbrev pub trail_of : Source → Trail
trail_of Nothing = record { told = [] }
trail_of (Followed trail called status) = record { told = trail.now.told ++ (told_of called.now ++ told_of status.now) }
