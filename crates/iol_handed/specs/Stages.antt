-- The stage of a session.
use Rattle.core.specs.Mem.{manually_drop_value}
use Rattle.iol_handed.specs.Sessions.{SessionView, ended, opening, running}
use Rattle.iol_handed.specs.declared.session.SessionStage.{SessionStage}
use Rattle.iol_handed.specs.declared.session.SessionStage.TheVariants as stage

-- a session at a stage, as contracts see it (own)
abbrev pub seen : {F : Type 0} → SessionStage F → SessionView
seen (stage.Opening flash) = opening flash
seen (stage.Running master) = running (manually_drop_value master)
seen stage.Ended = ended
