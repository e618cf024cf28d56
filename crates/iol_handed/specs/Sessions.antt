-- A session: a flash that is being opened, or a master.
use Rattle.std.specs.Prelude.{Option, None, Some}
use Rattle.iol_handed.specs.Master.{HandedMasterView}
use Rattle.iol_handed.specs.Opening.{OpeningView}

-- a session as contracts see it: a flash that is being opened, or a master, or neither (own)
pub record SessionView : Type 0 where
  pub opening : Option OpeningView
  pub running : Option HandedMasterView

abbrev pub opening : OpeningView → SessionView
opening flash = record { opening = Some flash; running = None }

abbrev pub running : HandedMasterView → SessionView
running master = record { opening = None; running = Some master }

abbrev pub ended : SessionView
ended = record { opening = None; running = None }
