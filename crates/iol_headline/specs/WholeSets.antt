-- Each set that is accepted is that of one whole finished upload.
use Rattle.std.specs.Prelude.{◌≡◌, ℕ, List, ◌∷◌, ◌++◌}
use Rattle.iol_types.specs.Command.{Store}
use Rattle.iol_types.specs.DataSet.{SetValue}
use Rattle.iol_link.specs.Page.{PageValue}
use Rattle.iol_transfer.specs.Exchanges.{Exchange}
use Rattle.iol_transfer.specs.Upload.{IsFinished}
use Rattle.iol_core.specs.Events.{Event, Accepted, Changed, Stamp}
use Rattle.iol_core.specs.Own.{own}
use Rattle.iol_core.specs.Statuses.{Uploading}
use Rattle.iol_core.specs.Words.{accepted}
use Rattle.iol_headline.specs.Conversations.{Converses, HasPage}
use Rattle.iol_headline.specs.Works.{Unconfigured}

-- since a port last became `uploading` its own events are exchanges on one connection, and these are a finished upload of a set
-- from the device whose page was read last, on that connection; the port was not configured since (own)
pub record IsUploadedWhole (port connection : ℕ) (set : SetValue) (events : List Stamp) : Type 0 where
  pub early : List Stamp
  pub clock : ℕ
  pub late : List Stamp
  pub page : PageValue
  pub conversation : List Exchange
  pub split : events ≡ early ++ record { event = Changed port Uploading; clock = clock } ∷ late
  pub shown : HasPage port connection page (own port early)
  pub told : Converses port connection (own port late) conversation
  pub finished : IsFinished page.vendor page.device conversation set
  pub undisturbed : Unconfigured port (accepted late)

-- each set that is accepted was uploaded whole, on some connection (own)
abbrev pub WholeSets : List Stamp → Event → Type 0
WholeSets before (Accepted number (Store port revision set)) = (connection : ℕ) × IsUploadedWhole port connection set before
WholeSets before _ = Unit {0}
