-- An upload ends only once its set is durable.
use Rattle.std.specs.Prelude.{◌≡◌, ◌≤◌, ℕ, List, ◌∷◌, ◌++◌}
use Rattle.iol_types.specs.Command.{Store}
use Rattle.iol_types.specs.DataSet.{SetValue}
use Rattle.iol_transfer.specs.declared.command.DsCommand.TheVariants.{UploadEnd}
use Rattle.iol_transfer.specs.Command.{commanded}
use Rattle.iol_transfer.specs.Exchanges.{busy_times}
use Rattle.iol_core.specs.Events.{Event, Accepted, Changed, Stamp}
use Rattle.iol_core.specs.Own.{own}
use Rattle.iol_core.specs.Statuses.{Storing}
use Rattle.iol_core.specs.Words.{acked}
use Rattle.iol_headline.specs.Conversations.{Converses, Sends}
use Rattle.iol_headline.specs.WholeSets.{IsUploadedWhole}

-- a port's last upload was whole, on this connection, and its set was accepted under this number; since then the port is
-- `storing`, and only DS_UploadEnd was sent, and answered Device busy (own)
pub record IsStored (port connection number : ℕ) (events : List Stamp) : Type 0 where
  pub early : List Stamp
  pub clock : ℕ
  pub late : List Stamp
  pub revision : ℕ
  pub set : SetValue
  pub told : List Event
  pub times : ℕ
  pub split : events ≡ early ++ record { event = Accepted number (Store port revision set); clock = clock } ∷ late
  pub uploaded : IsUploadedWhole port connection set early
  pub since : own port late ≡ Changed port Storing ∷ told
  pub busy : Converses port connection told (busy_times times (commanded UploadEnd))

-- DS_UploadEnd is sent only after the last upload was stored and the number of its set was acknowledged (own)
abbrev pub DurableThenEnd : ℕ → List Stamp → Event → Type 0
DurableThenEnd first before e =
    (port connection : ℕ) → Sends port connection (commanded UploadEnd) e
    → (number : ℕ) × IsStored port connection number before × (number ≤ acked first before)
