-- What holds of a whole trace.
use Rattle.std.specs.Prelude.{ℕ, List, take}
use Rattle.iol_types.specs.State.{State}
use Rattle.iol_core.specs.Events.{Stamp}
use Rattle.iol_core.specs.Words.{accepted}
use Rattle.iol_headline.specs.Decisions.{DecidedFirst}
use Rattle.iol_headline.specs.Downloads.{DownloadsOnly, CommandsOnly}
use Rattle.iol_headline.specs.DurableEnds.{DurableThenEnd}
use Rattle.iol_headline.specs.Places.{Everywhere}
use Rattle.iol_headline.specs.Settled.{SettledRight}
use Rattle.iol_headline.specs.StoredSets.{SetsWereStored}
use Rattle.iol_headline.specs.WholeSets.{WholeSets}
use Rattle.iol_headline.specs.Works.{TellsWork}

-- the laws of the trace of a run that began with a number and a state (own)
pub record IsLawful (first : ℕ) (start : State) (events : List Stamp) : Type 0 where
  -- each set that is accepted is that of one whole upload, on one connection, and the port was not configured meanwhile
  pub whole_sets : Everywhere WholeSets events
  -- each set that a port has after the first of the accepted commands, as its set or as the previous one, it had at the start,
  -- or one of these commands stored it, and it is recorded under the configuration that the port then had
  pub stored_sets : (count : ℕ) → SetsWereStored start (take count (accepted events))
  -- DS_UploadEnd is sent only once the set that was uploaded on that connection is acknowledged
  pub durable_then_end : Everywhere (DurableThenEnd first) events
  -- a parameter is written only by a download of the set that is durable for the port, to a device of that set
  pub downloads : Everywhere (DownloadsOnly first start) events
  -- what is written to the Data Storage object is a command
  pub commands : Everywhere CommandsOnly events
  -- each port gets its configuration and revision after what was accepted, and the checksum of its durable set
  pub works : Everywhere (TellsWork first start) events
  -- a port is `uploading` or `downloading` only if that was decided, from its device's page, State_Property and
  -- Parameter_Checksum on one connection, and from its work
  pub decided : Everywhere DecidedFirst events
  -- a port becomes `off`, `ready` of any kind or `mismatch` only by the work that it got since it last settled: `off` if that is not
  -- IOL_MANUAL, `ready` or `mismatch` as the last page of its device fits or not
  pub settled : Everywhere SettledRight events
