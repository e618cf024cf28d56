-- Batches between a core and the disk.
use Rattle.std.specs.Prelude.{◌≡◌, ◌<◌, ◌≤◌, ℕ, ◌+◌, false, true, Bool, ◌&&◌, not, List, length, take, drop, Option, Some, None, nat_eq}
use Rattle.iol_types.specs.Command.{CommandValue}
use Rattle.iol_types.specs.State.{after}
use Rattle.iol_journal.specs.Body.{records_of, values}
use Rattle.iol_journal.specs.declared.batch.Batch.{Batch}
use Rattle.iol_front.specs.Fronts.{Start, CommittedView}
use Rattle.iol_core.specs.Core.{CoreView}
use Rattle.iol_core.specs.declared.batches.AckFault.{AckFault}
use Rattle.iol_core.specs.declared.batches.AckFault.TheVariants.{Stranger}
use Rattle.iol_core.specs.Submit.{writes_no_more}

-- `count` is the length of the longest prefix whose records fit in `room` octets (own)
pub record IsLongest (room : ℕ) (commands : List CommandValue) (count : ℕ) : Type 0 where
  pub within : count ≤ length commands
  pub fits : length (records_of (take count commands)) ≤ room
  pub longest : (more : ℕ) → more ≤ length commands → length (records_of (take more commands)) ≤ room → more ≤ count

-- a batch may be taken: a command waits, none is in flight, and the core still writes (own)
abbrev pub has_batch : CoreView → Bool
has_batch core = not (nat_eq (length core.queue) 0) && nat_eq core.flight 0 && not (writes_no_more core.stopped)

-- a batch is taken: the longest prefix of the queue that fits, with at least one command, under the next number;
-- it is then in flight, and its commands stay in the queue (own)
pub record IsTaken (old : CoreView) (room : ℕ) (new : CoreView) (batch : Batch) : Type 0 where
  pub there : has_batch old ≡ true
  pub longest : IsLongest room old.queue new.flight
  pub some : 1 ≤ new.flight
  pub first : batch.first ≡ old.number + 1
  pub commands : values batch.commands.items ≡ take new.flight old.queue
  pub others : new ≡ record old { flight = new.flight }

-- a batch is taken if there is one, and otherwise nothing changes (own)
abbrev pub IsTake : CoreView → ℕ → CoreView → Option Batch → Type 0
IsTake old room new (Some batch) = IsTaken old room new batch
IsTake old room new None = (has_batch old ≡ false) × (new ≡ old)

-- a published batch is the one in flight: it follows the durable commands and has the commands in flight (own)
pub record IsInFlight (start : Start) (core : CoreView) (batch : CommittedView) : Type 0 where
  pub flies : 0 < core.flight
  pub follows : start.number + length batch.before ≡ core.number
  pub commands : batch.commands ≡ take core.flight core.queue

-- the core once the commands in flight are durable, and its pass has seen this list (own)
abbrev pub acknowledged : CoreView → List CommandValue → CoreView
acknowledged core seen = record core {
  durable = after core.durable (take core.flight core.queue);
  number = core.number + core.flight;
  queue = drop core.flight core.queue;
  flight = 0;
  seen = seen;
}

-- the batch is returned, because it is not the one in flight (own)
abbrev pub IsStranger : {F : Type 0} → Start → CoreView → CommittedView → AckFault F → Type 0
IsStranger start core batch (Stranger back) = (back ≡ batch) × (IsInFlight start core batch → ⊥)
