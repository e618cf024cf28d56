-- The parts of a begun checkpoint, and how contracts see it.
use Rattle.std.specs.Prelude.{◌≡◌, ◌<◌, ℕ, true, List, [], ◌∷◌, ◌++◌, length, map, drop, Option, Some, None, IfSome}
use Rattle.std.specs.Int.{w64, to_be_bytes}
use Rattle.std.specs.VecDeque.{deque_capacity}
use Rattle.iol_types.specs.Command.{CommandValue}
use Rattle.iol_disk.specs.Disk.{Disk}
use Rattle.iol_layout.specs.AreaPlans.{IsAreaPlan}
use Rattle.iol_journal.specs.BegunViews.{BegunView}
use Rattle.iol_journal.specs.Checkpoints.{target, header_of_target}
use Rattle.iol_journal.specs.Drafts.{may_pause, idle_at, owing, IsSnapshot, IsDrafted}
use Rattle.iol_layout.specs.Standings.{with_batch}
use Rattle.iol_journal.specs.Planned.{IsEncoded}
use Rattle.iol_layout.specs.Layout.{other, renewed}
use Rattle.iol_layout.specs.Meaning.{Log, Standing}
use Rattle.iol_journal.specs.declared.begun.Begun.{Begun}
use Rattle.iol_journal.specs.declared.begun.OwedBatch.{OwedBatch}
use Rattle.iol_layout.specs.declared.body.EncodedBatch.{EncodedBatch}
use Rattle.iol_layout.specs.declared.body.TheConstants.{EPOCH_OCTETS}
use Rattle.iol_layout.specs.declared.idle.Idle.{Idle}

-- the log of the area that a checkpoint writes (own)
abbrev pub log_of : Begun → Log
log_of b = record { used = b.used; number = b.carried.first; state = b.carried.start }

-- the commands of the owed batches (own)
abbrev pub commands_owed : List OwedBatch → List (List CommandValue)
commands_owed owed = map (λ (o : OwedBatch). o.batch.commands) owed

-- a begun checkpoint as contracts see it (own)
abbrev pub view_of : Begun → BegunView
view_of b = record { log = log_of b; owed = commands_owed b.owed.items; stage = b.stage }

-- batches are encoded as they are written one after another, the first one following this standing (own)
abbrev pub AreEncoded : Standing → List OwedBatch → Type 0
AreEncoded t [] = Unit {0}
AreEncoded t (first ∷ behind) = IsEncoded t first.batch.commands first.body × AreEncoded (with_batch t first.batch.commands) behind

-- what always holds of the checkpoint of a journal with this standing, on any disk (own)
pub record IsBegun (d : Disk) (s : Standing) (b : Begun) : Type 0 where
  pub drafted : IsDrafted d s (target s (log_of b)) (commands_owed b.owed.items) b.stage
  pub plan : IsSnapshot b.stage
      → IsAreaPlan (renewed s.layout) (other s.area) (header_of_target (target s (log_of b))) b.carried.start b.plan
  pub encoded : AreEncoded (target s (log_of b)) b.owed.items

-- a checkpoint is paused, and `idle` says what makes the area that it writes harmless meanwhile (own)
abbrev pub IsSetAside : Disk → Standing → Idle → Option Begun → Type 0
IsSetAside d s idle begun = IfSome begun (λ b. IsBegun d s b × (may_pause s b.stage ≡ true) × (idle ≡ idle_at b.stage))

-- one more batch can be owed to a checkpoint without allocating (own)
abbrev pub HasRoom : Option Begun → Type 0
HasRoom begun = IfSome begun (λ b. length b.owed.items < deque_capacity b.owed)

-- a batch that was just written is added to the owed ones of a checkpoint, under this epoch (own)
pub record IsOwing (old : Begun) (body : EncodedBatch) (epoch : ℕ) (commands : List CommandValue) (new : Begun) : Type 0 where
  pub plan : new.plan ≡ old.plan
  pub log : log_of new ≡ log_of old
  pub stage : new.stage ≡ owing old.stage
  pub batch : OwedBatch
  pub owed : new.owed.items ≡ old.owed.items ++ batch ∷ []
  pub commands_are : batch.batch.commands ≡ commands
  pub octets : batch.body.octets.items ≡ to_be_bytes w64 epoch ++ drop EPOCH_OCTETS body.octets.items
  pub span : batch.body.span ≡ body.span
  pub sectors : batch.body.sectors ≡ body.sectors

abbrev pub AreOwing : Option Begun → EncodedBatch → ℕ → List CommandValue → Option Begun → Type 0
AreOwing None body epoch commands None = Unit {0}
AreOwing (Some old) body epoch commands (Some new) = IsOwing old body epoch commands new
AreOwing old body epoch commands new = ⊥

-- a checkpoint that may have allocated memory, and is otherwise unchanged (own)
pub record IsSameBegun (old new : Begun) : Type 0 where
  pub plan : new.plan ≡ old.plan
  pub stage : new.stage ≡ old.stage
  pub used : new.used ≡ old.used
  pub carried : new.carried ≡ old.carried
  pub owed : new.owed.items ≡ old.owed.items

abbrev pub AreSame : Option Begun → Option Begun → Type 0
AreSame None None = Unit {0}
AreSame (Some old) (Some new) = IsSameBegun old new
AreSame old new = ⊥
