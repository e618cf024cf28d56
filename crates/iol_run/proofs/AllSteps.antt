-- What holds of the events of each step of a run holds of the events of all its steps, one after the other.
use Rattle.std.proofs.Common.{◌≡◌, ℕ, List, [], ◌∷◌, ◌++◌, ap, sym, ◌∙◌, subst, append-nil, append_assoc}
use Rattle.iol_disk.specs.Disk.{Disk}
use Rattle.iol_journal.specs.Journals.{JournalView}
use Rattle.iol_link.specs.Link.{LinkCall, LinkAnswer}
use Rattle.iol_core.specs.Events.{Event, Stamp, stamped}
use Rattle.iol_run.specs.CoreOnDisk.{CoreOnDiskView, clock_of}
use Rattle.iol_engine.specs.Ports.{PortsView}
use Rattle.iol_run.specs.Runs.{RunView}
use Rattle.iol_run.specs.Schedules.{IsFresh}
use Rattle.iol_run.specs.Steps.{Does}
use Rattle.iol_run.specs.Tasks.{HasMade}
use Rattle.iol_run.specs.declared.turn.Turned.{Turned}
use Rattle.iol_run.specs.declared.step.Step.{Step}

-- a claim about the events from one value of a view of the master to the next: it holds of none if the view stays, and of joined events
module _ {D L X : Type 0} (disk : D → Disk) (connection : L → ℕ) (allows : L → LinkCall → LinkAnswer → L → Type 0)
    (view : CoreOnDiskView D → X) (Tells : X → X → List Stamp → Type 0) (same : (old new : X) → new ≡ old → Tells old new [])
    (behind : (old mid new : X) (told more : List Stamp) → Tells old mid told → Tells mid new more → Tells old new (told ++ more))
    (each : (t : ℕ) (step : Step) (old new : CoreOnDiskView D) (ports last : PortsView L) (told : List Event) (turned : Turned)
    → Does disk connection allows step old new ports last told turned → Tells (view old) (view new) (stamped t told)) where
  record HasTold (old new : RunView D L) : Type 0 where
    more : List Stamp
    events : new.events ≡ old.events ++ more
    tells : Tells (view old.master) (view new.master) more

  steps_tell : (made : List Step) (waits : ℕ) (old new : RunView D L) → HasMade disk connection allows made waits old new
      → HasTold old new
  steps_tell [] waits old new made = record {
    more = [];
    events = ap (λ (r : RunView D L). r.events) made.1 ∙ sym (append-nil old.events);
    tells = same (view old.master) (view new.master) (ap (λ (r : RunView D L). view r.master) made.1);
  }
  steps_tell (step ∷ rest) waits old new made =
      let mid = made.2 in
      let now = stamped (clock_of disk mid.master) made.3.0 in
      let one = each (clock_of disk mid.master) step old.master mid.master old.ports mid.ports made.3.0 made.0 made.3.1 in
      let later = steps_tell rest made.1 mid new made.5 in
      record {
        more = now ++ later.more;
        events =
            later.events ∙ (ap (λ (ss : List Stamp). ss ++ later.more) made.3.2 ∙ append_assoc old.events now later.more);
        tells = behind (view old.master) (view mid.master) (view new.master) now later.more one later.tells;
      }

  -- the claim holds of all events of steps that were made from a fresh run
  pub all_tell : (made : List Step) (waits : ℕ) (journal : JournalView D) (links : List L) (old new : RunView D L)
      → IsFresh disk journal links old → HasMade disk connection allows made waits old new
      → Tells (view old.master) (view new.master) new.events
  all_tell made waits journal links old new fresh run =
      let told = steps_tell made waits old new run in
      subst (λ (ss : List Stamp). Tells (view old.master) (view new.master) ss)
      (sym (told.events ∙ ap (λ (ss : List Stamp). ss ++ told.more) fresh.events)) told.tells
