-- The moments of a run, and what a power stop leaves.
use Rattle.std.proofs.Common.{◌≡◌, refl, ℕ, zero, suc, true, IsTrue, List, [], ◌∷◌, ◌++◌, take, All, arith}
use Rattle.iol_types.specs.State.{State, legal}
use Rattle.iol_disk.specs.Content.{Image, IsImageSince}
use Rattle.iol_disk.specs.Disk.{Disk}
use Rattle.iol_journal.specs.Runs.{HasPrefix, Mark}
use Rattle.iol_core.specs.Events.{Stamp}
use Rattle.iol_core.specs.Words.{accepted, numbers, acked, acked_by, clock_after, RiseByOne}
use Rattle.iol_core.specs.CrashPrefix.{CrashPrefix, marks_from, marks_of}

-- a further event adds its moment
pub marks-push : (marks : List Mark) (first : ℕ) (events : List Stamp) (e : Stamp)
    → marks_from marks first (events ++ e ∷ []) ≡ record { clock = e.clock; acknowledged = acked_by (acked first events) e.event }
    ∷ marks_from marks first events
marks-push marks first [] e = refl
marks-push marks first (d ∷ events) e =
    marks-push (record { clock = d.clock; acknowledged = acked_by first d.event } ∷ marks) (acked_by first d.event) events e

-- the newest moment is that of the last event
pub marks-newest : (t first : ℕ) (marks : List Mark) (events : List Stamp)
    → (older : List Mark) × (marks_from (record { clock = t; acknowledged = first } ∷ marks) first events
    ≡ record { clock = clock_after t events; acknowledged = acked first events } ∷ older)
marks-newest t first marks [] = (marks, refl)
marks-newest t first marks (e ∷ events) =
    marks-newest e.clock (acked_by first e.event) (record { clock = t; acknowledged = first } ∷ marks) events

-- what holds of all moments holds of the older ones
older : (P : Mark → Type 0) (marks : List Mark) (first : ℕ) (events : List Stamp) → All P (marks_from marks first events) → All P marks
older P marks first [] all k mark below = all k mark below
older P marks first (e ∷ events) all k mark below =
    older P (record { clock = e.clock; acknowledged = acked_by first e.event } ∷ marks) (acked_by first e.event) events all (suc k) mark
    (omega (arith, below))

-- it holds of the moment after each count of events
pub at_each : (P : Mark → Type 0) (t first : ℕ) (marks : List Mark) (events : List Stamp)
    → All P (marks_from (record { clock = t; acknowledged = first } ∷ marks) first events)
    → (k : ℕ) → P (record { clock = clock_after t (take k events); acknowledged = acked first (take k events) })
at_each P t first marks [] all zero = all zero (record { clock = t; acknowledged = first }) (omega arith)
at_each P t first marks [] all (suc k) = all zero (record { clock = t; acknowledged = first }) (omega arith)
at_each P t first marks (e ∷ events) all zero =
    older P (record { clock = t; acknowledged = first } ∷ marks) first (e ∷ events) all zero (record { clock = t; acknowledged = first })
    (omega arith)
at_each P t first marks (e ∷ events) all (suc k) =
    at_each P e.clock (acked_by first e.event) (record { clock = t; acknowledged = first } ∷ marks) events all k

-- if every moment of a run holds, the run satisfies `CrashPrefix`
pub crash_prefix : (d : Disk) (begun first : ℕ) (start : State) (events : List Stamp) → legal start (accepted events) ≡ true
    → RiseByOne first (numbers events)
    → All (λ mark. IsTrue d.honest → (image : Image) → IsImageSince mark.clock d.content image
    → HasPrefix d.sectors first start (accepted events) mark.acknowledged image) (marks_of begun first events)
    → CrashPrefix d begun first start events
crash_prefix d begun first start events passes rise all = record {
  passes = passes;
  rise = rise;
  images = λ h k image left.
      at_each (λ mark. IsTrue d.honest → (image : Image) → IsImageSince mark.clock d.content image
      → HasPrefix d.sectors first start (accepted events) mark.acknowledged image)
      begun first [] events all k h image left;
}
