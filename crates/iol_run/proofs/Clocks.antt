-- The disk's clock does not go back in a step.
use Rattle.std.proofs.Common.{◌≡◌, refl, ◌≤◌, ℕ, Bool, IsTrue, List, [], ◌∷◌, ◌++◌, take, Ok, Err, sym, ◌∙◌, subst, arith}
use Rattle.iol_disk.proofs.Images.{follows-wrote, follows-synced}
use Rattle.iol_disk.specs.Calls.{Call, write, sync, Made, LeftBy, content_after, content_after_all, MakesFirst}
use Rattle.iol_disk.specs.Content.{Content, clock, wrote}
use Rattle.iol_disk.specs.Disk.{Disk, After}
use Rattle.iol_disk.specs.declared.fault.DiskFault.{DiskFault}
use Rattle.iol_flush.specs.Stages.{disk_of}
use Rattle.iol_journal.specs.Journals.{JournalView}
use Rattle.iol_link.specs.Link.{LinkCall, LinkAnswer}
use Rattle.iol_core.specs.Events.{Event, Stamp, stamped}
use Rattle.iol_run.proofs.DiskSteps.{DiskStep, Stays, Makes, Fails, disk_step}
use Rattle.iol_run.specs.Clocks.{ClocksRise}
use Rattle.iol_run.specs.CoreOnDisk.{clock_of}
use Rattle.iol_run.specs.Runs.{RunView}
use Rattle.iol_run.specs.Schedules.{IsFresh}
use Rattle.iol_run.specs.Tasks.{HasMade}
use Rattle.iol_run.specs.declared.step.Step.{Step}

-- a disk became another, which is honest if the first was, and whose clock is then later or the same
record IsLater (old new : Disk) : Type 0 where
  pub honest : new.honest ≡ old.honest
  pub clocks : IsTrue old.honest → clock old.content ≤ clock new.content

later_same : (disk : Disk) → IsLater disk disk
later_same disk = record { honest = refl; clocks = λ h. omega arith }

later_still : (old mid new : Disk) → IsLater old mid → IsLater mid new → IsLater old new
later_still old mid new one two = record {
  honest = two.honest ∙ one.honest;
  clocks = λ h. omega (arith, one.clocks h, two.clocks (subst (λ (b : Bool). IsTrue b) (sym one.honest) h));
}

after_later : (change : Content → Content) → ((c : Content) → clock c ≤ clock (change c)) → (old new : Disk) → After change old new
    → IsLater old new
after_later change later old new is = record {
  honest = is.honest;
  clocks = λ h. subst (λ (c : Content). clock old.content ≤ clock c) (sym (is.content h)) (later old.content);
}

call_later : (call : Call) (c : Content) → clock c ≤ clock (content_after call c)
call_later (write n octets) c = (follows-wrote n octets c).later
call_later sync c = (follows-synced c).later

calls_later : (calls : List Call) (c : Content) → clock c ≤ clock (content_after_all calls c)
calls_later [] c = omega arith
calls_later (call ∷ calls) c = omega (arith, call_later call c, calls_later calls (content_after call c))

made_later : (calls : List Call) (old new : Disk) → Made calls old new → IsLater old new
made_later calls old new is = after_later (content_after_all calls) (calls_later calls) old new is.after

left_later : (call : Call) (old new : Disk) → LeftBy call old new → IsLater old new
left_later (write n octets) old new is = after_later (wrote n is.0) (λ c. (follows-wrote n is.0 c).later) old new is.1
left_later sync old new is = after_later (λ c. c) (λ c. omega arith) old new is

first_later : (calls left : List Call) (old new : Disk) → MakesFirst calls left old new (Ok tt) → IsLater old new
first_later calls left old new is = made_later (is.call ∷ []) old new is.makes

failed_later : (calls left : List Call) (why : DiskFault) (old new : Disk) → MakesFirst calls left old new (Err why) → IsLater old new
failed_later calls left why old new is =
    let failed = is.makes in
    later_still old failed.between new (made_later (take failed.place (is.call ∷ [])) old failed.between failed.before)
    (left_later failed.call failed.between new failed.left)

-- the disk is later after a step
step_later : (old new : Disk) (told : List Event) → DiskStep old new told → IsLater old new
step_later old new told (Stays same sound) = subst (λ (d : Disk). IsLater old d) (sym same) (later_same old)
step_later old new told (Makes calls left made silent) = first_later calls left old new made
step_later old new told (Fails calls left why failed telling) = failed_later calls left why old new failed

-- the clocks of events rise if all of them have one clock, which is not before that of the events before them
rise_stamped : (before t : ℕ) (told : List Event) → before ≤ t → ClocksRise before t (stamped t told)
rise_stamped before t [] le = le
rise_stamped before t (e ∷ told) le = (le, rise_stamped t t told (omega arith))

rise_more : (before mid t : ℕ) (events : List Stamp) (told : List Event) → ClocksRise before mid events → mid ≤ t
    → ClocksRise before t (events ++ stamped t told)
rise_more before mid t [] told rise le = rise_stamped before t told (omega (arith, rise, le))
rise_more before mid t (e ∷ events) told rise le = (rise.0, rise_more e.clock mid t events told rise.1 le)

module _ {D L : Type 0} (disk : D → Disk) (connection : L → ℕ) (allows : L → LinkCall → LinkAnswer → L → Type 0) where
  abbrev disk_at : RunView D L → Disk
  disk_at run = disk (disk_of run.master.flusher.stage)

  abbrev HasRisen : ℕ → RunView D L → Type 0
  HasRisen begun run = ClocksRise begun (clock_of disk run.master) run.events

  -- the clock of a run's disk does not go back, and the clocks of its events rise
  record GoesLater (begun : ℕ) (old new : RunView D L) : Type 0 where
    begun_is : new.begun ≡ old.begun
    later : IsLater (disk_at old) (disk_at new)
    rise : IsTrue (disk_at old).honest → HasRisen begun old → HasRisen begun new

  steps_later : (begun : ℕ) (steps : List Step) (waits : ℕ) (old new : RunView D L) → HasMade disk connection allows steps waits old new
      → GoesLater begun old new
  steps_later begun [] waits old new made =
      subst (λ (r : RunView D L). GoesLater begun old r) (sym made.1)
      (record { begun_is = refl; later = later_same (disk_at old); rise = λ h was. was })
  steps_later begun (step ∷ steps) waits old new made =
      let mid = made.2 in
      let one = step_later (disk_at old) (disk_at mid) made.3.0
      (disk_step disk connection allows step old.master mid.master old.ports mid.ports made.3.0 made.0 made.3.1) in
      let rest = steps_later begun steps made.1 mid new made.5 in
      record {
        begun_is = rest.begun_is ∙ made.3.3;
        later = later_still (disk_at old) (disk_at mid) (disk_at new) one rest.later;
        rise = λ h was.
            rest.rise (subst (λ (b : Bool). IsTrue b) (sym one.honest) h)
            (subst (λ (ss : List Stamp). ClocksRise begun (clock_of disk mid.master) ss) (sym made.3.2)
            (rise_more begun (clock_of disk old.master) (clock_of disk mid.master) old.events made.3.0 was (one.clocks h)));
      }

  -- the clocks of a schedule that was run from a fresh run rise
  pub clocks_rise : (steps : List Step) (waits : ℕ) (journal : JournalView D) (links : List L) (old new : RunView D L)
      → IsFresh disk journal links old
      → HasMade disk connection allows steps waits old new → IsTrue (disk_at new).honest
      → ClocksRise new.begun (clock_of disk new.master) new.events
  clocks_rise steps waits journal links old new fresh made honest =
      let all = steps_later old.begun steps waits old new made in
      subst (λ (t : ℕ). ClocksRise t (clock_of disk new.master) new.events) (sym all.begun_is)
      (all.rise (subst (λ (b : Bool). IsTrue b) all.later.honest honest)
      (subst (λ (ss : List Stamp). ClocksRise old.begun (clock_of disk old.master) ss) (sym fresh.events) (omega (arith, fresh.begun))))
