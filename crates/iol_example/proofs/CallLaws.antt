-- The disk calls of a write, one after the other.
use Rattle.std.proofs.Common.{◌≡◌, Bool, false, if◌then◌else◌, List, [], ◌∷◌, ◌++◌, Result, Ok, Err, refl, sym, ◌∙◌, ap, subst, arith}
use Rattle.std.specs.Prelude.{nat_lt}
use mathlib.Core.List.{append_assoc, append-nil}
use Rattle.iol_disk.specs.Calls.{Call, Made, FailedIn, MakesFirst}
use Rattle.iol_disk.specs.Disk.{Disk}
use Rattle.iol_disk.specs.declared.fault.DiskFault.{DiskFault}
use Rattle.iol_disk.proofs.DiskLaws.{failed_first, failed_later, made_append, made_none}
use Rattle.iol_journal.specs.BegunViews.{BegunView}
use Rattle.iol_journal.specs.CheckpointViews.{begun_in}
use Rattle.iol_journal.specs.Pauses.{calls_of, end_in}
use Rattle.iol_journal.specs.Journals.{JournalView}
use Rattle.iol_journal.specs.Meaning.{Standing}
use Rattle.iol_journal.specs.Standings.{free_slots}
use Rattle.iol_example.specs.Store.{freeing_calls, with_slot, MakesCalls}
use Rattle.iol_example.specs.declared.store.WriteFault.{WriteFault}
use Rattle.iol_example.specs.declared.store.WriteFault.TheVariants.{Refused, Failed}

-- the calls before those that are left were made
pub record IsAhead (calls left : List Call) (old now : Disk) : Type 0 where
  pub first : List Call
  pub order : calls ≡ first ++ left
  pub made : Made first old now

pub unchanged : (d : Disk) → Made [] d d
unchanged d = made_none d d (record { sectors = refl; honest = refl; failures = omega arith; content = λ h. refl }) refl

-- before the first call
pub none_yet : (calls left : List Call) (old now : Disk) → left ≡ calls → now ≡ old → IsAhead calls left old now
none_yet calls left old now same_calls same = record {
  first = [];
  order = sym same_calls;
  made = subst (Made [] old) (sym same) (unchanged old);
}

-- after one more call
pub one_more : (calls left rest : List Call) (old now new : Disk) → IsAhead calls left old now → MakesFirst left rest now new (Ok tt)
    → IsAhead calls rest old new
one_more calls left rest old now new so_far makes = record {
  first = so_far.first ++ makes.call ∷ [];
  order = so_far.order ∙ (ap (λ (cs : List Call). so_far.first ++ cs) makes.order ∙ sym (append_assoc so_far.first (makes.call ∷ []) rest));
  made = made_append so_far.first (makes.call ∷ []) old now new so_far.made makes.makes;
}

-- after the last call
pub all_made : (calls left : List Call) (old now new : Disk) → IsAhead calls left old now → MakesFirst left [] now new (Ok tt)
    → Made calls old new
all_made calls left old now new so_far makes =
    let all = one_more calls left [] old now new so_far makes in
    subst (λ (cs : List Call). Made cs old new) (sym (all.order ∙ append-nil all.first)) all.made

-- if the next call failed
pub one_failed : (calls left : List Call) (fault : DiskFault) (old now new : Disk) → IsAhead calls left old now
    → (others : List Call) × MakesFirst left others now new (Err fault)
    → FailedIn calls fault old new
one_failed calls left fault old now new so_far (others, fails) =
    subst (λ (cs : List Call). FailedIn cs fault old new) (sym (so_far.order ∙ ap (λ (cs : List Call). so_far.first ++ cs) fails.order))
    (failed_later so_far.first (fails.call ∷ others) fault old now new so_far.made
    (failed_first (fails.call ∷ []) others fault now new fails.makes))

-- calls that ended in a fault before others could follow
pub ended_early : {D : Type 0} (disk : D → Disk) (first second : List Call) (old : Disk) (fault : WriteFault D)
    → MakesCalls disk first old (Err fault) → MakesCalls disk (first ++ second) old (Err fault)
ended_early disk first second old (Refused back cause) makes = record {
  first = makes.first;
  left = makes.left ++ second;
  order = ap (λ (cs : List Call). cs ++ second) makes.order ∙ append_assoc makes.first makes.left second;
  made = makes.made;
}
ended_early disk first second old (Failed left fault) makes = failed_first first second fault old (disk left) makes

-- calls after others that were made
pub then_makes : {D : Type 0} (disk : D → Disk) (first second : List Call) (old between : Disk)
    (answer : Result (JournalView D) (WriteFault D))
    → Made first old between → MakesCalls disk second between answer → MakesCalls disk (first ++ second) old answer
then_makes disk first second old between (Ok behind) made makes = made_append first second old between (disk behind.disk) made makes
then_makes disk first second old between (Err (Refused back cause)) made makes = record {
  first = first ++ makes.first;
  left = makes.left;
  order = ap (λ (cs : List Call). first ++ cs) makes.order ∙ sym (append_assoc first makes.first makes.left);
  made = made_append first makes.first old between (disk back.disk) made makes.made;
}
then_makes disk first second old between (Err (Failed left fault)) made makes =
    failed_later first second fault old between (disk left) made makes

-- the end of a checkpoint, and its calls, depend on the standing of the journal and the progress of the checkpoint
pub same_end : (s t : Standing) (b c : BegunView) → s ≡ t → b ≡ c → end_in s b ≡ end_in t c
same_end s t b c same same_begun = rw (same, same_begun) refl

pub same_calls : (s t : Standing) (b c : BegunView) → s ≡ t → b ≡ c → calls_of s b ≡ calls_of t c
same_calls s t b c same same_begun = rw (same, same_begun) refl

-- if no slot is free, the calls of a checkpoint free one
pub none_free : {D : Type 0} (j : JournalView D) → nat_lt 0 (free_slots j.standing) ≡ false
    → calls_of j.standing (begun_in j) ≡ freeing_calls j
none_free j full = sym (ap (λ (free : Bool). if free then [] else calls_of j.standing (begun_in j)) full)

-- if no slot is free, the journal has one after a checkpoint
pub full_slot : {D : Type 0} (j : JournalView D) → nat_lt 0 (free_slots j.standing) ≡ false
    → end_in j.standing (begun_in j) ≡ with_slot j
full_slot j full = sym (ap (λ (free : Bool). if free then j.standing else end_in j.standing (begun_in j)) full)
