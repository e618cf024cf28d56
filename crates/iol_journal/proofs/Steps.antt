-- What a step of a batch does to the disk, by its one call.
use Rattle.std.proofs.Common.{◌≡◌, ◌≤◌, ℕ, ◌+◌, nat_lt, if◌then◌else◌, Bool, true, false}
use Rattle.std.proofs.Common.{List, [], ◌∷◌, Option, Some, None, IsTrue, Result, Ok, Err, refl, sym, ◌∙◌, ap, subst, arith}
use Rattle.std.proofs.lemmas.Bool.Decides.{nat_tests}
use Rattle.iol_types.specs.Command.{CommandValue}
use Rattle.iol_disk.specs.Calls.{Call, Made, FailedIn, Makes, MakesFirst}
use Rattle.iol_disk.specs.Disk.{Disk}
use Rattle.iol_disk.specs.Moments.{LeavesOnly}
use Rattle.iol_disk.specs.declared.fault.DiskFault.{DiskFault}
use Rattle.iol_disk.proofs.DiskLaws.{HasOnTheWay, made_leaves, failed_leaves}
use Rattle.iol_disk.specs.Content.{EachImage}
use Rattle.iol_journal.specs.Batches.{body_for, sectors_for, call_of, calls_from, next_phase, IsPhase}
use Rattle.iol_journal.specs.Journals.{WritingView}
use Rattle.iol_journal.specs.Planned.{IsPlanned, IsPlan}
use Rattle.iol_layout.specs.Standings.{IsResting, with_batch}
use Rattle.iol_layout.specs.Kept.{KeptEither, IsKeptAs}
use Rattle.iol_layout.specs.Meaning.{Standing}
use Rattle.iol_journal.specs.Phases.{Holds}
use Rattle.iol_journal.specs.Underway.{IsUnderway}
use Rattle.iol_layout.specs.declared.idle.Idle.{Idle}
use Rattle.iol_layout.specs.Layout.{total}
use Rattle.iol_journal.specs.declared.phase.Phase.{Phase}
use Rattle.iol_journal.specs.declared.phase.Phase.TheVariants.{Body, SyncBody, Gate, SyncGate}
use Rattle.iol_journal.specs.declared.plan.Plan.{Plan}
use Rattle.iol_journal.proofs.BatchCalls.{rests_with, phase_of, first_call, last_call, some_call}
use Rattle.iol_journal.proofs.Phases.{fit_of, on_the_way, next_holds, batch_durable}

-- the phase after a phase is a valid one
in_next : (sectors : ℕ) (p q : Phase) → IsPhase sectors p → next_phase sectors p ≡ Some q → IsPhase sectors q
in_next sectors (Body j) q in_phase next = by_test (nat_lt (j + 1) sectors) refl (phase_of _ q next)
  where
    by_test : (more : Bool) → nat_lt (j + 1) sectors ≡ more → (if more then Body (j + 1) else SyncBody) ≡ q → IsPhase sectors q
    by_test true test is = subst (IsPhase sectors) is (grind (arith, nat_tests))
    by_test false test is = subst (IsPhase sectors) is tt
in_next sectors SyncBody q in_phase next = subst (IsPhase sectors) (phase_of _ q next) tt
in_next sectors Gate q in_phase next = subst (IsPhase sectors) (phase_of _ q next) tt
in_next sectors SyncGate q in_phase next = cc

-- the call of a phase, for the body that the batch has
body_is : (s : Standing) (commands : List CommandValue) (body : List ℕ) (p : Phase) (result : Result Unit DiskFault) (old new : Disk) → body
    ≡ body_for s commands
    → Makes (call_of s body p ∷ []) old new result → Makes (call_of s (body_for s commands) p ∷ []) old new result
body_is s commands body p result old new is makes = subst (λ (b : List ℕ). Makes (call_of s b p ∷ []) old new result) is makes

module _ (s : Standing) (idle : Idle) (commands : List CommandValue) (body : List ℕ) (sectors : ℕ) (p : Phase) (old new : Disk)
    (planned : IsPlanned old s commands p) (same_body : body ≡ body_for s commands) (same_sectors : sectors ≡ sectors_for s commands) where
  abbrev Before : Type 0
  Before = IsTrue old.honest → Holds old.sectors s idle commands (body_for s commands) (sectors_for s commands) p old.content

  -- at any moment of the call
  pub moment : (result : Result Unit DiskFault) → Makes (call_of s body p ∷ []) old new result → Before
      → LeavesOnly old new (KeptEither old.sectors s.number s.state commands)
  moment result makes holds = by_result result (body_is s commands body p result old new same_body makes)
    where
      way : IsTrue old.honest
          → HasOnTheWay (call_of s (body_for s commands) p ∷ []) old.content (KeptEither old.sectors s.number s.state commands)
      way h = on_the_way s idle commands (body_for s commands) (sectors_for s commands) (fit_of old s commands p planned) old.sectors p
          old.content planned.in_phase (holds h)

      by_result : (result : Result Unit DiskFault) → Makes (call_of s (body_for s commands) p ∷ []) old new result
          → LeavesOnly old new (KeptEither old.sectors s.number s.state commands)
      by_result (Ok done) made = made_leaves _ old new _ made way
      by_result (Err told) failed = failed_leaves _ told old new _ failed way

  next_is : (q : Option Phase) → q ≡ next_phase sectors p → q ≡ next_phase (sectors_for s commands) p
  next_is q is = is ∙ ap (λ (n : ℕ). next_phase n p) same_sectors

  -- before the next call
  pub underway : (q : Phase) → Some q ≡ next_phase sectors p → Made (call_of s body p ∷ []) old new → Before
      → IsTrue new.honest → Holds new.sectors s idle commands (body_for s commands) (sectors_for s commands) q new.content
  underway q is made holds =
      next_holds s idle commands (body_for s commands) (sectors_for s commands) (fit_of old s commands p planned) old new p q
      planned.in_phase
      (sym (next_is (Some q) is)) (subst (λ (b : List ℕ). Made (call_of s b p ∷ []) old new) same_body made) holds

  -- after the last call
  pub durable : None ≡ next_phase sectors p → Made (call_of s body p ∷ []) old new → Before
      → IsTrue new.honest → EachImage new.content (IsKeptAs new.sectors (with_batch s commands) idle)
  durable is made holds =
      batch_durable s idle commands (body_for s commands) (sectors_for s commands) (fit_of old s commands p planned) old new p
      (sym (next_is None is)) (subst (λ (b : List ℕ). Made (call_of s b p ∷ []) old new) same_body made) holds

  pub planned_next : (q : Phase) → Some q ≡ next_phase sectors p → Made (call_of s body p ∷ []) old new → IsPlanned new s commands q
  planned_next q is made = record {
    laid_out = planned.laid_out;
    fits = subst (λ (n : ℕ). total s.layout ≤ n) (sym made.after.sectors) planned.fits;
    follows = planned.follows;
    in_phase = in_next (sectors_for s commands) p q planned.in_phase (sym (next_is (Some q) is));
    begun = planned.begun;
    count = planned.count;
  }

  abbrev left : Phase → List Call
  left q = calls_from s (body_for s commands) (sectors_for s commands) q

  -- the first of the remaining calls is made, or fails
  pub makes_first : (q : Phase) → Some q ≡ next_phase sectors p → Made (call_of s body p ∷ []) old new
      → MakesFirst (left p) (left q) old new (Ok tt)
  makes_first q is made = record {
    call = call_of s (body_for s commands) p;
    order = first_call s (body_for s commands) (sectors_for s commands) p q planned.in_phase (sym (next_is (Some q) is));
    makes = subst (λ (b : List ℕ). Made (call_of s b p ∷ []) old new) same_body made;
  }

  pub makes_last : None ≡ next_phase sectors p → Made (call_of s body p ∷ []) old new → MakesFirst (left p) [] old new (Ok tt)
  makes_last is made = record {
    call = call_of s (body_for s commands) p;
    order = last_call s (body_for s commands) (sectors_for s commands) p (sym (next_is None is));
    makes = subst (λ (b : List ℕ). Made (call_of s b p ∷ []) old new) same_body made;
  }

  pub fails_first : (told : DiskFault) → FailedIn (call_of s body p ∷ []) told old new
      → (others : List Call) × MakesFirst (left p) others old new (Err told)
  fails_first told failed =
      let some = some_call s (body_for s commands) (sectors_for s commands) p planned.in_phase in (
        some.0,
        record {
          call = call_of s (body_for s commands) p;
          order = some.1;
          makes = subst (λ (b : List ℕ). FailedIn (call_of s b p ∷ []) told old new) same_body failed;
        },
      )

-- the journal is at rest after its last call
pub resting_after : (d d' : Disk) (s : Standing) (commands : List CommandValue) (p : Phase) → IsPlanned d s commands p → d'.sectors
    ≡ d.sectors → IsResting d' (with_batch s commands)
resting_after d d' s commands p planned same = rests_with d' s commands planned.follows
    (subst (λ (n : ℕ). total s.layout ≤ n) (sym same) planned.fits) planned.laid_out planned.begun planned.count

-- the same of the batch as contracts see it
pub moment_of : {D : Type 0} (disk : D → Disk) {w v : WritingView D} {plan : Plan} (left : D) (result : Result Unit DiskFault) → w ≡ v
    → IsPlanned (disk w.disk) w.standing w.commands w.phase → IsPlan w.standing w.commands plan
    → Makes (call_of w.standing plan.body.octets.items w.phase ∷ []) (disk w.disk) (disk left) result → IsUnderway disk v
    → LeavesOnly (disk v.disk) (disk left) (KeptEither (disk v.disk).sectors v.standing.number v.standing.state v.commands)
moment_of {D = D} disk {w = w} {plan = plan} left result view planned is_plan makes =
    subst (λ (u : WritingView D). IsUnderway disk u
    → LeavesOnly (disk u.disk) (disk left) (KeptEither (disk u.disk).sectors u.standing.number u.standing.state u.commands)) view
    (moment w.standing w.idle w.commands plan.body.octets.items plan.body.sectors w.phase (disk w.disk) (disk left) planned
    is_plan.body.octets is_plan.body.sectors result makes)
