-- The disk calls of a batch, one after another.
use Rattle.std.proofs.Common.{◌≡◌, ◌≤◌, ◌<◌, ℕ, suc, ◌+◌, ◌-◌, ◌*◌, nat_lt, if◌then◌else◌, Bool, true, false, List, [], ◌∷◌, ◌++◌, length}
use Rattle.std.proofs.Common.{map, Some, None, refl, ◌∙◌, ap, arith, length-append}
use Rattle.std.specs.List.{range_with_len}
use Rattle.std.proofs.lemmas.Bool.Decides.{nat_tests}
use Rattle.std.proofs.lemmas.List.FromFn.{length-map-range_with_len}
use Rattle.iol_types.specs.Command.{CommandValue}
use Rattle.iol_disk.specs.Calls.{Call, sync}
use Rattle.iol_journal.specs.Batches.{body_for, sectors_for, body_write, gate_write, batch_calls, calls_from, call_of, next_phase, IsPhase}
use Rattle.iol_layout.specs.Body.{slots_for, fits}
use Rattle.iol_layout.specs.Meaning.{Standing}
use Rattle.iol_disk.specs.declared.slot.TheConstants.{BODY_SECTORS}
use Rattle.iol_journal.specs.declared.phase.Phase.{Phase}
use Rattle.iol_journal.specs.declared.phase.Phase.TheVariants.{Body, SyncBody, Gate, SyncGate}
use Rattle.std.proofs.Common.{◌≡◌, ◌≤◌, ◌<◌, ℕ, suc, ◌+◌, ◌*◌, ◌-◌, true, List, [], ◌∷◌, ◌++◌, length}
use Rattle.std.proofs.Common.{Some, refl, ◌∙◌, ap, arith, length-append}
use Rattle.std.proofs.Common.{◌≡◌, ◌≤◌, ℕ, ◌+◌, nat_lt, if◌then◌else◌, Bool, true, false}
use Rattle.std.proofs.Common.{List, [], ◌∷◌, length, Some, None, refl, ◌∙◌, ap, arith}
use Rattle.iol_types.proofs.StateLemmas.{length-after}
use Rattle.iol_disk.specs.Disk.{Disk}
use Rattle.iol_journal.specs.Planned.{CanFollow}
use Rattle.iol_layout.specs.Standings.{IsResting, with_batch}
use Rattle.iol_layout.specs.Header.{epochs_ahead}
use Rattle.iol_layout.specs.Layout.{IsLayout, total}
use Rattle.iol_layout.proofs.Bodies.{length-body}

pub phase_of : (p q : Phase) → Some p ≡ Some q → p ≡ q
phase_of p q is = cc

module _ (s : Standing) (body : List ℕ) (sectors : ℕ) where
  abbrev last_calls : List Call
  last_calls = sync ∷ gate_write s ∷ sync ∷ []

  -- a sector of the body, and those after it
  body_first : (j : ℕ) → j < sectors → calls_from s body sectors (Body j) ≡ body_write s body j ∷ calls_from s body sectors (Body (j + 1))
  body_first j below =
      let left : sectors - j ≡ suc (sectors - (j + 1)) = omega arith in
      ap (λ (n : ℕ). map (λ i. body_write s body i) (range_with_len j n) ++ last_calls) left

  -- after the last sector of the body
  body_ended : (j : ℕ) → sectors ≡ j + 1 → calls_from s body sectors (Body (j + 1)) ≡ last_calls
  body_ended j is = let none : sectors - (j + 1) ≡ 0 = omega arith in
      ap (λ (n : ℕ). map (λ i. body_write s body i) (range_with_len (j + 1) n) ++ last_calls) none

  -- the call of a phase, and those from the next phase on
  pub first_call : (p q : Phase) → IsPhase sectors p → next_phase sectors p ≡ Some q → calls_from s body sectors p ≡ call_of s body p
      ∷ calls_from s body sectors q
  first_call (Body j) q in_phase next = by_test (nat_lt (j + 1) sectors) refl (phase_of _ q next)
    where
      by_test : (more : Bool) → nat_lt (j + 1) sectors ≡ more → (if more then Body (j + 1) else SyncBody) ≡ q
          → calls_from s body sectors (Body j) ≡ body_write s body j ∷ calls_from s body sectors q
      by_test true test is = body_first j in_phase ∙ ap (λ (p : Phase). body_write s body j ∷ calls_from s body sectors p) is
      by_test false test is =
          let last : sectors ≡ j + 1 = grind (arith, nat_tests) in
          body_first j in_phase ∙ ap (λ (calls : List Call). body_write s body j ∷ calls) (body_ended j last)
          ∙ ap (λ (p : Phase). body_write s body j ∷ calls_from s body sectors p) is
  first_call SyncBody q in_phase next = ap (λ (p : Phase). sync ∷ calls_from s body sectors p) (phase_of _ q next)
  first_call Gate q in_phase next = ap (λ (p : Phase). gate_write s ∷ calls_from s body sectors p) (phase_of _ q next)
  first_call SyncGate q in_phase next = cc

  pub last_call : (p : Phase) → next_phase sectors p ≡ None → calls_from s body sectors p ≡ call_of s body p ∷ []
  last_call (Body j) none = cc
  last_call SyncBody none = cc
  last_call Gate none = cc
  last_call SyncGate none = refl

  pub some_call : (p : Phase) → IsPhase sectors p → (left : List Call) × (calls_from s body sectors p ≡ call_of s body p ∷ left)
  some_call (Body j) in_phase = (calls_from s body sectors (Body (j + 1)), body_first j in_phase)
  some_call SyncBody in_phase = (gate_write s ∷ sync ∷ [], refl)
  some_call Gate in_phase = (sync ∷ [], refl)
  some_call SyncGate in_phase = ([], refl)

-- the calls from the first phase on are all calls
pub all_calls : (s : Standing) (commands : List CommandValue) → calls_from s (body_for s commands) (sectors_for s commands) (Body 0)
    ≡ batch_calls s commands
all_calls s commands =
    let all : sectors_for s commands - 0 ≡ sectors_for s commands = omega arith in
    ap (λ (n : ℕ). map (λ j. body_write s (body_for s commands) j) (range_with_len 0 n) ++ (sync ∷ gate_write s ∷ sync ∷ [])) all

-- there are three calls, and one for each sector of the body
pub length-batch_calls : (s : Standing) (commands : List CommandValue) → length (batch_calls s commands) ≡ sectors_for s commands + 3
length-batch_calls s commands =
    omega (
      arith,
      length-append (map (λ j. body_write s (body_for s commands) j) (range_with_len 0 (sectors_for s commands))) (sync ∷ gate_write s
          ∷ sync ∷ []),
      length-map-range_with_len (λ j. body_write s (body_for s commands) j) 0 (sectors_for s commands),
    )

-- so there are at most 16 calls for each slot, and three more
pub at_most : (s : Standing) (commands : List CommandValue) → sectors_for s commands ≤ BODY_SECTORS * slots_for commands
    → length (calls_from s (body_for s commands) (sectors_for s commands) (Body 0)) ≤ BODY_SECTORS * slots_for commands + 3
at_most s commands short = omega (arith, ap (λ (calls : List Call). length calls) (all_calls s commands), length-batch_calls s commands)

-- a batch has at least one sector
pub sectors_for-some : (s : Standing) (commands : List CommandValue) → 1 ≤ sectors_for s commands
sectors_for-some s commands = omega (arith, length-body s.epoch (s.number + 1) commands)

-- it has the same number of sectors in each area
pub sectors_for-same : (s t : Standing) (commands : List CommandValue) → sectors_for s commands ≡ sectors_for t commands
sectors_for-same s t commands =
    omega (arith, length-body s.epoch (s.number + 1) commands, length-body t.epoch (t.number + 1) commands)

-- after a batch a journal can continue
pub rests_with : (d : Disk) (s : Standing) (commands : List CommandValue) → CanFollow s commands → total s.layout ≤ d.sectors
    → IsLayout s.layout → s.epoch ≤ s.number + epochs_ahead s.layout.version → length s.state ≡ s.layout.ports
    → IsResting d (with_batch s commands)
rests_with d s commands follows fits laid_out begun count = record {
  laid_out = laid_out;
  fits = fits;
  within = follows.room;
  bound = follows.bound;
  begun = omega (arith, begun);
  in_use = λ some. omega (arith, begun, follows.batch.some);
  count = length-after s.state commands ∙ count;
}
