-- Batches and checkpoints one after another are one run.
use Rattle.std.proofs.Common.{◌≡◌, ◌<◌, ℕ, zero, suc, ◌+◌, inl, true, IsTrue, List, [], ◌∷◌, ◌++◌, length, take, refl, sym, ◌∙◌, subst}
use Rattle.std.proofs.Common.{arith, append_assoc, append-nil, length-append}
use Rattle.std.proofs.lemmas.List.Sums.{fold-append}
use Rattle.iol_types.specs.Command.{CommandValue}
use Rattle.iol_types.specs.State.{State, apply, after, legal}
use Rattle.iol_types.proofs.StateLemmas.{legal-append}
use Rattle.iol_disk.specs.Content.{Image, IsImageSince, clock}
use Rattle.iol_disk.specs.Disk.{Disk}
use Rattle.iol_journal.specs.Runs.{Mark, Run, HasPrefix, IsRun, number_of, state_of, with_commands, with_batch_begun}
use Rattle.iol_journal.specs.Stretches.{Stretch, commands_in, disk_after, AreStretches}
use Rattle.iol_journal.proofs.RunLaws.{accepts, batch_begins, batch_stays, batch_ends, marked}

-- a run that has written all that it accepted
abbrev resting : ℕ → State → List CommandValue → List Mark → Run
resting first start written marks = record { first = first; start = start; written = written; underway = []; queued = []; marks = marks }

-- what holds at the number and the state after more commands
at_end : (P : ℕ → State → Type 0) (first : ℕ) (start : State) (written commands : List CommandValue)
    → P (first + length written + length commands) (after (after start written) commands)
    → P (first + length (written ++ commands)) (after start (written ++ commands))
at_end P first start written commands p =
    subst (λ (n : ℕ). P n (after start (written ++ commands))) (omega (arith, length-append written commands))
    (subst (P (first + length written + length commands)) (sym (fold-append apply start written commands)) p)

-- stretches keep a run
from_rest : (old : Disk) (first : ℕ) (start : State) (written : List CommandValue) (marks : List Mark) (stretches : List Stretch)
    → IsRun old (resting first start written marks)
    → AreStretches old (first + length written) (after start written) stretches
    → IsRun (disk_after old stretches) (resting first start (written ++ commands_in stretches) marks)
from_rest old first start written marks [] run all =
    subst (λ (cs : List CommandValue). IsRun old (resting first start cs marks)) (sym (append-nil written)) run
from_rest old first start written marks (s ∷ stretches) run (means, passes, leaves, others) =
    subst (λ (cs : List CommandValue). IsRun (disk_after s.disk stretches) (resting first start cs marks))
    (append_assoc written s.commands (commands_in stretches))
    (from_rest s.disk first start (written ++ s.commands) marks stretches ended
    (at_end (λ n state. AreStretches s.disk n state stretches) first start written s.commands others))
  where
    accepted_all : IsRun old (with_commands (resting first start written marks) s.commands)
    accepted_all =
        accepts old (resting first start written marks) s.commands
        (subst (λ (cs : List CommandValue). legal (after start cs) s.commands ≡ true) (sym (append-nil written)) passes) run

    underway : IsRun old (with_batch_begun (with_commands (resting first start written marks) s.commands) s.commands [])
    underway = batch_begins old (with_commands (resting first start written marks) s.commands) s.commands [] refl
        (sym (append-nil s.commands)) accepted_all

    ended : IsRun s.disk (resting first start (written ++ s.commands) marks)
    ended = batch_ends s.disk _ (batch_stays old s.disk _ leaves underway)

pub stretches_keep_a_run : (old : Disk) (r : Run) (stretches : List Stretch) → r.underway ≡ [] → r.queued ≡ []
    → AreStretches old (number_of r) (state_of r) stretches
    → IsRun old r → IsRun (disk_after old stretches) (record r { written = r.written ++ commands_in stretches })
stretches_keep_a_run old r stretches none empty all run =
    rw (none, empty) (from_rest old r.first r.start r.written r.marks stretches rested all)
  where
    rested : IsRun old (resting r.first r.start r.written r.marks)
    rested =
        subst (λ (cs : List CommandValue).
        IsRun old (record { first = r.first; start = r.start; written = r.written; underway = []; queued = cs; marks = r.marks })) empty
        (subst (λ (cs : List CommandValue).
        IsRun old (record { first = r.first; start = r.start; written = r.written; underway = cs; queued = r.queued; marks = r.marks }))
        none run)

-- the size and the honesty of the disk stay
same_sectors : (old : Disk) (number : ℕ) (state : State) (stretches : List Stretch) → AreStretches old number state stretches
    → (disk_after old stretches).sectors ≡ old.sectors
same_sectors old number state [] all = refl
same_sectors old number state (s ∷ stretches) (means, passes, leaves, others) = same_sectors s.disk _ _ stretches others ∙ leaves.sectors

same_honest : (old : Disk) (number : ℕ) (state : State) (stretches : List Stretch) → AreStretches old number state stretches
    → (disk_after old stretches).honest ≡ old.honest
same_honest old number state [] all = refl
same_honest old number state (s ∷ stretches) (means, passes, leaves, others) = same_honest s.disk _ _ stretches others ∙ leaves.honest

-- after written commands
prefix_after : (old : Disk) (first : ℕ) (start : State) (written : List CommandValue) (stretches : List Stretch) (k : ℕ) → k
    < length stretches
    → legal start written ≡ true
    → AreStretches old (first + length written) (after start written) stretches
    → IsTrue old.honest → (image : Image)
    → IsImageSince (clock (disk_after old (take k stretches)).content) (disk_after old stretches).content image
    → HasPrefix old.sectors first start (written ++ commands_in stretches) (first + length (written ++ commands_in (take k stretches)))
    image
prefix_after old first start written [] k below passes all h image left = absurd (omega (arith, below))
prefix_after old first start written (s ∷ stretches) zero below passes all h image left =
    let now : Mark = record { clock = clock old.content; acknowledged = first + length written } in
    let nothing : IsRun old (resting first start written []) = record {
      passes = subst (λ (cs : List CommandValue). legal start cs ≡ true) (sym (append-nil written)) passes;
      marks = λ k mark none. absurd (omega (arith, none));
    } in
    let run : IsRun (disk_after old (s ∷ stretches)) (resting first start (written ++ commands_in (s ∷ stretches)) (now ∷ [])) =
    from_rest old first start written (now ∷ []) (s ∷ stretches)
    (marked old (resting first start written []) (first + length written) (omega arith) (λ h image is. inl (all.0 h image is)) nothing)
    all in
    let has = (run.marks zero now (omega arith)).each (subst IsTrue (sym (same_honest old _ _ (s ∷ stretches) all)) h) image left in
    subst (λ (n : ℕ). HasPrefix n first start (written ++ commands_in (s ∷ stretches)) (first + length (written ++ [])) image)
    (same_sectors old _ _ (s ∷ stretches) all)
    (rw (append-nil written, ← append-nil (written ++ commands_in (s ∷ stretches))) has)
prefix_after old first start written (s ∷ stretches) (suc k) below passes (means, pass, leaves, others) h image left =
    subst (λ (n : ℕ). HasPrefix n first start (written ++ commands_in (s ∷ stretches)) (first
    + length (written ++ commands_in (take (suc k) (s ∷ stretches)))) image) leaves.sectors
    (rw (← append_assoc written s.commands (commands_in stretches), ← append_assoc written s.commands (commands_in (take k stretches)))
    (prefix_after s.disk first start (written ++ s.commands) stretches k (omega (arith, below))
    (rw (legal-append start written s.commands, passes, pass) refl)
    (at_end (λ n state. AreStretches s.disk n state stretches) first start written s.commands others)
    (subst IsTrue (sym leaves.honest) h) image left))

-- each image since the beginning of a stretch has the commands of those before it
pub stretches_keep_what_is_written : (old : Disk) (number : ℕ) (state : State) (stretches : List Stretch)
    → AreStretches old number state stretches
    → (k : ℕ) → k < length stretches → IsTrue old.honest → (image : Image)
    → IsImageSince (clock (disk_after old (take k stretches)).content) (disk_after old stretches).content image
    → HasPrefix old.sectors number state (commands_in stretches) (number + length (commands_in (take k stretches))) image
stretches_keep_what_is_written old number state stretches all k below =
    prefix_after old number state [] stretches k below refl (subst (λ (n : ℕ). AreStretches old n state stretches) (omega arith) all)
