-- What keeps a run, in terms of disks and lists of commands only.
use Rattle.std.proofs.Common.{◌≡◌, ◌≤◌, inl, inr, ⊎_elim, ℕ, zero, suc, ◌+◌, true, IsTrue, List, [], ◌∷◌, ◌++◌, length, take}
use Rattle.std.proofs.Common.{slice_index_or, All, refl, sym, ◌∙◌, ap, subst, arith, append_assoc, length-append}
use Rattle.std.proofs.Math.Seq.{take-append_seam}
use Rattle.std.proofs.lemmas.List.{take-append-le}
use Rattle.std.proofs.lemmas.List.Sums.{fold-append}
use Rattle.iol_types.specs.Command.{CommandValue}
use Rattle.iol_types.specs.State.{State, apply, after, legal}
use Rattle.iol_types.proofs.StateLemmas.{legal-append}
use Rattle.iol_disk.specs.Content.{Image, IsImage, clock}
use Rattle.iol_disk.specs.Disk.{Disk}
use Rattle.iol_disk.specs.Moments.{LeavesOnly}
use Rattle.iol_disk.proofs.Images.{since-now}
use Rattle.iol_layout.specs.Kept.{KeptMeans, KeptEither, EachMeans}
use Rattle.iol_journal.specs.Runs.{Mark, Run, accepted, number_of, state_of, HasPrefix, IsMarked, IsRun, begun, with_mark, with_commands}
use Rattle.iol_journal.specs.Runs.{with_batch_begun, with_batch_written}

-- an image has this prefix of what a run has accepted
abbrev Has : ℕ → Run → ℕ → Image → Type 0
Has sectors r least image = HasPrefix sectors r.first r.start (accepted r) least image

-- a prefix that reaches a number reaches every smaller one
fewer : (sectors : ℕ) (r : Run) (least less : ℕ) (image : Image) → less ≤ least → Has sectors r least image → Has sectors r less image
fewer sectors r least less image le has =
    record { count = has.count; within = has.within; reaches = omega (arith, le, has.reaches); means = has.means }

-- the written commands are a prefix
written_prefix : (sectors : ℕ) (r : Run) (image : Image) → KeptMeans sectors (number_of r) (state_of r) image
    → Has sectors r (number_of r) image
written_prefix sectors r image kept = record {
  count = length r.written;
  within = omega (arith, length-append r.written (r.underway ++ r.queued));
  reaches = omega arith;
  means = subst (λ (cs : List CommandValue). KeptMeans sectors (number_of r) (after r.start cs) image)
      (sym (take-append_seam r.written (r.underway ++ r.queued))) kept;
}

-- and so are the written commands with the batch underway
underway_prefix : (sectors : ℕ) (r : Run) (image : Image)
    → KeptMeans sectors (number_of r + length r.underway) (after (state_of r) r.underway) image → Has sectors r (number_of r) image
underway_prefix sectors r image kept = record {
  count = length (r.written ++ r.underway);
  within = omega (
    arith,
    length-append r.written r.underway,
    length-append r.written (r.underway ++ r.queued),
    length-append r.underway r.queued,
  );
  reaches = omega (arith, length-append r.written r.underway);
  means = subst (λ (n : ℕ). KeptMeans sectors n (after r.start (take (length (r.written ++ r.underway)) (accepted r))) image)
      (omega (arith, length-append r.written r.underway))
      (subst (λ (s : State). KeptMeans sectors (number_of r + length r.underway) s image) same kept);
}
  where
    same : after (after r.start r.written) r.underway
        ≡ after r.start (take (length (r.written ++ r.underway)) (r.written ++ (r.underway ++ r.queued)))
    same =
        sym (fold-append apply r.start r.written r.underway)
        ∙ ap (after r.start) (sym (take-append_seam (r.written ++ r.underway) r.queued)
        ∙ ap (take (length (r.written ++ r.underway))) (append_assoc r.written r.underway r.queued))

pub either_prefix : (sectors : ℕ) (r : Run) (image : Image) → KeptEither sectors (number_of r) (state_of r) r.underway image
    → Has sectors r (number_of r) image
either_prefix sectors r image (inl kept) = written_prefix sectors r image kept
either_prefix sectors r image (inr kept) = underway_prefix sectors r image kept

-- a run stays one if each of its marks does
marks_by : (old new : Disk) (r s : Run) → s.marks ≡ r.marks → legal s.start (accepted s) ≡ true
    → ((mark : Mark) → IsMarked old r mark → IsMarked new s mark) → IsRun old r → IsRun new s
marks_by old new r s same passes goes run = record {
  passes = passes;
  marks = subst (All (IsMarked new s)) (sym same) (λ k mark below. goes (slice_index_or r.marks k mark) (run.marks k mark below));
}

-- calls keep a run if a power stop during them leaves images that have P, and each image with P has
-- what a mark says
keeps : (old new : Disk) (r : Run) (P : Image → Type 0) → LeavesOnly old new P
    → ((mark : Mark) → IsMarked old r mark → IsTrue old.honest → (image : Image) → P image → Has old.sectors r mark.acknowledged image)
    → IsRun old r → IsRun new r
keeps old new r P leaves has run = marks_by old new r r refl run.passes goes run
  where
    goes : (mark : Mark) → IsMarked old r mark → IsMarked new r mark
    goes mark was = record {
      written = was.written;
      passed = λ h. let h0 = subst IsTrue leaves.honest h in omega (arith, was.passed h0, leaves.later h0);
      each = λ h image left.
          let h0 = subst IsTrue leaves.honest h in
          subst (λ (n : ℕ). Has n r mark.acknowledged image) (sym leaves.sectors)
          (⊎_elim (was.each h0 image) (has mark was h0 image) (leaves.before h0 mark.clock image (was.passed h0) left));
    }

-- calls that add no image keep a run
pub no_image_added : (old new : Disk) (r : Run) → LeavesOnly old new (IsImage old.content) → IsRun old r → IsRun new r
no_image_added old new r leaves = keeps old new r (IsImage old.content) leaves (λ mark was h image is. was.each h image (inr is))

-- calls keep a run if a power stop during them leaves images with all written commands
pub stays : (old new : Disk) (r : Run) (P : Image → Type 0) → LeavesOnly old new P
    → ((image : Image) → P image → HasPrefix old.sectors r.first r.start (accepted r) (number_of r) image) → IsRun old r → IsRun new r
stays old new r P leaves has =
    keeps old new r P leaves (λ mark was h image p. fewer old.sectors r (number_of r) mark.acknowledged image was.written (has image p))

-- those of a checkpoint
pub checkpoint_stays : (old new : Disk) (r : Run) → LeavesOnly old new (KeptMeans old.sectors (number_of r) (state_of r)) → IsRun old r
    → IsRun new r
checkpoint_stays old new r leaves = stays old new r (KeptMeans old.sectors (number_of r) (state_of r)) leaves (written_prefix old.sectors r)

-- those of a batch
pub batch_stays : (old new : Disk) (r : Run) → LeavesOnly old new (KeptEither old.sectors (number_of r) (state_of r) r.underway)
    → IsRun old r → IsRun new r
batch_stays old new r leaves =
    stays old new r (KeptEither old.sectors (number_of r) (state_of r) r.underway) leaves (either_prefix old.sectors r)

-- the same commands, with more of them written
regrouped : (d : Disk) (r s : Run) → s.first ≡ r.first → s.start ≡ r.start → s.marks ≡ r.marks → accepted s ≡ accepted r → length r.written
    ≤ length s.written → IsRun d r → IsRun d s
regrouped d r s first start marks same more run =
    marks_by d d r s marks (rw (start, same) run.passes) goes run
  where
    goes : (mark : Mark) → IsMarked d r mark → IsMarked d s mark
    goes mark was = record {
      written = omega (arith, was.written, first, more);
      passed = was.passed;
      each = λ h image left. rw (first, start, same) (was.each h image left);
    }

-- a batch is begun of the first commands of the queue
pub batch_begins : (d : Disk) (r : Run) (batch behind : List CommandValue) → r.underway ≡ [] → r.queued ≡ batch ++ behind → IsRun d r
    → IsRun d (with_batch_begun r batch behind)
batch_begins d r batch behind none is =
    regrouped d r (with_batch_begun r batch behind) refl refl refl
    (ap (λ (cs : List CommandValue). r.written ++ cs) (sym is ∙ ap (λ (cs : List CommandValue). cs ++ r.queued) (sym none))) (omega arith)

-- the batch is written
pub batch_ends : (d : Disk) (r : Run) → IsRun d r → IsRun d (with_batch_written r)
batch_ends d r = regrouped d r (with_batch_written r) refl refl refl (append_assoc r.written r.underway r.queued)
    (omega (arith, length-append r.written r.underway))

-- a run with a moment now
abbrev with_mark_now : Disk → Run → ℕ → Run
with_mark_now d r acknowledged = with_mark r (record { clock = clock d.content; acknowledged = acknowledged })

-- a moment at which each image has all written commands, and no more than those are acknowledged
pub marked : (d : Disk) (r : Run) (acknowledged : ℕ) → acknowledged ≤ number_of r
    → (IsTrue d.honest → (image : Image) → IsImage d.content image → KeptEither d.sectors (number_of r) (state_of r) r.underway image)
    → IsRun d r → IsRun d (with_mark r (record { clock = clock d.content; acknowledged = acknowledged }))
marked d r acknowledged le here run = record { passes = run.passes; marks = all }
  where
    again : (mark : Mark) → IsMarked d r mark → IsMarked d (with_mark_now d r acknowledged) mark
    again mark was = record { written = was.written; passed = was.passed; each = was.each }

    fresh : IsMarked d (with_mark_now d r acknowledged) (record { clock = clock d.content; acknowledged = acknowledged })
    fresh = record {
      written = le;
      passed = λ h. omega arith;
      each = λ h image left.
          fewer d.sectors r (number_of r) acknowledged image le
          (either_prefix d.sectors r image (here h image (since-now d.content image left)));
    }

    all : All (IsMarked d (with_mark_now d r acknowledged)) (record { clock = clock d.content; acknowledged = acknowledged } ∷ r.marks)
    all zero mark below = fresh
    all (suc k) mark below = again (slice_index_or r.marks k mark) (run.marks k mark (omega (arith, below)))

-- more commands are accepted if each passes in the state that it meets
pub accepts : (d : Disk) (r : Run) (commands : List CommandValue) → legal (after r.start (accepted r)) commands ≡ true → IsRun d r
    → IsRun d (with_commands r commands)
accepts d r commands pass run = marks_by d d r (with_commands r commands) refl passes goes run
  where
    same : accepted (with_commands r commands) ≡ accepted r ++ commands
    same =
        ap (λ (cs : List CommandValue). r.written ++ cs) (sym (append_assoc r.underway r.queued commands))
        ∙ sym (append_assoc r.written (r.underway ++ r.queued) commands)

    passes : legal r.start (accepted (with_commands r commands)) ≡ true
    passes = rw (same, legal-append r.start (accepted r) commands, run.passes, pass) refl

    more : (sectors least : ℕ) (image : Image) → Has sectors r least image
        → HasPrefix sectors r.first r.start (accepted r ++ commands) least image
    more sectors least image has = record {
      count = has.count;
      within = omega (arith, has.within, length-append (accepted r) commands);
      reaches = has.reaches;
      means = subst (λ (cs : List CommandValue). KeptMeans sectors (r.first + has.count) (after r.start cs) image)
          (sym (take-append-le has.count (accepted r) commands has.within)) has.means;
    }

    goes : (mark : Mark) → IsMarked d r mark → IsMarked d (with_commands r commands) mark
    goes mark was = record {
      written = was.written;
      passed = was.passed;
      each = λ h image left.
          subst (λ (cs : List CommandValue). HasPrefix d.sectors r.first r.start cs mark.acknowledged image) (sym same)
          (more d.sectors mark.acknowledged image (was.each h image left));
    }

abbrev nothing : ℕ → State → Run
nothing number state = record { first = number; start = state; written = []; underway = []; queued = []; marks = [] }

-- if each image means a number and a state, a run begins with them
pub run_begins : (d : Disk) (number : ℕ) (state : State) → EachMeans d number state → IsRun d (begun (clock d.content) number state)
run_begins d number state each =
    marked d (nothing number state) number (omega arith)
    (λ h image is. inl (subst (λ (n : ℕ). KeptMeans d.sectors n state image) (omega arith) (each h image is)))
    (record { passes = refl; marks = λ k mark below. absurd (omega (arith, below)) })
