-- What happens to a run of a flusher's journal apart from its disk calls.
use Rattle.std.proofs.Common.{◌≡◌, refl, ◌≤◌, inl, inr, ℕ, zero, suc, ◌+◌, ◌-◌, true, List, [], ◌∷◌, ◌++◌, length, drop, slice_index_or}
use Rattle.std.proofs.Common.{All, sym, ◌∙◌, ap, subst, arith, append_assoc}
use Rattle.iol_types.specs.Command.{CommandValue}
use Rattle.iol_types.specs.State.{State, after, legal}
use Rattle.iol_disk.specs.Content.{Image, Content, Interval, IsImageOfSome, IsImageSince, clock}
use Rattle.iol_disk.specs.Disk.{Disk}
use Rattle.iol_front.specs.Fronts.{CommittedView}
use Rattle.iol_journal.proofs.RunLaws.{accepts}
use Rattle.iol_journal.proofs.RunSteps.{marked_at_rest}
use Rattle.iol_journal.specs.Journals.{JournalView}
use Rattle.iol_journal.specs.Body.{values}
use Rattle.iol_journal.specs.Runs.{Run, Mark, IsMarked, IsRun, with_mark}
use Rattle.iol_journal.specs.Running.{IsRunAtRest}
use Rattle.iol_journal.specs.declared.batch.Batch.{Batch}
use Rattle.iol_flush.specs.Flushing.{run_of, AreFirst, IsFlushing, HoldsBy}
use Rattle.iol_flush.specs.Stages.{FlusherView, disk_of}
use Rattle.iol_flush.specs.Steps.{HasTaken, HasPublished}
use Rattle.iol_flush.specs.declared.stage.FlushStage.{FlushStage}
use Rattle.iol_flush.specs.declared.stage.FlushStage.TheVariants.{Resting, Opening, Given, Checkpointing, Writing, Publishing, Failed}

-- an image that a power stop may leave since a later moment, it may leave since an earlier one
none_left : (n : ℕ) (image : Image) → IsImageOfSome (drop n []) image → ⊥
none_left zero image had = had
none_left (suc n) image had = had

one_less : (e : Interval) (past : List Interval) (image : Image) (n m : ℕ) → n ≡ suc m → IsImageOfSome (drop n (e ∷ past)) image
    → IsImageOfSome (drop m past) image
one_less e past image n m same left = subst (λ (n : ℕ). IsImageOfSome (drop n (e ∷ past)) image) same left

some_later : (past : List Interval) (t k : ℕ) (image : Image) → IsImageOfSome (drop (k + t) past) image → IsImageOfSome (drop t past) image
some_later [] t k image had = absurd (none_left (k + t) image had)
some_later (e ∷ past) zero zero image had = had
some_later (e ∷ past) zero (suc k) image had =
    inr (some_later past zero k image (one_less e past image (suc k + zero) (k + zero) (omega arith) had))
some_later (e ∷ past) (suc t) k image had = some_later past t k image (one_less e past image (k + suc t) (k + t) (omega arith) had)

since_earlier : (c : Content) (t u : ℕ) (image : Image) → t ≤ u → IsImageSince u c image → IsImageSince t c image
since_earlier c t u image le (inr here) = inr here
since_earlier c t u image le (inl had) =
    inl (some_later c.past t (u - t) image (subst (λ (n : ℕ). IsImageOfSome (drop n c.past) image) (omega (arith, le)) had))

-- a moment at which no more is acknowledged than at an earlier one
later_mark : (d : Disk) (r : Run) (mark : Mark) → IsMarked d r mark
    → IsMarked d r (record { clock = clock d.content; acknowledged = mark.acknowledged })
later_mark d r mark was = record {
  written = was.written;
  passed = λ h. omega arith;
  each = λ h image left. was.each h image (since_earlier d.content mark.clock (clock d.content) image (was.passed h) left);
}

-- a run with this moment added
later_run : (d : Disk) (r : Run) (mark : Mark) (marks : List Mark) → r.marks ≡ mark ∷ marks → IsRun d r
    → IsRun d (with_mark r (record { clock = clock d.content; acknowledged = mark.acknowledged }))
later_run d r mark marks same run = record { passes = run.passes; marks = all }
  where
    there : All (IsMarked d r) (mark ∷ marks)
    there = subst (λ (ms : List Mark). All (IsMarked d r) ms) same run.marks

    next : Mark
    next = record { clock = clock d.content; acknowledged = mark.acknowledged }

    again : (m : Mark) → IsMarked d r m → IsMarked d (with_mark r next) m
    again m was = record { written = was.written; passed = was.passed; each = was.each }

    all : All (IsMarked d (with_mark r next)) (next ∷ r.marks)
    all zero m below = again next (later_mark d r mark (there zero mark (omega arith)))
    all (suc k) m below = again (slice_index_or r.marks k m) (run.marks k m (omega (arith, below)))

module _ {D : Type 0} (disk : D → Disk) (number : ℕ) (state : State) (published waiting : List CommandValue) where
  -- a moment of a journal at rest at which no more is acknowledged
  later_at_rest : (written underway queued : List CommandValue) (mark : Mark) (marks : List Mark) (j : JournalView D) (t : ℕ)
      → t ≡ clock (disk j.disk).content
      → IsRunAtRest disk (run_of number state written underway queued (mark ∷ marks)) j
      → IsRunAtRest disk (run_of number state written underway queued (record { clock = t; acknowledged = mark.acknowledged } ∷ mark
      ∷ marks)) j
  later_at_rest written underway queued mark marks j t now was =
      subst (λ (n : ℕ). IsRunAtRest disk
      (run_of number state written underway queued (record { clock = n; acknowledged = mark.acknowledged } ∷ mark ∷ marks)) j) (sym now) (
        was.0,
        (
          later_run (disk j.disk) (run_of number state written underway queued (mark ∷ marks)) mark marks refl was.1.0,
          was.1.1,
          was.1.2,
        ),
        was.2,
        was.3,
      )

  -- no more is acknowledged at this moment than at the one before
  pub marked_later : (mark : Mark) (marks : List Mark) (stage : FlushStage D)
      → IsFlushing disk number state published waiting (mark ∷ marks) stage
      → IsFlushing disk number state published waiting
      (record { clock = clock (disk (disk_of stage)).content; acknowledged = mark.acknowledged } ∷ mark ∷ marks) stage
  marked_later mark marks (Resting j) was = later_at_rest published [] waiting mark marks j (clock (disk j.disk).content) refl was
  marked_later mark marks (Opening c) was = (
    was.0,
    (
      later_run (disk c.disk) (run_of number state published [] waiting (mark ∷ marks)) mark marks refl was.1.0,
      was.1.1,
      was.1.2,
    ),
    was.2,
  )
  marked_later mark marks (Given j batch) was =
      (was.0, later_at_rest published [] waiting mark marks j (clock (disk j.disk).content) refl was.1)
  marked_later mark marks (Checkpointing c batch) was = (
    was.0,
    (
      was.1.0,
      (
        later_run (disk c.disk) (run_of number state published [] waiting (mark ∷ marks)) mark marks refl was.1.1.0,
        was.1.1.1,
        was.1.1.2,
      ),
      was.1.2,
    ),
  )
  marked_later mark marks (Writing w) was = (
    was.0,
    was.1,
    (
      was.2.0,
      (
        later_run (disk w.disk) (run_of number state published w.commands was.0 (mark ∷ marks)) mark marks refl was.2.1.0,
        was.2.1.1,
        was.2.1.2,
      ),
      was.2.2,
      was.2.3,
    ),
  )
  marked_later mark marks (Publishing j written) was =
      (was.0, was.1, later_at_rest (published ++ written.commands) [] was.0 mark marks j (clock (disk j.disk).content) refl was.2)
  marked_later mark marks (Failed left fault) was =
      (was.0, was.1, was.2, later_run (disk left) (run_of number state published was.0 was.1 (mark ∷ marks)) mark marks refl was.3)

  -- the waiting commands, with more after them
  longer : (front behind more : List CommandValue) → waiting ≡ front ++ behind → waiting ++ more ≡ front ++ (behind ++ more)
  longer front behind more same = ap (λ (cs : List CommandValue). cs ++ more) same ∙ append_assoc front behind more

  passes_in : (front behind more : List CommandValue) → waiting ≡ front ++ behind → legal (after state (published ++ waiting)) more ≡ true
      → legal (after state (published ++ (front ++ behind))) more ≡ true
  passes_in front behind more same pass = subst (λ (cs : List CommandValue). legal (after state (published ++ cs)) more ≡ true) same pass

  -- a batch is given: the first of the waiting commands
  pub gives : (marks : List Mark) (old new : FlushStage D) (batch : Batch) → HasTaken old batch new
      → AreFirst (values batch.commands.items) waiting
      → IsFlushing disk number state published waiting marks old → IsFlushing disk number state published waiting marks new
  gives marks (Resting j) new batch taken first was =
      subst (λ (s : FlushStage D). IsFlushing disk number state published waiting marks s) (sym taken) (first, was)
  gives marks (Opening c) new batch taken first was = absurd taken
  gives marks (Given j b) new batch taken first was = absurd taken
  gives marks (Checkpointing c b) new batch taken first was = absurd taken
  gives marks (Writing w) new batch taken first was = absurd taken
  gives marks (Publishing j written) new batch taken first was = absurd taken
  gives marks (Failed left fault) new batch taken first was = absurd taken

  -- the durable batch is published: it is the first of the waiting commands, and is removed from
  -- them
  pub publishes : (marks : List Mark) (old : FlushStage D) (list : List CommandValue) (new : FlusherView D) (committed : CommittedView)
      → HasPublished old list new committed → IsFlushing disk number state published waiting marks old
      → (behind : List CommandValue) × (waiting ≡ committed.commands ++ behind)
      × IsFlushing disk number state (published ++ committed.commands) behind marks new.stage
  publishes marks (Publishing j written) list new committed has was = (
    was.0,
    was.1 ∙ ap (λ (cs : List CommandValue). cs ++ was.0) (sym has.2),
    subst (λ (v : FlusherView D). IsFlushing disk number state (published ++ committed.commands) was.0 marks v.stage) (sym has.0)
        (subst (λ (cs : List CommandValue). IsRunAtRest disk (run_of number state (published ++ cs) [] was.0 marks) j) (sym has.2) was.2),
  )
  publishes marks (Resting j) list new committed has was = absurd has
  publishes marks (Opening c) list new committed has was = absurd has
  publishes marks (Given j b) list new committed has was = absurd has
  publishes marks (Checkpointing c b) list new committed has was = absurd has
  publishes marks (Writing w) list new committed has was = absurd has
  publishes marks (Failed left fault) list new committed has was = absurd has

  -- the commands that a run has accepted, split in another way
  holds_of : (d : Disk) (written underway queued : List CommandValue) (marks : List Mark) → published ++ waiting ≡ written
      ++ (underway ++ queued)
      → IsRun d (run_of number state written underway queued marks) → HoldsBy d number state (published ++ waiting) marks
  holds_of d written underway queued marks same run =
      subst (λ (cs : List CommandValue). HoldsBy d number state cs marks) (sym same)
      (record { passes = run.passes; images = λ k mark below. (run.marks k mark below).each })

  -- what a power stop leaves
  pub holds : (marks : List Mark) (stage : FlushStage D) → IsFlushing disk number state published waiting marks stage
      → HoldsBy (disk (disk_of stage)) number state (published ++ waiting) marks
  holds marks (Resting j) was = holds_of (disk j.disk) published [] waiting marks refl was.1.0
  holds marks (Opening c) was = holds_of (disk c.disk) published [] waiting marks refl was.1.0
  holds marks (Given j batch) was = holds_of (disk j.disk) published [] waiting marks refl was.1.1.0
  holds marks (Checkpointing c batch) was = holds_of (disk c.disk) published [] waiting marks refl was.1.1.0
  holds marks (Writing w) was =
      holds_of (disk w.disk) published w.commands was.0 marks (ap (λ (cs : List CommandValue). published ++ cs) was.1) was.2.1.0
  holds marks (Publishing j written) was =
      holds_of (disk j.disk) (published ++ written.commands) [] was.0 marks
      (ap (λ (cs : List CommandValue). published ++ cs) was.1 ∙ sym (append_assoc published written.commands was.0)) was.2.1.0
  holds marks (Failed left fault) was =
      holds_of (disk left) published was.0 was.1 marks (ap (λ (cs : List CommandValue). published ++ cs) was.2) was.3

  -- more commands are accepted if each passes in the state that it meets
  pub accepts_more : (marks : List Mark) (stage : FlushStage D) (commands : List CommandValue)
      → legal (after state (published ++ waiting)) commands ≡ true
      → IsFlushing disk number state published waiting marks stage
      → IsFlushing disk number state published (waiting ++ commands) marks stage
  accepts_more marks (Resting j) commands pass was =
      let accepted = accepts (disk j.disk) (run_of number state published [] waiting marks) commands pass was.1.0 in
      (was.0, (accepted, was.1.1, was.1.2), was.2, was.3)
  accepts_more marks (Opening c) commands pass was =
      let accepted = accepts (disk c.disk) (run_of number state published [] waiting marks) commands pass was.1.0 in
      (was.0, (accepted, was.1.1, was.1.2), was.2)
  accepts_more marks (Given j batch) commands pass was = (
    (was.0.0 ++ commands, longer (values batch.commands.items) was.0.0 commands was.0.1),
    (
      was.1.0,
      (accepts (disk j.disk) (run_of number state published [] waiting marks) commands pass was.1.1.0, was.1.1.1, was.1.1.2),
      was.1.2,
      was.1.3,
    ),
  )
  accepts_more marks (Checkpointing c batch) commands pass was = (
    (was.0.0 ++ commands, longer (values batch.commands.items) was.0.0 commands was.0.1),
    (
      was.1.0,
      (accepts (disk c.disk) (run_of number state published [] waiting marks) commands pass was.1.1.0, was.1.1.1, was.1.1.2),
      was.1.2,
    ),
  )
  accepts_more marks (Writing w) commands pass was = (
    was.0 ++ commands,
    longer w.commands was.0 commands was.1,
    (
      was.2.0,
      (
        accepts (disk w.disk) (run_of number state published w.commands was.0 marks) commands
            (passes_in w.commands was.0 commands was.1 pass) was.2.1.0,
        was.2.1.1,
        was.2.1.2,
      ),
      was.2.2,
      was.2.3,
    ),
  )
  accepts_more marks (Publishing j written) commands pass was = (
    was.0 ++ commands,
    longer written.commands was.0 commands was.1,
    (
      was.2.0,
      (
        accepts (disk j.disk) (run_of number state (published ++ written.commands) [] was.0 marks) commands
            (subst (λ (cs : List CommandValue). legal (after state cs) commands ≡ true)
            (sym (append_assoc published written.commands was.0))
            (passes_in written.commands was.0 commands was.1 pass))
            was.2.1.0,
        was.2.1.1,
        was.2.1.2,
      ),
      was.2.2,
      was.2.3,
    ),
  )
  accepts_more marks (Failed left fault) commands pass was = (
    was.0,
    was.1 ++ commands,
    longer was.0 was.1 commands was.2,
    accepts (disk left) (run_of number state published was.0 was.1 marks) commands (passes_in was.0 was.1 commands was.2 pass) was.3,
  )

  -- published commands are acknowledged at this moment, while the journal is at rest
  pub acknowledges : (marks : List Mark) (acknowledged : ℕ) (j : JournalView D) → acknowledged ≤ number + length published
      → IsFlushing disk number state published waiting marks (Resting j)
      → IsFlushing disk number state published waiting (record { clock = clock (disk j.disk).content; acknowledged = acknowledged } ∷ marks)
      (Resting j)
  acknowledges marks acknowledged j le was = marked_at_rest disk (run_of number state published [] waiting marks) j acknowledged le was
