-- The disk calls of a batch, one after another, on an honest disk.
use Rattle.std.proofs.Common.{◌≡◌, ◌≢◌, ◌≤◌, ◌<◌, ◌⊎◌, inl, inr, ℕ, zero, suc, ◌+◌, ◌*◌, nat_lt, if◌then◌else◌, Bool, true, false, IsTrue}
use Rattle.std.proofs.Common.{List, [], ◌∷◌, ◌++◌, length, Some, None, refl, sym, ◌∙◌, ap, subst, arith}
use Rattle.std.proofs.lemmas.Bool.{cases_lt}
use Rattle.std.proofs.lemmas.Bool.Decides.{nat_tests}
use Rattle.iol_types.specs.Command.{CommandValue}
use Rattle.iol_types.specs.State.{State, after, legal}
use Rattle.iol_disk.specs.Content.{Image, Content, reads, IsImage, IsSettled, wrote, synced, EachImage}
use Rattle.iol_disk.specs.Disk.{Disk}
use Rattle.iol_disk.proofs.DiskLaws.{reads-is_image, image-settled, image-synced, image-wrote, reads-wrote_here, reads-wrote_other}
use Rattle.iol_disk.proofs.DiskLaws.{HasOnTheWay}
use Rattle.iol_disk.specs.Gate.{is_open, open_gate}
use Rattle.iol_disk.proofs.SlotLaws.{is_open-open_gate}
use Rattle.iol_layout.specs.Layout.{slot_at, body_at}
use Rattle.iol_layout.specs.Octets.{sector_of}
use Rattle.iol_record.specs.Record.{newest}
use Rattle.iol_layout.specs.Body.{head_of, slots_of, records_of, slots_for, batch_of}
use Rattle.iol_layout.specs.declared.body.Head.{Head}
use Rattle.iol_layout.specs.Meaning.{Standing, body_in, span_in}
use Rattle.iol_layout.specs.Kept.{IsKeptAs, KeptEither, EachMeans}
use Rattle.iol_disk.specs.Calls.{content_after, Made}
use Rattle.iol_disk.specs.declared.disk.TheConstants.{SECTOR_OCTETS}
use Rattle.iol_journal.specs.Batches.{body_for, sectors_for, call_of, next_phase, IsPhase}
use Rattle.iol_layout.specs.Standings.{standing_at, with_batch}
use Rattle.iol_journal.specs.Planned.{CanFollow, IsPlanned}
use Rattle.iol_journal.specs.Phases.{IsAtRest, HasWritten, IsBetween, Holds}
use Rattle.iol_layout.specs.declared.idle.Idle.{Idle}
use Rattle.iol_layout.specs.declared.place.Place.{Place}
use Rattle.iol_journal.specs.declared.phase.Phase.{Phase}
use Rattle.iol_journal.specs.declared.phase.Phase.TheVariants.{Body, SyncBody, Gate, SyncGate}
use Rattle.iol_disk.specs.declared.slot.TheConstants.{BODY_SECTORS}
use Rattle.iol_journal.proofs.BatchCalls.{phase_of, sectors_for-some}
use Rattle.iol_layout.proofs.Chains.{by_test}
use Rattle.iol_layout.proofs.Bodies.{octets_at-in_slot, length-body, head_of-body_octets, batch_of-body_octets}
use Rattle.iol_layout.proofs.Frames.{SameButSlots, kept_closed, kept_open, kept_means}
use Rattle.iol_layout.proofs.ReachedBodies.{head_of-first}
use Rattle.iol_layout.specs.Header.{epochs_ahead}
use Rattle.iol_layout.proofs.Headers.{few-ahead}
use Rattle.iol_layout.proofs.Spans.{slots_of-some, body_at-within, body_at-rises, body_at-no_gate}
use Rattle.iol_disk.proofs.Synced.{left_behind}

-- with its gate open the slot's batch counts, with its gate closed it does not
pub between_means_either : (size : ℕ) (s : Standing) (idle : Idle) (commands : List CommandValue) (image : Image)
    → IsBetween size s idle commands image → KeptEither size s.number s.state commands image
between_means_either size s idle commands image between = by_test (is_open (image (slot_at s.layout s.area s.used))) _
    (λ opened. inr (kept_means size (with_batch s commands) idle image (between.1 opened)))
    (λ closed. inl (kept_means size s idle image (between.0 closed)))

-- a batch for the first free slots
pub record IsFit (s : Standing) (commands : List CommandValue) (body : List ℕ) (sectors : ℕ) : Type 0 where
  pub written : s.layout.version ≡ newest
  pub room : s.used + slots_for commands ≤ s.layout.slots
  pub whole : length body ≡ SECTOR_OCTETS * sectors
  pub least : 1 ≤ sectors
  pub short : sectors ≤ BODY_SECTORS * slots_for commands
  pub tells : (head_of body).octets ≡ length (records_of commands)
  pub read_back : (rest : List ℕ) → batch_of newest s.epoch (s.number + 1) (body ++ rest) ≡ Some commands
  pub passes : legal s.state commands ≡ true

-- one more sector of a body is written
pub written_more : (s : Standing) (body : List ℕ) (j : ℕ) (c : Content) → HasWritten s body j c
    → HasWritten s body (j + 1) (wrote (body_at s.layout s.area s.used j) (sector_of body j) c)
written_more s body j c written k less = elim (cases_lt k j) [
  | inl before ↦ reads-wrote_other (body_at s.layout s.area s.used j) (sector_of body j) c (body_at s.layout s.area s.used k)
      (omega (arith, body_at-rises s.layout s.area s.used k j before)) ∙ written k before
  | inr last ↦
      let e : k ≡ j = omega arith in
      subst (λ (i : ℕ). reads (wrote (body_at s.layout s.area s.used j) (sector_of body j) c) (body_at s.layout s.area s.used i)
      ≡ sector_of body i) (sym e)
      (reads-wrote_here (body_at s.layout s.area s.used j) (sector_of body j) c)
]

module _ (s : Standing) (idle : Idle) (commands : List CommandValue) (body : List ℕ) (sectors : ℕ) (fit : IsFit s commands body sectors)
  where
    pub some_slot : 1 ≤ slots_for commands
    some_slot = slots_of-some (length (records_of commands))

    pub but_slots : (n : ℕ) (was image : Image) → slot_at s.layout s.area s.used ≤ n
        → n < slot_at s.layout s.area (s.used + slots_for commands)
        → ((k : ℕ) → s.used < k → slot_at s.layout s.area k ≢ n)
        → ((i : ℕ) → i ≢ n → image i ≡ was i) → SameButSlots s (slots_for commands) was image
    but_slots n was image above below no_gate same = record {
      outside = λ i apart. same i (away i apart);
      gates = λ k behind. same (slot_at s.layout s.area k) (no_gate k behind);
    }
      where
        away : (i : ℕ) → (i < slot_at s.layout s.area s.used) ⊎ (slot_at s.layout s.area (s.used + slots_for commands) ≤ i) → i ≢ n
        away i (inl before) = omega (arith, before, above)
        away i (inr behind) = omega (arith, behind, below)

    -- the write of a sector of the body
    pub body_kept : (size j : ℕ) → j < sectors → (was image : Image) → IsKeptAs size s idle was
        → ((i : ℕ) → i ≢ body_at s.layout s.area s.used j → image i ≡ was i) → IsKeptAs size s idle image
    body_kept size j below was image kept same =
        kept_closed size s (slots_for commands) idle was image fit.room some_slot
        (but_slots (body_at s.layout s.area s.used j) was image (omega arith)
        (body_at-within s.layout s.area s.used (slots_for commands) j (omega (arith, below, fit.short)))
        (λ k behind. body_at-no_gate s.layout s.area s.used k j) same) kept
        (ap is_open (same (slot_at s.layout s.area s.used) (body_at-no_gate s.layout s.area s.used s.used j))
        ∙ kept.rest s.used (omega arith) (omega (arith, fit.room, some_slot)))

    -- the body in an image that differs only in the gate from the settled content
    there : (c : Content) (was image : Image) → IsImage c was → HasWritten s body sectors c → IsSettled c
        → ((i : ℕ) → i ≢ slot_at s.layout s.area s.used → image i ≡ was i)
        → (j : ℕ) → j < sectors → image (body_at s.layout s.area s.used j) ≡ sector_of body j
    there c was image is written settled same j below =
        same (body_at s.layout s.area s.used j) (λ e. body_at-no_gate s.layout s.area s.used s.used j (sym e))
        ∙ ap (λ (i : Image). i (body_at s.layout s.area s.used j)) (image-settled c was settled is) ∙ written j below

    pub body_read : (image : Image) → ((j : ℕ) → j < sectors → image (body_at s.layout s.area s.used j) ≡ sector_of body j)
        → batch_of newest s.epoch (s.number + 1) (body_in s.layout s.area image s.used (slots_for commands)) ≡ Some commands
    body_read image there =
        read_at (octets_at-in_slot (λ j. image (body_at s.layout s.area s.used j)) body 0 sectors (BODY_SECTORS * slots_for commands)
        from_first fit.whole fit.short)
      where
        from_first : (j : ℕ) → j < sectors → image (body_at s.layout s.area s.used (0 + j)) ≡ sector_of body j
        from_first j below =
            let place : body_at s.layout s.area s.used (0 + j) ≡ body_at s.layout s.area s.used j =
            ap (λ (i : ℕ). body_at s.layout s.area s.used i) (omega arith) in
            ap image place ∙ there j below

        read_at : (rest : List ℕ) × (body_in s.layout s.area image s.used (slots_for commands) ≡ body ++ rest)
            → batch_of newest s.epoch (s.number + 1) (body_in s.layout s.area image s.used (slots_for commands)) ≡ Some commands
        read_at (rest, at) = ap (batch_of newest s.epoch (s.number + 1)) at ∙ fit.read_back rest

    pub span_read : (image : Image) → ((j : ℕ) → j < sectors → image (body_at s.layout s.area s.used j) ≡ sector_of body j)
        → span_in s.layout s.area image s.used ≡ slots_for commands
    span_read image there =
        ap (λ (octets : List ℕ). slots_of (head_of octets).octets) (there 0 fit.least)
        ∙ ap (λ (h : Head). slots_of h.octets) (head_of-first body sectors fit.whole fit.least)
        ∙ ap slots_of fit.tells

    -- the write of the gate
    gate_between : (size : ℕ) (c : Content) (was image : Image) → IsKeptAs size s idle was → IsImage c was → HasWritten s body sectors c
        → IsSettled c
        → ((i : ℕ) → i ≢ slot_at s.layout s.area s.used → image i ≡ was i) → IsBetween size s idle commands image
    gate_between size c was image kept is written settled same =
        let apart = but_slots (slot_at s.layout s.area s.used) was image (omega arith) (omega (arith, some_slot))
        (λ k behind. omega (arith, behind)) same in
        let at = there c was image is written settled same in (
          λ closed. kept_closed size s (slots_for commands) idle was image fit.room some_slot apart kept closed,
          λ opened. kept_open size s idle was image commands fit.written fit.room apart kept opened (span_read image at)
              (body_read image at)
              fit.passes,
        )

    body_after : (size j : ℕ) (c : Content) → j < sectors → EachImage c (IsKeptAs size s idle) × HasWritten s body j c
        → EachImage (wrote (body_at s.layout s.area s.used j) (sector_of body j) c) (IsKeptAs size s idle)
        × HasWritten s body (j + 1) (wrote (body_at s.layout s.area s.used j) (sector_of body j) c)
    body_after size j c below (each, written) = (λ image is. kept image is, written_more s body j c written)
      where
        kept : (image : Image) → IsImage (wrote (body_at s.layout s.area s.used j) (sector_of body j) c) image → IsKeptAs size s idle image
        kept image is = let w = image-wrote (body_at s.layout s.area s.used j) (sector_of body j) c image is in
            body_kept size j below w.0 image (each w.0 w.1) w.2

    -- what holds before the next call
    next_body : (size j : ℕ) (q : Phase) (c : Content) (test : Bool) → test ≡ nat_lt (j + 1) sectors → j < sectors
        → (if test then Body (j + 1) else SyncBody) ≡ q
        → EachImage c (IsKeptAs size s idle) × HasWritten s body (j + 1) c → Holds size s idle commands body sectors q c
    next_body size j q c true test below is holds = subst (λ (p : Phase). Holds size s idle commands body sectors p c) is holds
    next_body size j q c false test below is holds =
        let last : j + 1 ≡ sectors = grind (arith, nat_tests) in
        subst (λ (p : Phase). Holds size s idle commands body sectors p c) is
        (holds.0, subst (λ (n : ℕ). HasWritten s body n c) last holds.1)

    holds_next : (size : ℕ) (p q : Phase) (c : Content) → IsPhase sectors p → next_phase sectors p ≡ Some q
        → Holds size s idle commands body sectors p c
        → Holds size s idle commands body sectors q (content_after (call_of s body p) c)
    holds_next size (Body j) q c in_phase next holds =
        next_body size j q _ (nat_lt (j + 1) sectors) refl in_phase (phase_of _ q next) (body_after size j c in_phase holds)
    holds_next size SyncBody q c in_phase next holds =
        subst (λ (p : Phase). Holds size s idle commands body sectors p (synced c)) (phase_of _ q next) (
          λ image is. subst (IsKeptAs size s idle) (sym (image-synced c image is)) (holds.0 (reads c) (reads-is_image c)),
          λ j below.
              holds.1 j below,
          λ i. refl,
        )
    holds_next size Gate q c in_phase next holds =
        subst (λ (p : Phase). Holds size s idle commands body sectors p (wrote (slot_at s.layout s.area s.used) open_gate c))
        (phase_of _ q next) (
          between,
          (between (reads (wrote (slot_at s.layout s.area s.used) open_gate c))
              (reads-is_image (wrote (slot_at s.layout s.area s.used) open_gate c))).1
              (ap is_open (reads-wrote_here (slot_at s.layout s.area s.used) open_gate c) ∙ is_open-open_gate),
        )
      where
        between : (image : Image) → IsImage (wrote (slot_at s.layout s.area s.used) open_gate c) image
            → IsBetween size s idle commands image
        between image is =
            let w = image-wrote (slot_at s.layout s.area s.used) open_gate c image is in
            gate_between size c w.0 image (holds.0 w.0 w.1) w.1 holds.1 holds.2 w.2
    holds_next size SyncGate q c in_phase next holds = cc

    pub next_holds : (d d' : Disk) (p q : Phase) → IsPhase sectors p → next_phase sectors p ≡ Some q → Made (call_of s body p ∷ []) d d'
        → (IsTrue d.honest → Holds d.sectors s idle commands body sectors p d.content)
        → IsTrue d'.honest → Holds d'.sectors s idle commands body sectors q d'.content
    next_holds d d' p q in_phase next made holds h' =
        let after_ = made.after in
        let h : IsTrue d.honest = subst IsTrue after_.honest h' in
        subst (λ (n : ℕ). Holds n s idle commands body sectors q d'.content) (sym after_.sectors)
        (subst (λ (c : Content). Holds d.sectors s idle commands body sectors q c) (sym (after_.content h))
        (holds_next d.sectors p q d.content in_phase next (holds h)))

    at_end : (size : ℕ) (p : Phase) (c : Content) → next_phase sectors p ≡ None → Holds size s idle commands body sectors p c
        → EachImage (content_after (call_of s body p) c) (IsKeptAs size (with_batch s commands) idle)
    at_end size (Body j) c none holds = cc
    at_end size SyncBody c none holds = cc
    at_end size Gate c none holds = cc
    at_end size SyncGate c none holds = λ image is.
        subst (IsKeptAs size (with_batch s commands) idle) (sym (image-synced c image is)) holds.1

    -- after the last call
    pub batch_durable : (d d' : Disk) (p : Phase) → next_phase sectors p ≡ None → Made (call_of s body p ∷ []) d d'
        → (IsTrue d.honest → Holds d.sectors s idle commands body sectors p d.content)
        → IsTrue d'.honest → EachImage d'.content (IsKeptAs d'.sectors (with_batch s commands) idle)
    batch_durable d d' p none made holds h' =
        let after_ = made.after in
        let h : IsTrue d.honest = subst IsTrue after_.honest h' in
        subst (λ (n : ℕ). EachImage d'.content (IsKeptAs n (with_batch s commands) idle)) (sym after_.sectors)
        (subst (λ (c : Content). EachImage c (IsKeptAs d.sectors (with_batch s commands) idle)) (sym (after_.content h))
        (at_end d.sectors p d.content none (holds h)))

    -- the images during a call
    pub on_the_way : (size : ℕ) (p : Phase) (c : Content) → IsPhase sectors p → Holds size s idle commands body sectors p c
        → HasOnTheWay (call_of s body p ∷ []) c (KeptEither size s.number s.state commands)
    on_the_way size (Body j) c in_phase holds zero image is = inl (kept_means size s idle image (holds.0 image is))
    on_the_way size (Body j) c in_phase holds (suc place) image is =
        inl (kept_means size s idle image ((body_after size j c in_phase holds).0 image (left_behind _ image place is)))
    on_the_way size SyncBody c in_phase holds zero image is = inl (kept_means size s idle image (holds.0 image is))
    on_the_way size SyncBody c in_phase holds (suc place) image is =
        inl (kept_means size s idle image ((holds_next size SyncBody Gate c tt refl holds).0 image (left_behind _ image place is)))
    on_the_way size Gate c in_phase holds zero image is = inl (kept_means size s idle image (holds.0 image is))
    on_the_way size Gate c in_phase holds (suc place) image is =
        between_means_either size s idle commands image
        ((holds_next size Gate SyncGate c tt refl holds).0 image (left_behind _ image place is))
    on_the_way size SyncGate c in_phase holds zero image is = between_means_either size s idle commands image (holds.0 image is)
    on_the_way size SyncGate c in_phase holds (suc place) image is =
        inr (kept_means size (with_batch s commands) idle image (at_end size SyncGate c refl holds image (left_behind _ image place is)))

-- a batch that can follow fits
pub fit_for : (s : Standing) (commands : List CommandValue) → CanFollow s commands → s.epoch ≤ s.number + epochs_ahead s.layout.version
    → IsFit s commands (body_for s commands) (sectors_for s commands)
fit_for s commands follows begun =
    let size = length-body s.epoch (s.number + 1) commands in
    let is = follows.batch in record {
      written = follows.written;
      room = follows.room;
      whole = omega (arith, size);
      least = sectors_for-some s commands;
      short = omega (arith, size);
      tells = head_of-body_octets s.epoch (s.number + 1) commands (omega (arith, is.short));
      read_back = λ rest. batch_of-body_octets s.epoch (s.number + 1) commands rest (omega (
        arith,
        begun,
        follows.bound,
        few-ahead s.layout.version,
      )) is.some is.most
          (omega (arith, is.short)) (omega (arith, follows.bound)) is.read;
      passes = follows.passes;
    }

pub fit_of : (d : Disk) (s : Standing) (commands : List CommandValue) (p : Phase) → IsPlanned d s commands p
    → IsFit s commands (body_for s commands) (sectors_for s commands)
fit_of d s commands p planned = fit_for s commands planned.follows planned.begun

-- a journal at rest means its number and state
pub rest_means : (d d' : Disk) (s s' : Standing) (idle idle' : Idle) → d' ≡ d → s' ≡ s → idle' ≡ idle → IsAtRest d s idle
    → IsAtRest d' s' idle' × EachMeans d' s'.number s'.state
rest_means d d' s s' idle idle' same_disk same_standing same_idle rest =
    subst (λ (e : Disk). IsAtRest e s' idle' × EachMeans e s'.number s'.state) (sym same_disk)
    (subst (λ (t : Standing). IsAtRest d t idle' × EachMeans d t.number t.state) (sym same_standing)
    (subst (λ (i : Idle). IsAtRest d s i × EachMeans d s.number s.state) (sym same_idle)
    (rest, λ h image is. kept_means d.sectors s idle image (rest h image is))))

-- the standing after a batch, as the step makes it
pub standing_written : (place : Place) (number number' span : ℕ) (state state' : State) (commands : List CommandValue)
    → span ≡ slots_for commands
    → number' ≡ number + length commands → state' ≡ after state commands
    → standing_at (record { layout = place.layout; area = place.area; epoch = place.epoch; used = place.used + span; idle = place.idle })
    number' state'
    ≡ with_batch (standing_at place number state) commands
standing_written place number number' span state state' commands same_span same_number same_state =
    λ j. record {
      layout = place.layout;
      area = place.area;
      epoch = place.epoch;
      used = place.used + same_span j;
      number = same_number j;
      state = same_state j;
    }
