-- A batch is carried into the area that a checkpoint writes, while the area's gate is closed.
use Rattle.std.proofs.Common.{◌≡◌, ◌≢◌, ◌<◌, ◌⊎◌, inl, inr, ℕ, ◌+◌, ◌==◌, true, if◌then◌else◌, List, sym, ◌∙◌, ap, subst, arith}
use Rattle.std.proofs.lemmas.Bool.Decides.{nat_tests}
use Rattle.iol_types.specs.Command.{CommandValue}
use Rattle.iol_disk.specs.Content.{Image, Content, reads, wrote}
use Rattle.iol_disk.proofs.DiskLaws.{reads-wrote_here, reads-wrote_other}
use Rattle.iol_disk.specs.Gate.{is_open, open_gate}
use Rattle.iol_disk.proofs.SlotLaws.{is_open-open_gate}
use Rattle.iol_journal.specs.Batches.{body_for, sectors_for}
use Rattle.iol_journal.specs.Drafts.{OpensTo}
use Rattle.iol_layout.specs.Standings.{with_batch}
use Rattle.iol_layout.specs.Kept.{IsKeptAs}
use Rattle.iol_layout.specs.Layout.{gate_at, slot_at, body_at}
use Rattle.iol_layout.specs.Meaning.{Standing}
use Rattle.iol_layout.specs.Octets.{sector_of}
use Rattle.iol_journal.specs.Phases.{HasWritten}
use Rattle.iol_layout.specs.declared.idle.Idle.TheVariants.{Older}
use Rattle.iol_layout.proofs.Frames.{kept_open}
use Rattle.iol_journal.proofs.Phases.{IsFit, some_slot, but_slots, body_kept, span_read, body_read, written_more}
use Rattle.iol_layout.proofs.Spans.{body_at-no_gate}

-- what is read, with the gate of an area taken from an image
abbrev pub gated : ℕ → Content → Image → Image
gated gate c image i = if i == gate then image i else reads c i

gated-there : (gate : ℕ) (c : Content) (image : Image) → gated gate c image gate ≡ image gate
gated-there gate c image = grind (arith, nat_tests)

gated-other : (gate : ℕ) (c : Content) (image : Image) (i : ℕ) → i ≢ gate → gated gate c image i ≡ reads c i
gated-other gate c image i away = grind (arith, nat_tests)

either_way : (i j : ℕ) → (i ≡ j) ⊎ (i ≢ j)
either_way i j = grind (arith, nat_tests)

-- an image with an open gate over what is read after some calls, and as it was before them
module _ (size : ℕ) (t : Standing) (c c' : Content) (image : Image) (opens : OpensTo size t c)
    (read : (i : ℕ) → i ≢ gate_at t.layout t.area → image i ≡ reads c' i) (gate : is_open (image (gate_at t.layout t.area)) ≡ true) where
  abbrev pub was : Image
  was = gated (gate_at t.layout t.area) c image

  pub was_kept : IsKeptAs size t Older was
  was_kept = opens was (gated-other (gate_at t.layout t.area) c image) (ap is_open (gated-there (gate_at t.layout t.area) c image) ∙ gate)

  -- where the calls change nothing the images are equal
  pub was_same : (i : ℕ) → (i ≢ gate_at t.layout t.area → reads c' i ≡ reads c i) → image i ≡ was i
  was_same i same = elim (either_way i (gate_at t.layout t.area)) [
    | inl here ↦ subst (λ (j : ℕ). image j ≡ was j) (sym here) (sym (gated-there (gate_at t.layout t.area) c image))
    | inr away ↦ read i away ∙ same away ∙ sym (gated-other (gate_at t.layout t.area) c image i away)
  ]

module _ (size : ℕ) (t : Standing) (batch : List CommandValue) (fit : IsFit t batch (body_for t batch) (sectors_for t batch)) where
  abbrev body : List ℕ
  body = body_for t batch

  abbrev sectors : ℕ
  sectors = sectors_for t batch

  -- a sector of the batch's body is written
  pub carry_sector : (j : ℕ) (c : Content) → j < sectors → OpensTo size t c × HasWritten t body j c
      → OpensTo size t (wrote (body_at t.layout t.area t.used j) (sector_of body j) c)
      × HasWritten t body (j + 1) (wrote (body_at t.layout t.area t.used j) (sector_of body j) c)
  carry_sector j c below (opens, written) = (still, written_more t body j c written)
    where
      c' : Content
      c' = wrote (body_at t.layout t.area t.used j) (sector_of body j) c

      still : OpensTo size t c'
      still image read gate =
          body_kept t Older batch body sectors fit size j below (was size t c c' image opens read gate) image
          (was_kept size t c c' image opens read gate)
          (λ i away. was_same size t c c' image opens read gate i (λ apart.
          reads-wrote_other (body_at t.layout t.area t.used j) (sector_of body j) c i away))

  -- the gate is opened once the whole body is written
  pub carry_gate : (c : Content) → OpensTo size t c → HasWritten t body sectors c
      → OpensTo size (with_batch t batch) (wrote (slot_at t.layout t.area t.used) open_gate c)
  carry_gate c opens written image read gate =
      kept_open size t Older (was size t c c' image opens read gate) image batch fit.written fit.room
      (but_slots t Older batch body sectors fit (slot_at t.layout t.area t.used) (was size t c c' image opens read gate) image
      (omega arith) (omega (arith, some_slot t Older batch body sectors fit)) (λ k behind. omega (arith, behind)) same)
      (was_kept size t c c' image opens read gate)
      (ap is_open (read (slot_at t.layout t.area t.used) (omega arith) ∙ reads-wrote_here (slot_at t.layout t.area t.used) open_gate c)
      ∙ is_open-open_gate)
      (span_read t Older batch body sectors fit image there) (body_read t Older batch body sectors fit image there) fit.passes
    where
      c' : Content
      c' = wrote (slot_at t.layout t.area t.used) open_gate c

      same : (i : ℕ) → i ≢ slot_at t.layout t.area t.used → image i ≡ was size t c c' image opens read gate i
      same i away = was_same size t c c' image opens read gate i (λ apart.
          reads-wrote_other (slot_at t.layout t.area t.used) open_gate c i away)

      there : (j : ℕ) → j < sectors → image (body_at t.layout t.area t.used j) ≡ sector_of body j
      there j below =
          read (body_at t.layout t.area t.used j) (omega arith)
          ∙ reads-wrote_other (slot_at t.layout t.area t.used) open_gate c (body_at t.layout t.area t.used j) (λ e.
          body_at-no_gate t.layout t.area t.used t.used j (sym e))
          ∙ written j below
