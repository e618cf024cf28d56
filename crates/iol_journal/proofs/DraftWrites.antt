-- What a disk call leaves of the area that a checkpoint writes, and of the journal in the area in
-- use.
use Rattle.std.proofs.Common.{◌≡◌, ◌≢◌, ◌≤◌, ◌<◌, ◌⊎◌, inl, inr, ℕ, suc, ◌+◌, if◌then◌else◌, Bool, true, false, List}
use Rattle.std.proofs.Common.{length, take, Option, Some, None, unwrap_or, refl, sym, ◌∙◌, ap, subst, arith}
use Rattle.std.proofs.lemmas.Bool.{cases_lt}
use Rattle.std.proofs.Math.Seq.{take-length}
use Rattle.iol_types.specs.Command.{CommandValue}
use Rattle.iol_types.specs.State.{State}
use Rattle.iol_disk.specs.Content.{Image, Content, IsImage, IsSettled, reads, wrote, synced, EachImage}
use Rattle.iol_disk.specs.Calls.{Call, write, sync, content_after}
use Rattle.iol_disk.proofs.DiskLaws.{reads-is_image, image-settled, image-wrote, image-synced, reads-wrote_here, reads-wrote_other}
use Rattle.iol_disk.specs.Gate.{is_open, open_gate, closed_gate}
use Rattle.iol_disk.proofs.SlotLaws.{is_open-closed_gate}
use Rattle.iol_layout.specs.AreaPlans.{AreRecords}
use Rattle.iol_layout.specs.AreaWrites.{HasWrites}
use Rattle.iol_layout.specs.Header.{header_of, header_octets, epochs_ahead, is_sound}
use Rattle.iol_layout.specs.Kept.{IsIdle, IsKeptAs}
use Rattle.iol_layout.specs.Layout.{Layout, other, renewed, area_sectors, gate_at, header_at, port_at, slot_at}
use Rattle.iol_layout.specs.Meaning.{Log, Standing, geometry_in, header_in}
use Rattle.iol_journal.specs.Checkpoints.{target, header_of_target, snapshot_writes, call_at}
use Rattle.iol_journal.specs.Drafts.{AreShut, IsPrepared, OpensTo, IsTurning, IsFresh}
use Rattle.iol_layout.specs.declared.area.Area.{Area}
use Rattle.iol_layout.specs.declared.area.Area.TheVariants.{A, B}
use Rattle.iol_layout.specs.declared.header.Header.{Header}
use Rattle.iol_layout.specs.declared.header.TheConstants.{LAST_NUMBER}
use Rattle.iol_layout.specs.declared.geometry.TheConstants.{GEOMETRY, DISK_GATE}
use Rattle.iol_layout.specs.declared.idle.Idle.{Idle}
use Rattle.iol_layout.specs.declared.idle.Idle.TheVariants.{Older, Closed}
use Rattle.iol_journal.specs.declared.stage.CheckpointStage.TheVariants.{WriteRecord}
use Rattle.iol_layout.proofs.AreasInUse.{in_use_header}
use Rattle.iol_layout.proofs.Layouts.{gate-same, header_in-same, renewed-so}
use Rattle.iol_layout.proofs.OtherArea.{two_before, other_frame, IsWhole, whole_stands}
use Rattle.iol_layout.proofs.Readings.{IsFormattedFor, IsRead, header_for, stands_read}
use Rattle.iol_layout.proofs.Rows.{has-same, row-nth}
use Rattle.iol_layout.proofs.Headers.{header_of-octets, bounds-sound, few-ahead}

-- a header found after an open gate
header_found : (layout : Layout) (image : Image) (a : Area) (header : Header) → header_in layout image a ≡ Some header
    → header_of (image (header_at layout a)) ≡ header
header_found layout image a header is = by_gate (is_open (image (gate_at layout a))) is
  where
    by_gate : (gate : Bool) → (if gate then Some (header_of (image (header_at layout a))) else None) ≡ Some header
        → header_of (image (header_at layout a)) ≡ header
    by_gate true found = same _ _ found
      where
        same : (x y : Header) → Some x ≡ Some y → x ≡ y
        same x y is = cc
    by_gate false found = absurd (clash _ found)
      where
        clash : (x : Header) → None ≡ Some x → ⊥
        clash x is = cc

-- a write that keeps the other area harmless
abbrev Spares : Standing → Idle → ℕ → Type 0
Spares s Older sector = sector ≢ header_at s.layout (other s.area)
Spares s Closed sector = sector ≢ gate_at s.layout (other s.area)

-- a sector of the other area
pub record IsInOther (s : Standing) (sector : ℕ) : Type 0 where
  pub from : gate_at s.layout (other s.area) ≤ sector
  pub below : sector < gate_at s.layout (other s.area) + area_sectors s.layout

module _ (size : ℕ) (s : Standing) where
  idle_after : (idle : Idle) (sector : ℕ) (was image : Image) → Spares s idle sector → ((i : ℕ) → i ≢ sector → image i ≡ was i)
      → IsIdle s idle was → IsIdle s idle image
  idle_after Older sector was image spares same is = rw (same (header_at s.layout (other s.area)) (λ e. spares (sym e))) is
  idle_after Closed sector was image spares same is = ap is_open (same (gate_at s.layout (other s.area)) (λ e. spares (sym e))) ∙ is

  but_area : (sector : ℕ) (was image : Image) → IsInOther s sector → ((i : ℕ) → i ≢ sector → image i ≡ was i)
      → (i : ℕ) → (i < gate_at s.layout (other s.area)) ⊎ (gate_at s.layout (other s.area) + area_sectors s.layout ≤ i) → image i ≡ was i
  but_area sector was image inside same i (inl before) = same i (omega (arith, before, inside.from))
  but_area sector was image inside same i (inr behind) = same i (omega (arith, behind, inside.below))

  -- a sector of the other area is written
  pub each_write : (idle : Idle) (sector : ℕ) (octets : List ℕ) (c : Content) → IsInOther s sector → Spares s idle sector
      → EachImage c (IsKeptAs size s idle)
      → EachImage (wrote sector octets c) (IsKeptAs size s idle)
  each_write idle sector octets c inside spares kept image is =
      let w = image-wrote sector octets c image is in
      let was = kept w.0 w.1 in
      other_frame s w.0 image (but_area sector w.0 image inside w.2) size idle idle was
      (idle_after idle sector w.0 image spares w.2 was.other_area)

  -- a sync, after which the other area is harmless in this way
  pub each_sync : (was idle : Idle) (c : Content) → EachImage c (IsKeptAs size s was) → IsIdle s idle (reads c)
      → EachImage (synced c) (IsKeptAs size s idle)
  each_sync was idle c kept harmless image is =
      subst (IsKeptAs size s idle) (sym (image-synced c image is))
      (other_frame s (reads c) (reads c) (λ i apart. refl) size was idle (kept (reads c) (reads-is_image c)) harmless)

  pub sync_again : (idle : Idle) (c : Content) → EachImage c (IsKeptAs size s idle) → EachImage (synced c) (IsKeptAs size s idle)
  sync_again idle c kept = each_sync idle idle c kept (kept (reads c) (reads-is_image c)).other_area

-- the area that is written, with the standing that this log gives
module _ (size : ℕ) (s : Standing) (log : Log) (alike : area_sectors (renewed s.layout) ≡ area_sectors s.layout) where
  abbrev t : Standing
  t = target s log

  -- it is at the place of the journal's other area
  gates : (a : Area) → gate_at t.layout a ≡ gate_at s.layout a
  gates = gate-same t.layout s.layout alike

  pub there : gate_at t.layout t.area ≡ gate_at s.layout (other s.area)
  there = gates (other s.area)

  -- one more slot is closed
  pub shut_more : (k : ℕ) (c : Content) → AreShut t k (reads c)
      → AreShut t (k + 1) (reads (wrote (slot_at t.layout t.area k) closed_gate c))
  shut_more k c shut j below = elim (cases_lt j k) [
    | inl before ↦ ap is_open
        (reads-wrote_other (slot_at t.layout t.area k) closed_gate c (slot_at t.layout t.area j) (omega (arith, before)))
        ∙ shut j before
    | inr last ↦
        let here : slot_at t.layout t.area j ≡ slot_at t.layout t.area k = omega (arith, last, below) in
        ap (λ (i : ℕ). is_open (reads (wrote (slot_at t.layout t.area k) closed_gate c) i)) here
        ∙ ap is_open (reads-wrote_here (slot_at t.layout t.area k) closed_gate c) ∙ is_open-closed_gate
  ]

  -- a write before the slots leaves them closed
  shut_still : (k sector : ℕ) (octets : List ℕ) (c : Content) → sector < slot_at t.layout t.area 0 → AreShut t k (reads c)
      → AreShut t k (reads (wrote sector octets c))
  shut_still k sector octets c before shut j below =
      ap is_open (reads-wrote_other sector octets c (slot_at t.layout t.area j) (omega (arith, before))) ∙ shut j below

  pub prepared_none : (c : Content) → t.epoch ≤ t.number + epochs_ahead t.layout.version → t.number ≤ LAST_NUMBER
      → AreShut t t.layout.slots (reads c)
      → IsPrepared t 0 (reads (wrote (header_at t.layout t.area) (header_octets t.layout.version t.epoch t.number) c))
  prepared_none c near bound shut = record {
    shut = shut_still t.layout.slots (header_at t.layout t.area) (header_octets t.layout.version t.epoch t.number) c (omega arith) shut;
    head =
        ap header_of (reads-wrote_here (header_at t.layout t.area) (header_octets t.layout.version t.epoch t.number) c)
        ∙ header_of-octets t.layout.version t.epoch t.number (omega (arith, near, bound, few-ahead t.layout.version)) (omega
        (arith, bound));
    written = tt;
  }

  -- ---- the records

  -- the write of a sector of the records
  pub record_written : (owed : List (List CommandValue)) (i : ℕ) (c : Content) → AreRecords t.layout t.area t.state
      → i < length (snapshot_writes t) → EachImage c (IsKeptAs size s Closed) → IsPrepared t i (reads c)
      → EachImage (content_after (call_at t owed (WriteRecord i)) c) (IsKeptAs size s Closed)
      × IsPrepared t (i + 1) (reads (content_after (call_at t owed (WriteRecord i)) c))
  record_written owed i c records below kept ready =
      let nth = row-nth (port_at t.layout t.area 0) (slot_at t.layout t.area 0) (snapshot_writes t) i records.row below in
      let call : call_at t owed (WriteRecord i) ≡ write nth.sector nth.octets =
      ap (λ (found : Option Call). unwrap_or found sync) nth.at_place in
      let next : suc i ≡ i + 1 = omega arith in
      let inside : IsInOther s nth.sector =
      record { from = omega (arith, nth.from, there); below = omega (arith, nth.below, there, alike) } in
      subst (λ (made : Call).
      EachImage (content_after made c) (IsKeptAs size s Closed) × IsPrepared t (i + 1) (reads (content_after made c)))
      (sym call) (
        each_write size s Closed nth.sector nth.octets c inside (omega (arith, nth.from, there)) kept,
        record {
          shut = shut_still t.layout.slots nth.sector nth.octets c nth.below ready.shut;
          head = ap header_of (reads-wrote_other nth.sector nth.octets c (header_at t.layout t.area) (omega (arith, nth.from)))
              ∙ ready.head;
          written =
              subst (λ (n : ℕ). HasWrites (take n (snapshot_writes t)) (reads (wrote nth.sector nth.octets c))) next
              (nth.more (reads c) (reads (wrote nth.sector nth.octets c)) (λ k away. reads-wrote_other nth.sector nth.octets c k away)
              (reads-wrote_here nth.sector nth.octets c) ready.written);
        },
      )

  -- once the whole area is written, its open gate puts it in use
  pub opens : (c : Content) → t.epoch ≤ t.number + epochs_ahead t.layout.version → t.number ≤ LAST_NUMBER → IsFresh t
      → IsKeptAs size s Closed (reads c)
      → IsPrepared t (length (snapshot_writes t)) (reads c) → OpensTo size t c
  opens c near bound fresh kept ready image same gate = put (stands_read size (reads c) s kept.stands)
    where
      own_gate : gate_at s.layout (other (other s.area)) ≢ gate_at t.layout (other s.area)
      own_gate = apart s.area
        where
          apart : (a : Area) → gate_at s.layout (other (other a)) ≢ gate_at t.layout (other a)
          apart A = omega arith
          apart B = omega arith

      own_header : header_at s.layout (other (other s.area)) ≢ gate_at t.layout (other s.area)
      own_header = apart s.area
        where
          apart : (a : Area) → header_at s.layout (other (other a)) ≢ gate_at t.layout (other a)
          apart A = omega arith
          apart B = omega arith

      back : other (other s.area) ≡ s.area
      back = twice s.area
        where
          twice : (a : Area) → other (other a) ≡ a
          twice A = refl
          twice B = refl

      old_header : (base : ℕ) (ports : State) → IsRead size (reads c) s base ports → header_in s.layout image (other (other s.area))
          ≡ Some (header_for s base)
      old_header base ports is =
          let at_gate : image (gate_at s.layout (other (other s.area))) ≡ reads c (gate_at s.layout (other (other s.area))) =
          same _ own_gate in
          let at_header : image (header_at s.layout (other (other s.area))) ≡ reads c (header_at s.layout (other (other s.area))) =
          same _ own_header in
          let there : header_in s.layout image (other (other s.area)) ≡ header_in s.layout (reads c) (other (other s.area)) =
          rw (at_gate, at_header) refl in
          there ∙ ap (header_in s.layout (reads c)) back ∙ (in_use_header s.layout (reads c) s.area _ is.in_use).0

      sound : is_sound (header_of_target t) ≡ true
      sound = bounds-sound t.layout.version t.epoch t.number (record { first = omega arith; ahead = near; last = bound })

      whole : IsWhole t.layout t.area (header_of_target t) t.state image
      whole = record {
        shut = λ k below. ap is_open (same (slot_at t.layout t.area k) (omega arith)) ∙ ready.shut k below;
        head = ap header_of (same (header_at t.layout t.area) (omega arith)) ∙ ready.head;
        ports_are =
            fresh.records.read_back image
            (has-same (port_at t.layout t.area 0) (slot_at t.layout t.area 0) (snapshot_writes t) (reads c) image
            fresh.records.row
            (λ i above below. same i (omega (arith, above)))
            (subst (λ (calls : List Call). HasWrites calls (reads c)) (take-length (snapshot_writes t)) ready.written));
      }

      put : (base : ℕ) × (ports : State) × IsRead size (reads c) s base ports → IsKeptAs size t Older image
      put (base, ports, is) =
          let two = two_before s.layout (other s.area) in
          let front : geometry_in size image ≡ geometry_in size (reads c) =
          rw (same DISK_GATE (omega (arith, two, there)), same GEOMETRY (omega (arith, two, there))) refl in
          let formatted : IsFormattedFor size image t.layout =
          record {
            geometry = is.layout.geometry;
            found = front
                ∙ is.layout.found;
            so = renewed-so s.layout is.layout.geometry is.layout.so;
          } in
          let header : header_in t.layout image (other (other s.area)) ≡ Some (header_for s base) =
          header_in-same t.layout s.layout alike image (other (other s.area)) ∙ old_header base ports is in
          subst (λ (n : ℕ). IsKeptAs size (target s (record { used = n; number = log.number; state = log.state })) Older image)
          (sym fresh.none)
          (whole_stands size t.layout t.area (header_of_target t) t.state Older image formatted gate refl sound
          (rw header (omega arith))
          (rw (header_found t.layout image (other (other s.area)) _ header) (omega arith))
          whole)

  -- while the gate is being written
  pub turning : (c : Content) → EachImage c (IsKeptAs size s Closed) → IsSettled c → OpensTo size t c → (image : Image)
      → IsImage (wrote (gate_at t.layout t.area) open_gate c) image → IsTurning size s t image
  turning c kept settled opens_to image is =
      let w = image-wrote (gate_at t.layout t.area) open_gate c image is in
      let inside : IsInOther s (gate_at t.layout t.area) = record { from = omega (arith, there); below = omega (arith, there) } in (
        λ closed. other_frame s w.0 image (but_area size s (gate_at t.layout t.area) w.0 image inside w.2) size Closed Closed
            (kept w.0 w.1) (ap (λ (n : ℕ). is_open (image n)) (sym there) ∙ closed),
        λ opened. opens_to image (λ i away. w.2 i away ∙ ap (λ (left : Image). left i) (image-settled c w.0 settled w.1)) opened,
      )
