-- What a power stop leaves of a disk while it is erased.
use Rattle.std.proofs.Common.{◌≡◌, ◌≢◌, ◌≤◌, ◌<◌, ◌⊎◌, ℕ, zero, suc, ◌-◌, ◌^◌, nat_lt, Bool, true, false, IsTrue, [], ◌∷◌, take, Option}
use Rattle.std.proofs.Common.{Result, Ok, Err, OnOk, inl, inr, refl, sym, ◌∙◌, ap, subst, arith}
use Rattle.std.proofs.Math.Bool.{and-false}
use Rattle.std.proofs.lemmas.Bool.Decides.{nat_tests}
use Rattle.iol_types.specs.State.{State, after}
use Rattle.iol_disk.specs.Content.{Image, Content, IsImage, reads, wrote, synced}
use Rattle.iol_disk.specs.Calls.{Call, write, sync, content_after_all, Made, FailedIn, Makes}
use Rattle.iol_disk.specs.Disk.{Disk, After, Same, HasFailed, Shows}
use Rattle.iol_disk.specs.Moments.{LeavesOnly}
use Rattle.iol_disk.specs.declared.fault.DiskFault.{DiskFault}
use Rattle.iol_disk.specs.declared.fault.DiskFault.TheVariants.{Read, Write, Sync}
use Rattle.iol_disk.proofs.DiskLaws.{reads-is_image, image-wrote, image-synced, reads-wrote_here, HasOnTheWay, made_leaves, failed_leaves}
use Rattle.iol_disk.proofs.DiskLaws.{leaves_sync, made_one, made_append, made_then_same, failed_first, failed_later}
use Rattle.iol_disk.specs.Gate.{is_open, closed_gate}
use Rattle.iol_disk.proofs.SlotLaws.{is_open-closed_gate}
use Rattle.iol_layout.specs.Layout.{Layout, layout_of, gate_at, header_at}
use Rattle.iol_layout.specs.Meaning.{unformatted, is_formatted, geometry_in, header_in, in_use_in, greatest, ports_from}
use Rattle.iol_layout.specs.Meaning.{log_from, layout_used}
use Rattle.iol_layout.specs.Meaning.{standing_in, meaning}
use Rattle.iol_journal.specs.Erasing.{erase_calls, MakesErasureOf, MakesErasure, MeansAsBeforeOrNothing, EachUnformatted}
use Rattle.iol_layout.specs.declared.area.Area.{Area}
use Rattle.iol_layout.specs.declared.area.Area.TheVariants.{A, B}
use Rattle.iol_layout.specs.declared.header.Header.{Header}
use Rattle.iol_layout.specs.declared.geometry.TheConstants.{GEOMETRY, DISK_GATE}
use Rattle.iol_layout.specs.declared.in_use.InUse.{InUse}
use Rattle.iol_layout.proofs.Chains.{by_test, bind_same}
use Rattle.iol_journal.proofs.EmptyJournals.{shut-unformatted}
use Rattle.iol_layout.proofs.Logs.{log_from-same}
use Rattle.iol_disk.proofs.Synced.{synced-honest, synced-then, synced-reads, no_read}
use Rattle.iol_layout.proofs.Sectors.{ports_from-same}

-- the meaning of an image depends on the gate of the disk only by whether it is open
module _ (sectors : ℕ) (old new : Image) (same : (i : ℕ) → i ≢ DISK_GATE → new i ≡ old i) (gate : is_open (new DISK_GATE)
    ≡ is_open (old DISK_GATE)) where
  behind : (layout : Layout) (a : Area) → DISK_GATE < gate_at layout a
  behind layout A = omega arith
  behind layout B = omega arith

  geometry_same : geometry_in sectors new ≡ geometry_in sectors old
  geometry_same = rw (gate, same GEOMETRY (omega arith)) refl

  header_same : (layout : Layout) (a : Area) → header_in layout new a ≡ header_in layout old a
  header_same layout a =
      let at_gate : new (gate_at layout a) ≡ old (gate_at layout a) = same (gate_at layout a) (omega (arith, behind layout a)) in
      let at_header : new (header_at layout a) ≡ old (header_at layout a) = same (header_at layout a) (omega (arith, behind layout a)) in
      rw (at_gate, at_header) refl

  in_use_same : (layout : Layout) → in_use_in layout new ≡ in_use_in layout old
  in_use_same layout =
      ap (λ (h : Option Header). greatest layout h (header_in layout new B)) (header_same layout A)
      ∙ ap (λ (h : Option Header). greatest layout (header_in layout old A) h) (header_same layout B)

  ports_same : (layout : Layout) (a : Area) → ports_from layout a new 0 layout.ports ≡ ports_from layout a old 0 layout.ports
  ports_same layout a = ports_from-same layout a old new 0 layout.ports (λ i above below. same i (omega (arith, above, behind layout a)))

  log_same : (layout : Layout) (u : InUse) (ports : State)
      → log_from layout u.area u.header.epoch new 0 0 layout.slots u.header.base ports
      ≡ log_from layout u.area u.header.epoch old 0 0 layout.slots u.header.base ports
  log_same layout u ports =
      log_from-same layout u.area u.header.epoch old new 0 0 layout.slots u.header.base ports (λ i above below.
      same i (omega (arith, above, behind layout u.area)))

  standing_same : standing_in sectors new ≡ standing_in sectors old
  unfolding standing_in
  standing_same =
      rw geometry_same
      (bind_same (geometry_in sectors old) _ _ (λ g. rw (in_use_same (layout_of g))
      (bind_same (in_use_in (layout_of g) old) _ _ (λ u. rw (ports_same (layout_used g u) u.area)
      (bind_same (ports_from (layout_used g u) u.area old 0 g.ports) _ _ (λ ports. rw (log_same (layout_used g u) u ports) refl))))))

  pub meaning_same : meaning sectors new ≡ meaning sectors old
  meaning_same = rw standing_same refl

unformatted_if : (sectors : ℕ) (image : Image) → is_formatted sectors image ≡ false → meaning sectors image ≡ Err unformatted
unfolding standing_in
unformatted_if sectors image none = rw none refl

-- the gate of a disk that reads open is closed
module _ (sectors : ℕ) (c : Content) (was_open : is_open (reads c DISK_GATE) ≡ true) where
  abbrev closing : Content
  closing = wrote DISK_GATE closed_gate (synced c)

  abbrev P : Image → Type 0
  P = MeansAsBeforeOrNothing sectors c

  as_read : (image : Image) → IsImage (synced c) image → P image
  as_read image is = inr (reads c, reads-is_image c, ap (meaning sectors) (image-synced c image is))

  -- the closed gate is written, and not yet synced
  written : (image : Image) → IsImage closing image → P image
  written image is =
      let w = image-wrote DISK_GATE closed_gate (synced c) image is in
      let was = image-synced c w.0 w.1 in
      by_test (is_open (image DISK_GATE)) _
      (λ opened. inr (
        reads c,
        reads-is_image c,
        meaning_same sectors (reads c) image (λ i other. w.2 i other ∙ ap (λ (left : Image). left i) was) (opened ∙ sym was_open),
      ))
      (λ closed. inl (shut-unformatted sectors image closed))

  closed_now : (image : Image) → IsImage (synced closing) image → meaning sectors image ≡ Err unformatted
  closed_now image is =
      shut-unformatted sectors image
      (ap (λ (left : Image). is_open (left DISK_GATE)) (image-synced closing image is)
      ∙ ap is_open (reads-wrote_here DISK_GATE closed_gate (synced c)) ∙ is_open-closed_gate)

  way : HasOnTheWay (erase_calls true) c P
  way zero image is = inr (image, is, refl)
  way (suc zero) image is = as_read image is
  way (suc (suc zero)) image is = written image is
  way (suc (suc (suc place))) image is = last place image is
    where
      last : (place : ℕ) (image : Image) → IsImage (content_after_all (take {A = Call} place []) (synced closing)) image → P image
      last zero image is = inl (closed_now image is)
      last (suc place) image is = inl (closed_now image is)

-- nothing is written
quiet_way : (sectors : ℕ) (c : Content) → HasOnTheWay (erase_calls false) c (MeansAsBeforeOrNothing sectors c)
quiet_way sectors c zero image is = inr (image, is, refl)
quiet_way sectors c (suc place) image is = last place image is
  where
    last : (place : ℕ) (image : Image) → IsImage (content_after_all (take {A = Call} place []) (synced c)) image
        → MeansAsBeforeOrNothing sectors c image
    last zero image is = inr (reads c, reads-is_image c, ap (meaning sectors) (image-synced c image is))
    last (suc place) image is = inr (reads c, reads-is_image c, ap (meaning sectors) (image-synced c image is))

open_gate_of : (sectors : ℕ) (image : Image) → true ≡ is_formatted sectors image → is_open (image DISK_GATE) ≡ true
open_gate_of sectors image is = by_test (is_open (image DISK_GATE)) _ (λ opened. opened) (λ closed. absurd (clash closed))
  where
    clash : is_open (image DISK_GATE) ≡ false → ⊥
    clash closed = let none : is_formatted sectors image ≡ false = rw (closed, and-false) refl in cc

way_of : (gate : Bool) (d : Disk) → (IsTrue d.honest → gate ≡ is_formatted d.sectors (reads d.content)) → IsTrue d.honest
    → HasOnTheWay (erase_calls gate) d.content (MeansAsBeforeOrNothing d.sectors d.content)
way_of true d so h = way d.sectors d.content (open_gate_of d.sectors (reads d.content) (so h))
way_of false d so h = quiet_way d.sectors d.content

leaves_of : (gate : Bool) (old new : Disk) (result : Result Unit DiskFault)
    → (IsTrue old.honest → gate ≡ is_formatted old.sectors (reads old.content))
    → MakesErasureOf gate old new result → LeavesOnly old new (MeansAsBeforeOrNothing old.sectors old.content)
leaves_of gate old new (Ok done) so made = made_leaves _ old new _ made (way_of gate old so)
leaves_of gate old new (Err Read) so failed = leaves_sync old new _ failed.0 (λ h image is. inr (image, is, refl))
leaves_of gate old new (Err Write) so failed = failed_leaves _ Write old new _ failed (way_of gate old so)
leaves_of gate old new (Err Sync) so failed = failed_leaves _ Sync old new _ failed (way_of gate old so)

pub erasure_leaves : (old new : Disk) (result : Result Unit DiskFault) → MakesErasure old new result
    → LeavesOnly old new (MeansAsBeforeOrNothing old.sectors old.content)
erasure_leaves old new result makes = leaves_of makes.gate old new result makes.reads_so makes.made

each_of : (gate : Bool) (old new : Disk) → (IsTrue old.honest → gate ≡ is_formatted old.sectors (reads old.content))
    → Made (erase_calls gate) old new → EachUnformatted new
each_of true old new so made h image is =
    let h_old = subst IsTrue made.after.honest h in
    subst (λ (n : ℕ). meaning n image ≡ Err unformatted) (sym made.after.sectors)
    (closed_now old.sectors old.content (open_gate_of old.sectors (reads old.content) (so h_old)) image
    (subst (λ (c : Content). IsImage c image) (made.after.content h_old) is))
each_of false old new so made h image is =
    let h_old = subst IsTrue made.after.honest h in
    let was = image-synced old.content image (subst (λ (c : Content). IsImage c image) (made.after.content h_old) is) in
    subst (λ (n : ℕ). meaning n image ≡ Err unformatted) (sym made.after.sectors)
    (unformatted_if old.sectors image (ap (is_formatted old.sectors) was ∙ sym (so h_old)))

-- no image of an erased disk is formatted
pub erased : (old new : Disk) (result : Result Unit DiskFault) → MakesErasure old new result → OnOk result (EachUnformatted new)
erased old new (Ok done) makes = each_of makes.gate old new makes.reads_so makes.made
erased old new (Err fault) makes = tt

-- ---- by the results of the calls

there_of : (sectors : ℕ) (image : Image) → is_formatted sectors image ≡ true → DISK_GATE < sectors
there_of sectors image is = by_test (nat_lt DISK_GATE sectors) _ (λ large. grind (arith, nat_tests)) (λ small. absurd (clash small))
  where
    clash : nat_lt DISK_GATE sectors ≡ false → ⊥
    clash small = let none : is_formatted sectors image ≡ false = rw small refl in cc

failed_in_first : (gate : Bool) (told : DiskFault) (old new : Disk) → FailedIn (sync ∷ []) told old new
    → MakesErasureOf gate old new (Err told)
failed_in_first gate Read old new failed = absurd (no_read failed.call failed.kind)
failed_in_first true Write old new failed = failed_first (sync ∷ []) (write DISK_GATE closed_gate ∷ sync ∷ []) Write old new failed
failed_in_first false Write old new failed = failed
failed_in_first true Sync old new failed = failed_first (sync ∷ []) (write DISK_GATE closed_gate ∷ sync ∷ []) Sync old new failed
failed_in_first false Sync old new failed = failed

-- before the gate was read: the gate is what the disk reads as
as_it_reads : (old new : Disk) (result : Result Unit DiskFault)
    → MakesErasureOf (is_formatted old.sectors (reads old.content)) old new result → MakesErasure old new result
as_it_reads old new result made = record {
  gate = is_formatted old.sectors (reads old.content);
  reads_so = λ h. refl;
  there = there_of old.sectors (reads old.content);
  made = made;
}

pub sync_failed : (told : DiskFault) (old new : Disk) → FailedIn (sync ∷ []) told old new → MakesErasure old new (Err told)
sync_failed told old new failed =
    as_it_reads old new (Err told) (failed_in_first (is_formatted old.sectors (reads old.content)) told old new failed)

pub read_failed : (told : DiskFault) (old mid new : Disk) → told ≡ Read → After synced old mid → mid.failures ≡ old.failures → Same mid new
    → HasFailed mid new → MakesErasure old new (Err told)
read_failed told old mid new is after counted same failed =
    subst (λ (fault : DiskFault). MakesErasure old new (Err fault)) (sym is)
    (as_it_reads old new (Err Read) (
      synced-then old mid new after same,
      subst (λ (n : ℕ). (n < new.failures) ⊎ (2 ^ 64 - 1 ≤ new.failures)) counted failed,
    ))

-- after the gate was read
module _ (gate : Bool) (old mid read : Disk) (after : After synced old mid) (counted : mid.failures ≡ old.failures) (same : Same mid read)
    (fault : read.failures ≡ mid.failures)
    (so : Shows mid (λ image. gate ≡ is_formatted mid.sectors image)) (large : gate ≡ true → DISK_GATE < mid.sectors) where
  reads_before : IsTrue old.honest → gate ≡ is_formatted old.sectors (reads old.content)
  reads_before h =
      so (synced-honest old mid after h) ∙ ap (λ (n : ℕ). is_formatted n (reads mid.content)) after.sectors
      ∙ ap (is_formatted old.sectors) (synced-reads old mid after h)

  first : Made (sync ∷ []) old read
  first = made_then_same (sync ∷ []) old mid read (made_one sync old mid after counted) same fault

  pub was_shut : gate ≡ false → MakesErasure old read (Ok tt)
  was_shut is = record {
    gate = gate;
    reads_so = reads_before;
    there = λ gated. subst (λ (n : ℕ). DISK_GATE < n) after.sectors (large gated);
    made = subst (λ (b : Bool). Made (erase_calls b) old read) (sym is) first;
  }

  closes : (result : Result Unit DiskFault) (new : Disk) → Makes (write DISK_GATE closed_gate ∷ sync ∷ []) read new result
      → MakesErasureOf true old new result
  closes (Ok done) new made = made_append (sync ∷ []) (write DISK_GATE closed_gate ∷ sync ∷ []) old read new first made
  closes (Err Read) new failed = absurd (no_read failed.call failed.kind)
  closes (Err Write) new failed = failed_later (sync ∷ []) (write DISK_GATE closed_gate ∷ sync ∷ []) Write old read new first failed
  closes (Err Sync) new failed = failed_later (sync ∷ []) (write DISK_GATE closed_gate ∷ sync ∷ []) Sync old read new first failed

  pub was_open : gate ≡ true → (result : Result Unit DiskFault) (new : Disk)
      → Makes (write DISK_GATE closed_gate ∷ sync ∷ []) read new result → MakesErasure old new result
  was_open is result new makes = record {
    gate = gate;
    reads_so = reads_before;
    there = λ gated. subst (λ (n : ℕ). DISK_GATE < n) after.sectors (large gated);
    made = subst (λ (b : Bool). MakesErasureOf b old new result) (sym is) (closes result new makes);
  }
