-- While the gate of the disk is shut, nothing written after it counts; the content counts once the gate is open and durable.
use Rattle.std.proofs.Common.{◌≡◌, ◌≢◌, ◌≤◌, ℕ, zero, suc, false, List, [], ◌∷◌, ◌++◌, inl, sym, ◌∙◌, ap, subst, take}
use Rattle.iol_record.specs.declared.version.Version.{Version}
use Rattle.iol_disk.specs.Content.{Image, Content, IsImage, reads, wrote, synced}
use Rattle.iol_disk.specs.Calls.{Call, write, sync, content_after, content_after_all}
use Rattle.iol_disk.proofs.DiskLaws.{reads-is_image, image-wrote, image-synced, reads-wrote_here, reads-wrote_other, HasOnTheWay}
use Rattle.iol_disk.specs.Gate.{is_open, open_gate}
use Rattle.iol_disk.proofs.SlotLaws.{is_open-open_gate}
use Rattle.iol_layout.specs.Geometry.{Geometry}
use Rattle.iol_layout.specs.Layout.{laid_out, total}
use Rattle.iol_journal.specs.Formatting.{IsEmptyJournalOf, IsEmptyOrUnformatted}
use Rattle.iol_journal.proofs.EmptyParts.{IsEmptyJournal}
use Rattle.iol_journal.specs.Orders.{opening_calls}
use Rattle.iol_layout.specs.declared.geometry.TheConstants.{DISK_GATE}
use Rattle.iol_journal.proofs.EmptyJournals.{shut-unformatted, journal-after_gate, empty-journal, empty-or_unformatted}

-- whatever a power stop leaves, the gate of the disk is closed
abbrev pub Shut : Content → Type 0
Shut c = (image : Image) → IsImage c image → is_open (image DISK_GATE) ≡ false

-- no call writes the gate of the disk
abbrev pub Spares : List Call → Type 0
Spares [] = Unit {0}
Spares (write sector octets ∷ calls) = (DISK_GATE ≢ sector) × Spares calls
Spares (sync ∷ calls) = Spares calls

pub spares-append : (first second : List Call) → Spares first → Spares second → Spares (first ++ second)
spares-append [] second a b = b
spares-append (write sector octets ∷ first) second a b = (a.0, spares-append first second a.1 b)
spares-append (sync ∷ first) second a b = spares-append first second a b

shut-wrote : (sector : ℕ) (octets : List ℕ) (c : Content) → DISK_GATE ≢ sector → Shut c → Shut (wrote sector octets c)
shut-wrote sector octets c apart shut image is = let w = image-wrote sector octets c image is in ap is_open (w.2 DISK_GATE apart)
    ∙ shut w.0 w.1

shut-synced : (c : Content) → Shut c → Shut (synced c)
shut-synced c shut image is = ap (λ (left : Image). is_open (left DISK_GATE)) (image-synced c image is) ∙ shut (reads c) (reads-is_image c)

-- the gate stays shut during calls that do not write it
pub spared : (calls : List Call) (c : Content) → Spares calls → Shut c → HasOnTheWay calls c (λ image. is_open (image DISK_GATE) ≡ false)
spared [] c spares shut zero image is = shut image is
spared [] c spares shut (suc place) image is = shut image is
spared (write sector octets ∷ calls) c spares shut zero image is = shut image is
spared (write sector octets ∷ calls) c spares shut (suc place) image is =
    spared calls (wrote sector octets c) spares.1 (shut-wrote sector octets c spares.0 shut) place image is
spared (sync ∷ calls) c spares shut zero image is = shut image is
spared (sync ∷ calls) c spares shut (suc place) image is = spared calls (synced c) spares (shut-synced c shut) place image is

-- and after them
pub spared-end : (calls : List Call) (c : Content) → Spares calls → Shut c → Shut (content_after_all calls c)
spared-end [] c spares shut = shut
spared-end (write sector octets ∷ calls) c spares shut =
    spared-end calls (wrote sector octets c) spares.1 (shut-wrote sector octets c spares.0 shut)
spared-end (sync ∷ calls) c spares shut = spared-end calls (synced c) spares (shut-synced c shut)

-- the images during further calls
pub way_append : (first second : List Call) (c : Content) (P : Image → Type 0) → HasOnTheWay first c P
    → HasOnTheWay second (content_after_all first c) P
    → HasOnTheWay (first ++ second) c P
way_append [] second c P a b place image is = b place image is
way_append (call ∷ first) second c P a b zero image is = a zero image is
way_append (call ∷ first) second c P a b (suc place) image is =
    way_append first second (content_after call c) P (λ n. a (suc n)) b place image is

module _ (version : Version) (g : Geometry) (sectors : ℕ) (fits : total (laid_out version g) ≤ sectors) (c : Content) (shut : Shut c)
    (journal : IsEmptyJournal version g (reads c)) where
  unformatted_now : (image : Image) → is_open (image DISK_GATE) ≡ false → IsEmptyOrUnformatted g sectors image
  unformatted_now image closed = inl (shut-unformatted sectors image closed)

  abbrev gated : Content
  gated = wrote DISK_GATE open_gate (synced c)

  -- the gate is written, and not yet synced
  gate_written : (image : Image) → IsImage gated image → IsEmptyOrUnformatted g sectors image
  gate_written image is =
      let w = image-wrote DISK_GATE open_gate (synced c) image is in
      let was = subst (IsEmptyJournal version g) (sym (image-synced c w.0 w.1)) journal in
      empty-or_unformatted version g sectors image fits (journal-after_gate version g image w.0 w.2 was)

  -- the gate is opened after a sync
  pub opened : HasOnTheWay opening_calls c (IsEmptyOrUnformatted g sectors)
  opened zero image is = unformatted_now image (shut image is)
  opened (suc zero) image is = unformatted_now image (shut-synced c shut image is)
  opened (suc (suc zero)) image is = gate_written image is
  opened (suc (suc (suc place))) image is = last place image is
    where
      synced_last : (image : Image) → IsImage (synced gated) image → IsEmptyOrUnformatted g sectors image
      synced_last image is =
          subst (IsEmptyOrUnformatted g sectors) (sym (image-synced gated image is)) (gate_written (reads gated) (reads-is_image gated))

      last : (place : ℕ) (image : Image) → IsImage (content_after_all (take {A = Call} place []) (synced gated)) image
          → IsEmptyOrUnformatted g sectors image
      last zero image is = synced_last image is
      last (suc place) image is = synced_last image is

  -- once it is durable each image is the empty journal
  pub durable : (image : Image) → IsImage (content_after_all opening_calls c) image → IsEmptyJournalOf g sectors image
  durable image is =
      subst (λ (left : Image). IsEmptyJournalOf g sectors left) (sym (image-synced gated image is))
      (empty-journal version g sectors (reads gated) fits (ap is_open (reads-wrote_here DISK_GATE open_gate (synced c)) ∙ is_open-open_gate)
      (journal-after_gate version g (reads gated) (reads c) (λ i other. reads-wrote_other DISK_GATE open_gate (synced c) i other) journal))
