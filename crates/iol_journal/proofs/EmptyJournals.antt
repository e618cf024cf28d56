-- An empty journal, as it is read.
use Rattle.std.proofs.Common.{◌≡◌, ◌≢◌, ◌≤◌, ℕ, true, false, nat_lt, nat_le, ◌&&◌, Bool, Ok, Err, inl, inr, refl, ◌∙◌, ap, arith}
use Rattle.std.proofs.Math.Bool.{and-false}
use Rattle.std.proofs.lemmas.Bool.Decides.{nat_tests}
use Rattle.iol_types.specs.State.{empty_state}
use Rattle.iol_disk.specs.Content.{Image}
use Rattle.iol_disk.specs.Gate.{is_open}
use Rattle.iol_record.specs.declared.version.Version.{Version}
use Rattle.iol_record.specs.declared.version.Version.TheVariants.{One, Two}
use Rattle.iol_layout.specs.Geometry.{Geometry, given_up}
use Rattle.iol_layout.specs.Header.{header_of, is_sound}
use Rattle.iol_layout.specs.Layout.{Layout, laid_out, total, gate_at, header_at, slot_at}
use Rattle.iol_layout.specs.Meaning.{unformatted, geometry_in, standing_in, meaning}
use Rattle.iol_journal.specs.Formatting.{IsEmptyJournalOf, IsEmptyOrUnformatted, first_header}
use Rattle.iol_journal.proofs.EmptyParts.{HasAreas, IsEmptyJournal}
use Rattle.iol_layout.proofs.Layouts.{same_total}
use Rattle.iol_layout.proofs.Frames.{kept_means}
use Rattle.iol_layout.proofs.OtherArea.{whole_stands, standing_with}
use Rattle.iol_layout.proofs.Sectors.{ports_from-same}
use Rattle.iol_layout.specs.declared.area.Area.TheVariants.{A, B}
use Rattle.iol_layout.specs.declared.idle.Idle.TheVariants.{Closed}
use Rattle.iol_layout.specs.declared.geometry.TheConstants.{GEOMETRY, DISK_GATE}

pub shut-unformatted : (sectors : ℕ) (image : Image) → is_open (image DISK_GATE) ≡ false → meaning sectors image ≡ Err unformatted
unfolding standing_in
shut-unformatted sectors image shut =
    let none : (nat_lt 1 sectors && is_open (image DISK_GATE)) ≡ false = rw (shut, and-false) refl in
    rw none refl

-- the first area may be in use
first-sound : (version : Version) → is_sound (first_header version) ≡ true
first-sound One = refl
first-sound Two = refl

module _ (version : Version) (g : Geometry) where
  abbrev layout : Layout
  layout = laid_out version g

  -- the gate of the disk does not belong to the area
  pub journal-after_gate : (image was : Image) → ((i : ℕ) → i ≢ DISK_GATE → image i ≡ was i) → IsEmptyJournal version g was
      → IsEmptyJournal version g image
  journal-after_gate image was same is = record {
    areas = record {
      geometry = rw (same GEOMETRY (omega arith)) is.areas.geometry;
      is = is.areas.is;
      a_open = rw (same (gate_at layout A) (omega arith)) is.areas.a_open;
      b_closed = rw (same (gate_at layout B) (omega arith)) is.areas.b_closed;
    };
    whole = record {
      shut = λ k below. rw (same (slot_at layout A k) (omega arith)) (is.whole.shut k below);
      head = ap header_of (same (header_at layout A) (omega arith)) ∙ is.whole.head;
      ports_are = ports_from-same layout A was image 0 g.ports (λ i above below. same i (omega (arith, above))) ∙ is.whole.ports_are;
    };
  }

  geometry-said : (sectors : ℕ) (image : Image) → total layout ≤ sectors → is_open (image DISK_GATE) ≡ true
      → HasAreas version g image
      → geometry_in sectors image ≡ Ok g
  geometry-said sectors image fits formatted areas =
      let formatted_large : (nat_lt 1 sectors && is_open (image DISK_GATE)) ≡ true = grind (arith, nat_tests) in
      let large : nat_le (total (laid_out One g)) sectors ≡ true = grind (arith, nat_tests, same_total version g areas.is) in
      let keeps_slot : nat_lt (given_up Two g.ports) g.slots ≡ true = grind (arith, nat_tests, areas.is.keeps_slot) in
      rw (formatted_large, areas.geometry, large, keeps_slot) refl

  -- with the gate open, the image has its layout, is kept, and means number 0 and the empty state
  pub empty-journal : (sectors : ℕ) (image : Image) → total layout ≤ sectors → is_open (image DISK_GATE) ≡ true
      → IsEmptyJournal version g image
      → IsEmptyJournalOf g sectors image
  empty-journal sectors image fits formatted is =
      let found = geometry-said sectors image fits formatted is.areas in
      record {
        formatted = found;
        empty =
            kept_means sectors (standing_with layout A (first_header version) (empty_state g.ports)) Closed image
            (whole_stands sectors layout A (first_header version) (empty_state g.ports) Closed image
            (record { geometry = g; found = found; so = refl }) is.areas.a_open refl (first-sound version)
            (rw is.areas.b_closed tt) is.areas.b_closed is.whole);
      }

  -- whatever a power stop leaves of the gate of the disk
  pub empty-or_unformatted : (sectors : ℕ) (image : Image) → total layout ≤ sectors → IsEmptyJournal version g image
      → IsEmptyOrUnformatted g sectors image
  empty-or_unformatted sectors image fits is = at (is_open (image DISK_GATE)) refl
    where
      at : (b : Bool) → is_open (image DISK_GATE) ≡ b → IsEmptyOrUnformatted g sectors image
      at true formatted = inr (empty-journal sectors image fits formatted is)
      at false shut = inl (shut-unformatted sectors image shut)
