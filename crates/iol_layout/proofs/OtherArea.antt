-- Writes in the area that is not in use. They change no meaning while it is harmless; once it is written whole, its open
-- gate puts it in use.
use Rattle.std.proofs.Common.{◌≡◌, ◌≤◌, ◌<◌, ◌⊎◌, inl, inr, ℕ, zero, suc, ◌+◌, Bool, true, false, if◌then◌else◌, Option, Some}
use Rattle.std.proofs.Common.{None, Ok, refl, ◌∙◌, ap, arith}
use Rattle.iol_types.specs.State.{State}
use Rattle.iol_disk.specs.Content.{Image}
use Rattle.iol_disk.specs.Gate.{is_open}
use Rattle.iol_layout.specs.Header.{header_of, is_sound}
use Rattle.iol_layout.specs.Layout.{Layout, other, area_sectors, gate_at, header_at, slot_at}
use Rattle.iol_record.specs.declared.version.Version.{Version}
use Rattle.iol_layout.specs.Meaning.{geometry_in, header_in, ports_from, log_from, Standing}
use Rattle.iol_layout.specs.Kept.{IsIdle, IsKeptAs}
use Rattle.iol_layout.specs.declared.area.Area.{Area}
use Rattle.iol_layout.specs.declared.area.Area.TheVariants.{A, B}
use Rattle.iol_layout.specs.declared.header.Header.{Header}
use Rattle.iol_layout.specs.declared.geometry.TheConstants.{GEOMETRY, DISK_GATE}
use Rattle.iol_layout.specs.declared.idle.Idle.{Idle}
use Rattle.iol_layout.specs.declared.idle.Idle.TheVariants.{Older, Closed}
use Rattle.iol_layout.proofs.AreasInUse.{IsBefore, in_use_header, put_in_use}
use Rattle.iol_layout.proofs.Chains.{ok}
use Rattle.iol_layout.proofs.Readings.{IsFormattedFor, IsRead, read_stands, stands_read}
use Rattle.iol_layout.proofs.Logs.{log_from-same}
use Rattle.iol_layout.proofs.Sectors.{ports_from-same}

-- an area that is harmless is not chosen
idle_before : (s : Standing) (idle : Idle) (image : Image) → IsIdle s idle image
    → IsBefore s.epoch (header_in s.layout image (other s.area))
idle_before s Older image is = by_gate (is_open (image (gate_at s.layout (other s.area))))
  where
    by_gate : (gate : Bool) → IsBefore s.epoch (if gate then Some (header_of (image (header_at s.layout (other s.area)))) else None)
    by_gate true = is
    by_gate false = tt
idle_before s Closed image is = rw is tt

-- ---- writes in the other area

-- outside of an area the images are the same
abbrev pub SameButArea : Layout → Area → Image → Image → Type 0
SameButArea layout b old new = (i : ℕ) → (i < gate_at layout b) ⊎ (gate_at layout b + area_sectors layout ≤ i) → new i ≡ old i

-- where the sectors of an area are
outside : (layout : Layout) (a : Area) (i : ℕ) → gate_at layout a ≤ i → i < gate_at layout a + area_sectors layout
    → (i < gate_at layout (other a)) ⊎ (gate_at layout (other a) + area_sectors layout ≤ i)
outside layout A i above below = inl (omega (arith, below))
outside layout B i above below = inr (omega (arith, above))

pub two_before : (layout : Layout) (a : Area) → 2 ≤ gate_at layout a
two_before layout A = omega arith
two_before layout B = omega arith

module _ (s : Standing) (old new : Image) (same : SameButArea s.layout (other s.area) old new) where
  in_area : (i : ℕ) → gate_at s.layout s.area ≤ i → i < gate_at s.layout s.area + area_sectors s.layout → new i ≡ old i
  in_area i above below = same i (outside s.layout s.area i above below)

  at_front : (i : ℕ) → i < 2 → new i ≡ old i
  at_front i below = same i (inl (omega (arith, below, two_before s.layout (other s.area))))

  front_same : (sectors : ℕ) → geometry_in sectors new ≡ geometry_in sectors old
  front_same sectors = rw (at_front DISK_GATE (omega arith), at_front GEOMETRY (omega arith)) refl

  own_header : header_in s.layout new s.area ≡ header_in s.layout old s.area
  own_header =
      let gate : new (gate_at s.layout s.area) ≡ old (gate_at s.layout s.area) = in_area _ (omega arith) (omega arith) in
      let header : new (header_at s.layout s.area) ≡ old (header_at s.layout s.area) = in_area _ (omega arith) (omega arith) in
      rw (gate, header) refl

  -- while the other area is harmless, the standing of the journal is as before
  stands : (sectors base : ℕ) (ports : State) (idle : Idle) → IsRead sectors old s base ports → IsIdle s idle new
      → IsRead sectors new s base ports
  stands sectors base ports idle is harmless =
      let own = in_use_header s.layout old s.area _ is.in_use in
      record {
        layout = record { geometry = is.layout.geometry; found = front_same sectors ∙ is.layout.found; so = is.layout.so };
        in_use = put_in_use s.layout new s.area _ (own_header ∙ own.0) own.1 (idle_before s idle new harmless);
        ports_are = ports_from-same s.layout s.area old new 0 s.layout.ports (λ i above below.
            in_area i (omega (arith, above)) (omega (arith, below))) ∙ is.ports_are;
        log = log_from-same s.layout s.area s.epoch old new 0 0 s.layout.slots base ports (λ i above below.
            in_area i (omega (arith, above)) (omega (arith, below))) ∙ is.log;
      }

  pub other_frame : (sectors : ℕ) (was idle : Idle) → IsKeptAs sectors s was old → IsIdle s idle new → IsKeptAs sectors s idle new
  other_frame sectors was idle kept harmless = put (stands_read sectors old s kept.stands)
    where
      put : (base : ℕ) × (ports : State) × IsRead sectors old s base ports → IsKeptAs sectors s idle new
      put (base, ports, is) = record {
        stands = read_stands sectors new s base ports (stands sectors base ports idle is harmless);
        rest = λ k above below. ap is_open (in_area (slot_at s.layout s.area k) (omega arith) (omega (arith, below)))
            ∙ kept.rest k above below;
        other_area = harmless;
      }

-- ---- an area that was written whole

-- with all slots closed, the log of an area is only its base
pub log-none : (layout : Layout) (a : Area) (epoch : ℕ) (image : Image) (left base : ℕ) (state : State)
    → (0 < left → is_open (image (slot_at layout a 0)) ≡ false)
    → log_from layout a epoch image 0 0 left base state ≡ Ok (record { used = 0; number = base; state = state })
log-none layout a epoch image zero base state shut = refl
log-none layout a epoch image (suc left) base state shut = let closed : is_open (image (slot_at layout a 0)) ≡ false = shut (omega arith) in
    rw closed refl

-- closed slots, a header, and the records of a state
pub record IsWhole (layout : Layout) (a : Area) (header : Header) (state : State) (image : Image) : Type 0 where
  pub shut : (k : ℕ) → k < layout.slots → is_open (image (slot_at layout a k)) ≡ false
  pub head : header_of (image (header_at layout a)) ≡ header
  pub ports_are : ports_from layout a image 0 layout.ports ≡ Ok state

-- the standing of a journal that was written so
abbrev pub standing_with : Layout → Area → Header → State → Standing
standing_with layout a header state =
    record { layout = layout; area = a; epoch = header.epoch; used = 0; number = header.base; state = state }

pub whole_stands : (sectors : ℕ) (layout : Layout) (a : Area) (header : Header) (state : State) (idle : Idle) (image : Image)
    → IsFormattedFor sectors image layout → is_open (image (gate_at layout a)) ≡ true → header.version ≡ Some layout.version
    → is_sound header ≡ true
    → IsBefore header.epoch (header_in layout image (other a)) → IsIdle (standing_with layout a header state) idle image
    → IsWhole layout a header state image
    → IsKeptAs sectors (standing_with layout a header state) idle image
whole_stands sectors layout a header state idle image laid_out gate named sound before harmless whole = record {
  stands = read_stands sectors image (standing_with layout a header state) header.base state (record {
    layout = laid_out;
    in_use = put_in_use layout image a header (rw (gate, whole.head) refl) sound before
        ∙ ap (λ (v : Option Version). ok (record { area = a; header = record { epoch = header.epoch; base = header.base; version = v } }))
        named;
    ports_are = whole.ports_are;
    log = log-none layout a header.epoch image layout.slots header.base state (λ some. whole.shut 0 some);
  });
  rest = λ k above below. whole.shut k below;
  other_area = harmless;
}
