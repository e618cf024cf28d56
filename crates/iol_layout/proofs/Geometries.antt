-- The numbers of a geometry, as tests, as octets and as places.
use Rattle.std.proofs.Common.{◌≡◌, ◌≤◌, ◌<◌, ◌==◌, ℕ, ◌+◌, ◌*◌, ◌/◌, ◌%◌, nat_eq, nat_le, nat_lt, Bool, true, false, ◌&&◌}
use Rattle.std.proofs.Common.{if◌then◌else◌, List}
use Rattle.std.proofs.Common.{Option, Some, None, Ok, Err, refl, ap, subst, arith, rules}
use Rattle.std.proofs.lemmas.Bool.Decides.{nat_tests}
use Rattle.std.specs.Int.{w8, w16}
use Rattle.std.specs.List.{starts_with}
use Rattle.iol_record.specs.Reading.{◌>>=◌}
use Rattle.iol_disk.specs.Content.{Image}
use Rattle.iol_record.specs.declared.version.Version.TheVariants.{One, Two}
use Rattle.iol_layout.specs.Geometry.{Geometry, IsInRange, IsGeometry, is_in_range, geometry_of, geometry_octets, given_up}
use Rattle.iol_layout.specs.Layout.{Layout, laid_out, slot_at, total}
use Rattle.iol_layout.specs.Meaning.{unformatted, too_small, if_sound, or_damaged, or_too_small, is_formatted, geometry_in}
use Rattle.iol_layout.specs.Octets.{number_at, padded}
use Rattle.iol_layout.specs.declared.area.Area.{Area}
use Rattle.iol_layout.specs.declared.area.Area.TheVariants.{A, B}
use Rattle.iol_disk.specs.declared.slot.TheConstants.{BODY_SECTORS}
use Rattle.iol_layout.specs.declared.geometry.TheConstants.{GEOMETRY, GEOMETRY_MARK}

pub is_in_range-true : (g : Geometry) → IsInRange g → is_in_range g ≡ true
is_in_range-true g is = grind (arith, nat_tests, is.some_port, is.most_ports, is.some_slot, is.most_slots)

two_octets : (n : ℕ) → n ≤ 256 → n / 256 % 256 * 256 + n % 256 ≡ n
two_octets n small = omega arith

-- a geometry is read as it was written
pub geometry_of-octets : (g : Geometry) → IsInRange g → geometry_of (geometry_octets g) ≡ Some g
unfolding geometry_of padded
geometry_of-octets g is = rw (two_octets g.slots is.most_slots, is_in_range-true g is) refl

-- the numbers of a geometry that is read are in their ranges
ranges : (g : Geometry) → is_in_range g ≡ true → IsInRange g
ranges g is = record {
  some_port = grind (arith, nat_tests, is);
  most_ports = grind (arith, nat_tests, is);
  some_slot = grind (arith, nat_tests, is);
  most_slots = grind (arith, nat_tests, is);
}

tested : (marked counted : Bool) (read g : Geometry) → (if marked && counted && is_in_range read then Some read else None) ≡ Some g
    → (is_in_range read ≡ true) × (read ≡ g)
tested true true read g is = in_range (is_in_range read) is
  where
    in_range : (test : Bool) → (if test then Some read else None) ≡ Some g → (test ≡ true) × (read ≡ g)
    in_range true h = (refl, cc)
    in_range false h = search rules
tested true false read g is = search rules
tested false counted read g is = search rules

pub geometry_of-ranges : (octets : List ℕ) (g : Geometry) → geometry_of octets ≡ Some g → IsInRange g
unfolding geometry_of
geometry_of-ranges octets g is =
    let read : Geometry = record { ports = number_at w8 5 octets; slots = number_at w16 6 octets } in
    let t = tested (starts_with nat_eq octets GEOMETRY_MARK) (number_at w16 8 octets == BODY_SECTORS) read g is in
    subst (λ (h : Geometry). IsInRange h) t.1 (ranges read t.0)

-- what a disk is formatted for is a geometry
pub geometry_in-is : (sectors : ℕ) (image : Image) (g : Geometry) → geometry_in sectors image ≡ Ok g → IsGeometry g
geometry_in-is sectors image g is =
    let read = read_of (is_formatted sectors image) (geometry_of (image GEOMETRY)) (λ h. nat_le (total (laid_out One h)) sectors) is in
    record { in_range = geometry_of-ranges (image GEOMETRY) g read.0; keeps_slot = grind (arith, nat_tests, read.1) }
  where
    -- the numbers are found, and an area keeps a slot
    AreKept : Option Geometry → Type 0
    AreKept found = (found ≡ Some g) × (nat_lt (given_up Two g.ports) g.slots ≡ true)

    kept : (h : Geometry) (keeps : Bool) → nat_lt (given_up Two h.ports) h.slots ≡ keeps → (if keeps then Ok h else Err too_small) ≡ Ok g
        → AreKept (Some h)
    kept h true test is =
        let same : h ≡ g = cc in (ap Some same, subst (λ (k : Geometry). nat_lt (given_up Two k.ports) k.slots ≡ true) same test)
    kept h false test is = search rules

    read_of : (formatted : Bool) (found : Option Geometry) (fits : Geometry → Bool)
        → (if formatted then (or_damaged found GEOMETRY >>= λ h. if_sound (fits h) GEOMETRY h >>= or_too_small) else Err unformatted)
        ≡ Ok g
        → AreKept found
    read_of false found fits none = search rules
    read_of true None fits none = search rules
    read_of true (Some h) fits found = sound (fits h) found
      where
        sound : (test : Bool) → (if_sound test GEOMETRY h >>= or_too_small) ≡ Ok g → AreKept (Some h)
        sound true is = kept h (nat_lt (given_up Two h.ports) h.slots) refl is
        sound false is = search rules

-- a slot, with its gate and its body, is within the sectors of the journal
pub slot-inside : (layout : Layout) (a : Area) (k : ℕ) → k < layout.slots → slot_at layout a k + 1 + BODY_SECTORS ≤ total layout
slot-inside layout A k below = omega arith
slot-inside layout B k below = omega arith
