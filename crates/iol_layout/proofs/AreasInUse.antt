-- The area in use: the open one with the greatest epoch, if its header is sound.
use Rattle.std.proofs.Common.{◌≡◌, ◌<◌, ℕ, ◌==◌, nat_lt, Bool, true, false, if◌then◌else◌, Option, Some, None, Ok, Err, refl, sym}
use Rattle.std.proofs.Common.{◌∙◌, ap, subst, arith}
use Rattle.std.proofs.lemmas.Bool.Decides.{nat_tests}
use Rattle.iol_disk.specs.Content.{Image}
use Rattle.iol_layout.specs.Header.{is_sound}
use Rattle.iol_layout.specs.Layout.{Layout, other, header_at}
use Rattle.iol_layout.specs.Meaning.{Cause, header_in, in_use, greatest, in_use_in}
use Rattle.iol_layout.specs.declared.area.Area.{Area}
use Rattle.iol_layout.specs.declared.area.Area.TheVariants.{A, B}
use Rattle.iol_layout.specs.declared.header.Header.{Header}
use Rattle.iol_layout.specs.declared.in_use.InUse.{InUse}
use Rattle.iol_layout.proofs.Chains.{if_sound-ok}

-- the header of an area, of two headers
abbrev pub of : Area → Option Header → Option Header → Option Header
of A a b = a
of B a b = b

-- there is no header, or it is older
abbrev pub IsBefore : ℕ → Option Header → Type 0
IsBefore epoch None = Unit {0}
IsBefore epoch (Some header) = header.epoch < epoch

use_of : (a : Area) (header : Header) → InUse
use_of a header = record { area = a; header = header }

is_use : (layout : Layout) (a b : Area) (x header : Header) → in_use layout a x ≡ Ok (record { area = b; header = header }) → (a ≡ b)
    × (x ≡ header) × (is_sound x ≡ true)
is_use layout a b x header is =
    let parts = if_sound-ok (is_sound x) (header_at layout a) (record { area = a; header = x }) (record { area = b; header = header }) is in
    (ap (λ (u : InUse). u.area) parts.1, ap (λ (u : InUse). u.header) parts.1, parts.0)

-- the area in use has the header that was found, which is sound
found : (layout : Layout) (a : Area) (header : Header) (x y : Option Header) → greatest layout x y
    ≡ Ok (record { area = a; header = header })
    → (of a x y ≡ Some header) × (is_sound header ≡ true)
found layout a header None None is = absurd cc
found layout a header (Some x) None is = put (is_use layout A a x header is)
  where
    put : (A ≡ a) × (x ≡ header) × (is_sound x ≡ true) → (of a (Some x) None ≡ Some header) × (is_sound header ≡ true)
    put (at, same, sound) =
        (ap (λ (b : Area). of b (Some x) None) (sym at) ∙ ap Some same, subst (λ (h : Header). is_sound h ≡ true) same sound)
found layout a header None (Some y) is = put (is_use layout B a y header is)
  where
    put : (B ≡ a) × (y ≡ header) × (is_sound y ≡ true) → (of a None (Some y) ≡ Some header) × (is_sound header ≡ true)
    put (at, same, sound) =
        (ap (λ (b : Area). of b None (Some y)) (sym at) ∙ ap Some same, subst (λ (h : Header). is_sound h ≡ true) same sound)
found layout a header (Some x) (Some y) is = by_epochs (x.epoch == y.epoch) (nat_lt x.epoch y.epoch) is
  where
    first : (A ≡ a) × (x ≡ header) × (is_sound x ≡ true) → (of a (Some x) (Some y) ≡ Some header) × (is_sound header ≡ true)
    first (at, same, sound) =
        (ap (λ (b : Area). of b (Some x) (Some y)) (sym at) ∙ ap Some same, subst (λ (h : Header). is_sound h ≡ true) same sound)

    second : (B ≡ a) × (y ≡ header) × (is_sound y ≡ true) → (of a (Some x) (Some y) ≡ Some header) × (is_sound header ≡ true)
    second (at, same, sound) =
        (ap (λ (b : Area). of b (Some x) (Some y)) (sym at) ∙ ap Some same, subst (λ (h : Header). is_sound h ≡ true) same sound)

    by_epochs : (equal less : Bool)
        → (if equal then Err (Cause.damaged (header_at layout B)) else if less then in_use layout B y else in_use layout A x)
        ≡ Ok (record { area = a; header = header })
        → (of a (Some x) (Some y) ≡ Some header) × (is_sound header ≡ true)
    by_epochs true less is = absurd cc
    by_epochs false true is = second (is_use layout B a y header is)
    by_epochs false false is = first (is_use layout A a x header is)

-- an area is in use if its header is sound and the other area has none or an older one
chosen : (layout : Layout) (a : Area) (header : Header) (x y : Option Header) → of a x y ≡ Some header → is_sound header ≡ true
    → IsBefore header.epoch (of (other a) x y)
    → greatest layout x y ≡ Ok (record { area = a; header = header })
chosen layout A header x None is sound before = rw (is, sound) refl
chosen layout A header x (Some y) is sound before =
    let differ : (header.epoch == y.epoch) ≡ false = grind (arith, nat_tests) in
    let later : nat_lt header.epoch y.epoch ≡ false = grind (arith, nat_tests) in
    rw (is, differ, later, sound) refl
chosen layout B header None y is sound before = rw (is, sound) refl
chosen layout B header (Some x) y is sound before =
    let differ : (x.epoch == header.epoch) ≡ false = grind (arith, nat_tests) in
    let earlier : nat_lt x.epoch header.epoch ≡ true = grind (arith, nat_tests) in
    rw (is, differ, earlier, sound) refl

header_of_area : (layout : Layout) (image : Image) (a : Area) → of a (header_in layout image A) (header_in layout image B)
    ≡ header_in layout image a
header_of_area layout image A = refl
header_of_area layout image B = refl

pub in_use_header : (layout : Layout) (image : Image) (a : Area) (header : Header) → in_use_in layout image
    ≡ Ok (record { area = a; header = header })
    → (header_in layout image a ≡ Some header) × (is_sound header ≡ true)
in_use_header layout image a header is =
    let parts = found layout a header (header_in layout image A) (header_in layout image B) is in
    (sym (header_of_area layout image a) ∙ parts.0, parts.1)

pub put_in_use : (layout : Layout) (image : Image) (a : Area) (header : Header) → header_in layout image a ≡ Some header → is_sound header
    ≡ true
    → IsBefore header.epoch (header_in layout image (other a)) → in_use_in layout image ≡ Ok (record { area = a; header = header })
put_in_use layout image a header is sound before =
    chosen layout a header (header_in layout image A) (header_in layout image B) (header_of_area layout image a ∙ is) sound
    (subst (IsBefore header.epoch) (sym (header_of_area layout image (other a))) before)
