-- The parts of an ISDU are read from its octets, and from no others.
use Rattle.std.proofs.Common.{◌≡◌, ◌≢◌, ℕ, ◌+◌, ◌-◌, ◌/◌, ◌%◌, ◌<◌, ◌≤◌, Bool, true, false, cond, ◌&&◌, ◌||◌, not, List, [], ◌∷◌, ◌++◌}
use Rattle.std.proofs.Common.{length, take, refl, ap, sym, ◌∙◌, subst, inl, inr, arith, length-append}
use Rattle.std.specs.Prelude.{Ok, ◌==◌, nat_lt, nat_le, Option, Some, None, is_none, ◌⊎◌}
use Rattle.std.specs.Option.{ok_or}
use Rattle.std.proofs.lemmas.Bool.Decides.{nat_tests}
use Rattle.std.proofs.Math.Nat.{div-add-mod}
use Rattle.std.proofs.Math.Seq.{take-append_seam}
use Rattle.iol_link.specs.Isdu.{IsIsduOf, Begins, xor_of}
use Rattle.iol_link.specs.Service.{code_of, service_at, carries}
use Rattle.iol_link.specs.Faults.{i_service, length_field, has_ext_length, ext_length, is_reserved, has_reserved_ext_length, is_counted}
use Rattle.iol_link.specs.Reading.{service_in, carried_in, enclosed}
use Rattle.iol_link.proofs.Services.{service_at-code_of, code_of-service_at, code_of-fits}
use Rattle.iol_link.proofs.Lists.{parted}
use Rattle.iol_link.proofs.Steps.{passed, ok_is, not_false, or_false, and_true, and_rest}
use Rattle.iol_link.specs.declared.service.Service.{Service}
use Rattle.iol_link.specs.declared.faults.IsduFault.TheVariants as fault
use Rattle.iol_link.specs.declared.parts.TheConstants.{ISDU_OCTETS, SMALLEST_EXT_LENGTH}

-- octets that begin with a service
pub record HasService (octets : List ℕ) (s : Service) : Type 0 where
  pub some : 0 < length octets
  pub free : is_reserved octets ≡ false
  pub service : service_at (i_service octets) ≡ Some s

served : (o : Option Service) (s : Service) → ok_or o fault.WrongService ≡ Ok s → o ≡ Some s
served None s h = cc
served (Some t) s h = cc

pub service_in_ok : (octets : List ℕ) (s : Service) → service_in octets ≡ Ok s → HasService octets s
unfolding service_in
service_in_ok octets s ok =
    let one = passed (length octets == 0) fault.Empty _ s ok in
    let two = passed (is_reserved octets) fault.Reserved _ s one.1 in
    record { some = grind (arith, nat_tests, one.0); free = two.0; service = served _ s two.1 }

-- the length that octets of a service state is not a reserved one
pub record Stated (octets : List ℕ) : Type 0 where
  pub nonzero : length_field octets ≢ 0
  pub extended : length_field octets ≡ 1 → has_reserved_ext_length octets ≡ false

pub stated : (octets : List ℕ) (s : Service) → HasService octets s → Stated octets
stated octets s h =
    let code = code_of-service_at _ s h.service in
    let fits = code_of-fits s in
    let zero : (i_service octets == 0) ≡ false = grind (arith, nat_tests, code, fits.0) in
    let free = rw zero at h.free in
    let o = or_false (is_none (service_at (i_service octets)) || (length_field octets == 0))
    ((length_field octets == 1) && has_reserved_ext_length octets) free in
    let p = or_false (is_none (service_at (i_service octets))) (length_field octets == 0) o.0 in
    record {
      nonzero = grind (arith, nat_tests, p.1);
      extended = λ one.
          let unit : (length_field octets == 1) ≡ true = grind (arith, nat_tests, one) in rw unit at o.1;
    }

-- the two ways to state the number of octets
pub record CountedShort (octets : List ℕ) : Type 0 where
  pub plain : length_field octets ≢ 1
  pub count : length_field octets ≡ length octets

pub record CountedLong (octets : List ℕ) : Type 0 where
  pub marked : length_field octets ≡ 1
  pub there : 1 < length octets
  pub count : ext_length octets ≡ length octets

pub counted : (octets : List ℕ) → is_counted octets ≡ true
    → CountedShort octets ⊎ CountedLong octets
counted octets h = cases (length_field octets == 1) refl h
  where
    cases : (b : Bool) → (length_field octets == 1) ≡ b
        → cond b (has_ext_length octets && (ext_length octets == length octets))
        (length_field octets == length octets) ≡ true
        → CountedShort octets ⊎ CountedLong octets
    cases true is h =
        let both = and_true (has_ext_length octets) (ext_length octets == length octets) h in
        inr (record {
          marked = grind (arith, nat_tests, is);
          there = grind (arith, nat_tests, both.0);
          count = grind (arith, nat_tests, both.1);
        })
    cases false is h =
        inl (record { plain = grind (arith, nat_tests, is); count = grind (arith, nat_tests, h) })

-- an ISDU with the stated number of octets has at least two octets
pub counted_some : (octets : List ℕ) (s : Service) → HasService octets s → is_counted octets ≡ true
    → 1 < length octets
counted_some octets s h c =
    let l = stated octets s h in
    elim (counted octets c) [
      | inl short ↦ grind (arith, h.some, l.nonzero, short.plain, short.count)
      | inr long ↦ long.there
    ]

short_found : (first : ℕ) (more : List ℕ) (s : Service) → HasService (first ∷ more) s
    → CountedShort (first ∷ more) → xor_of (first ∷ more) ≡ 0
    → IsIsduOf (first ∷ more) s (enclosed (first ∷ more))
short_found first more s h c xor =
    let code : code_of s ≡ first / 16 = code_of-service_at _ s h.service in
    let l = stated (first ∷ more) s h in
    let few : nat_le (length (first ∷ more)) 15 ≡ true = grind (arith, nat_tests, c.count) in
    let p = parted more (omega (arith, l.nonzero, c.plain, c.count)) in
    let less : length (first ∷ more) - 2 ≡ length more - 1 = omega arith in
    let middle : enclosed (first ∷ more) ≡ take (length more - 1) more =
    rw few (ap (λ n. take n more) less) in
    record {
      header = first ∷ [];
      check = p.0;
      parts = ap (λ r. first ∷ r) (p.1 ∙ ap (λ b. b ++ p.0 ∷ []) (sym middle));
      begins = (
        omega (arith, div-add-mod first 16, code, c.count),
        omega (arith, l.nonzero, c.plain, c.count),
        omega (arith, c.count),
      );
      xor = xor;
    }

long_found : (first extended : ℕ) (more : List ℕ) (s : Service) → HasService (first ∷ extended ∷ more) s
    → CountedLong (first ∷ extended ∷ more)
    → xor_of (first ∷ extended ∷ more) ≡ 0
    → IsIsduOf (first ∷ extended ∷ more) s (enclosed (first ∷ extended ∷ more))
long_found first extended more s h c xor =
    let code : code_of s ≡ first / 16 = code_of-service_at _ s h.service in
    let l = stated (first ∷ extended ∷ more) s h in
    let there : has_ext_length (first ∷ extended ∷ more) ≡ true =
    grind (arith, nat_tests, c.there) in
    let bounds = or_false (nat_lt extended SMALLEST_EXT_LENGTH) (nat_lt ISDU_OCTETS extended)
    (and_rest _ _ there (l.extended c.marked)) in
    let low : SMALLEST_EXT_LENGTH ≤ extended = grind (arith, nat_tests, bounds.0) in
    let high : extended ≤ ISDU_OCTETS = grind (arith, nat_tests, bounds.1) in
    let count : extended ≡ length (first ∷ extended ∷ more) = c.count in
    let many : nat_le (length (first ∷ extended ∷ more)) 15 ≡ false =
    grind (arith, nat_tests, low, count) in
    let p = parted more (omega (arith, low, count)) in
    let less : length (first ∷ extended ∷ more) - 3 ≡ length more - 1 = omega arith in
    let middle : enclosed (first ∷ extended ∷ more) ≡ take (length more - 1) more =
    rw many (ap (λ n. take n more) less) in
    record {
      header = first ∷ extended ∷ [];
      check = p.0;
      parts = ap (λ r. first ∷ extended ∷ r) (p.1 ∙ ap (λ b. b ++ p.0 ∷ []) (sym middle));
      begins = (
        omega (arith, div-add-mod first 16, code, c.marked),
        count,
        omega (arith, low, count),
        omega (arith, high, count),
      );
      xor = xor;
    }

-- octets with the stated number and a right CHKPDU are an ISDU of the octets enclosed
isdu_found : (octets : List ℕ) (s : Service) → HasService octets s → is_counted octets ≡ true
    → xor_of octets ≡ 0 → IsIsduOf octets s (enclosed octets)
isdu_found [] s h c xor = absurd (omega (arith, h.some))
isdu_found (first ∷ []) s h c xor = absurd (omega (arith, counted_some (first ∷ []) s h c))
isdu_found (first ∷ extended ∷ more) s h c xor =
    elim (counted (first ∷ extended ∷ more) c) [
      | inl short ↦ short_found first (extended ∷ more) s h short xor
      | inr long ↦
          long_found first extended more s h long xor
    ]

-- the carried octets are those of an ISDU, and the service carries this number of octets
pub carried_found : (octets carried : List ℕ) (s : Service) → HasService octets s
    → carried_in s octets ≡ Ok carried
    → IsIsduOf octets s carried × (carries s (length carried) ≡ true)
unfolding carried_in
carried_found octets carried s h ok =
    let one = passed (not
    (is_counted octets && carries s (length (enclosed octets)))) fault.Length _ carried ok in
    let two = passed (not (xor_of octets == 0)) fault.Check _ carried one.1 in
    let both = and_true (is_counted octets) (carries s (length (enclosed octets)))
    (not_false _ one.0) in
    let unit = not_false (xor_of octets == 0) two.0 in
    let xor : xor_of octets ≡ 0 = grind (arith, nat_tests, unit) in
    let same : enclosed octets ≡ carried = ok_is _ _ two.1 in
    subst (λ b. IsIsduOf octets s b × (carries s (length b) ≡ true)) same
    (isdu_found octets s h both.0 xor, both.1)

-- octets are read as a service and its carried octets
pub record Reads (octets : List ℕ) (s : Service) (carried : List ℕ) : Type 0 where
  pub service_read : service_in octets ≡ Ok s
  pub carried_read : carried_in s octets ≡ Ok carried

unreserved : (octets : List ℕ) (s : Service) → service_at (i_service octets) ≡ Some s
    → Stated octets → is_reserved octets ≡ false
unreserved octets s at l =
    let code = code_of-service_at _ s at in
    let zero : (i_service octets == 0) ≡ false =
    grind (arith, nat_tests, code, (code_of-fits s).0) in
    let nonzero : (length_field octets == 0) ≡ false = grind (arith, nat_tests, l.nonzero) in
    rw (zero, at, nonzero)
    (tail (length_field octets == 1) (has_reserved_ext_length octets)
    (λ one. l.extended (grind (arith, nat_tests, one))))
  where
    tail : (a b : Bool) → (a ≡ true → b ≡ false) → (a && b) ≡ false
    tail true b h = h refl
    tail false b h = refl

service_in_found : (octets : List ℕ) (s : Service) → HasService octets s → service_in octets ≡ Ok s
unfolding service_in
service_in_found octets s h = let some : (length octets == 0) ≡ false = grind (arith, nat_tests, h.some) in
    rw (some, h.free, h.service) refl

carries_in : (octets carried : List ℕ) (s : Service) → is_counted octets ≡ true
    → enclosed octets ≡ carried → carries s (length carried) ≡ true → xor_of octets ≡ 0
    → carried_in s octets ≡ Ok carried
unfolding carried_in
carries_in octets carried s count middle fits xor =
    let unit : (xor_of octets == 0) ≡ true = grind (arith, nat_tests, xor) in
    rw (count, middle, fits, unit) refl

-- octets that begin with their service and state their number
record Announces (octets : List ℕ) (s : Service) : Type 0 where
  some : 0 < length octets
  code : i_service octets ≡ code_of s
  unreserved_length : Stated octets
  count : is_counted octets ≡ true

announced_reads : (octets carried : List ℕ) (s : Service) → Announces octets s
    → enclosed octets ≡ carried → carries s (length carried) ≡ true → xor_of octets ≡ 0
    → Reads octets s carried
announced_reads octets carried s h middle fits xor =
    let at : service_at (i_service octets) ≡ Some s = ap service_at h.code ∙ service_at-code_of s in
    let free = unreserved octets s at h.unreserved_length in
    record {
      service_read =
          service_in_found octets s (record { some = h.some; free = free; service = at });
      carried_read = carries_in octets carried s h.count middle fits xor;
    }

-- the octets before CHKPDU
before_check : (count : ℕ) (carried : List ℕ) (check : ℕ) → count ≡ length carried
    → take count (carried ++ check ∷ []) ≡ carried
before_check count carried check is =
    ap (λ k. take k (carried ++ check ∷ [])) is ∙ take-append_seam carried (check ∷ [])

length-checked : (carried : List ℕ) (check : ℕ)
    → length (carried ++ check ∷ []) ≡ length carried + 1
length-checked carried check = length-append carried (check ∷ [])

short_reads : (first : ℕ) (carried : List ℕ) (check : ℕ) (s : Service)
    → Begins s (length (first ∷ (carried ++ check ∷ []))) (first ∷ [])
    → xor_of (first ∷ (carried ++ check ∷ [])) ≡ 0 → carries s (length carried) ≡ true
    → Reads (first ∷ (carried ++ check ∷ [])) s carried
short_reads first carried check s b xor fits =
    let octets = first ∷ (carried ++ check ∷ []) in
    let n : length octets ≡ length carried + 2 = omega (arith, length-checked carried check) in
    let low : first % 16 ≡ length octets = omega (arith, b.0, b.1, b.2) in
    let plain : (length_field octets == 1) ≡ false = grind (arith, nat_tests, low, b.1) in
    let same : (length_field octets == length octets) ≡ true = grind (arith, nat_tests, low) in
    let few : nat_le (length octets) 15 ≡ true = grind (arith, nat_tests, b.2) in
    announced_reads octets carried s
    (record {
      some = omega arith;
      code = omega (arith, b.0, b.1, b.2);
      unreserved_length = record {
        nonzero = omega (arith, low, b.1);
        extended = λ one. absurd (omega (arith, one, low, b.1));
      };
      count = rw (plain, same) refl;
    })
    (rw few (before_check (length octets - 2) carried check (omega (arith, n)))) fits xor

long_reads : (first extended : ℕ) (carried : List ℕ) (check : ℕ) (s : Service)
    → Begins s (length (first ∷ extended ∷ (carried ++ check ∷ []))) (first ∷ extended ∷ [])
    → xor_of (first ∷ extended ∷ (carried ++ check ∷ [])) ≡ 0 → carries s (length carried) ≡ true
    → Reads (first ∷ extended ∷ (carried ++ check ∷ [])) s carried
long_reads first extended carried check s b xor fits =
    let octets = first ∷ extended ∷ (carried ++ check ∷ []) in
    let n : length octets ≡ length carried + 3 = omega (arith, length-checked carried check) in
    let low : first % 16 ≡ 1 = omega (arith, b.0) in
    let above : nat_lt extended SMALLEST_EXT_LENGTH ≡ false = grind (arith, nat_tests, b.1, b.2) in
    let below : nat_lt ISDU_OCTETS extended ≡ false = grind (arith, nat_tests, b.1, b.3) in
    let there : has_ext_length octets ≡ true = grind (arith, nat_tests, n) in
    let marked : (length_field octets == 1) ≡ true = grind (arith, nat_tests, low) in
    let same : (ext_length octets == length octets) ≡ true = grind (arith, nat_tests, b.1) in
    let many : nat_le (length octets) 15 ≡ false = grind (arith, nat_tests, b.2) in
    announced_reads octets carried s
    (record {
      some = omega arith;
      code = omega (arith, b.0);
      unreserved_length = record {
        nonzero = omega (arith, low);
        extended = λ one. rw (there, above, below) refl;
      };
      count = rw (marked, there, same) refl;
    })
    (rw many (before_check (length octets - 3) carried check (omega (arith, n)))) fits xor

-- an ISDU is read as its service and its carried octets
pub isdu_reads : (octets carried : List ℕ) (s : Service) → IsIsduOf octets s carried
    → carries s (length carried) ≡ true → Reads octets s carried
isdu_reads octets carried s h fits = by_header h.header h.parts h.begins
  where
    by_header : (header : List ℕ) → octets ≡ header ++ carried ++ h.check ∷ []
        → Begins s (length octets) header → Reads octets s carried
    by_header [] parts b = elim b [ ]
    by_header (first ∷ []) parts b =
        subst (λ (o : List ℕ). Begins s (length o) (first ∷ []) → xor_of o ≡ 0 → Reads o s carried)
        (sym parts)
        (λ b xor. short_reads first carried h.check s b xor fits) b h.xor
    by_header (first ∷ extended ∷ []) parts b =
        subst (λ (o : List ℕ). Begins s (length o) (first ∷ extended ∷ []) → xor_of o ≡ 0
        → Reads o s carried) (sym parts)
        (λ b xor. long_reads first extended carried h.check s b xor fits) b h.xor
    by_header (first ∷ extended ∷ more ∷ rest) parts b = elim b [ ]
