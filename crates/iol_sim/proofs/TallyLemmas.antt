-- The size, octets and keys of the first parameters, and of one more.
use Rattle.std.proofs.Common.{◌≡◌, ℕ, ◌+◌, ◌*◌, ◌≤◌, ◌<◌, ◌^◌, zero, suc, false, List, [], ◌∷◌, ◌++◌, length, take, get_or, Some, ap, ◌∙◌}
use Rattle.std.proofs.Common.{arith, add-one}
use Rattle.std.specs.Prelude.{All, slice_get}
use Rattle.std.specs.Map.{keys_of}
use Rattle.std.proofs.lemmas.Grind.{flat_map-append}
use Rattle.std.proofs.lemmas.List.{append-nil, map-append, take_more, length-take}
use Rattle.std.proofs.lemmas.List.Elements.{All-nil, All-cons, All-head, All-tail}
use Rattle.std.proofs.Math.Nat.{mul-le-mul}
use Rattle.iol_types.specs.Key.{is_reserved}
use Rattle.iol_types.specs.DataSet.{Entry, IsEntry, octets_of}
use Rattle.iol_types.specs.declared.key.Key.{Key}
use Rattle.iol_types.proofs.Entries.{octets_of-push}
use Rattle.iol_sim.specs.Parameters.{weighted, all_octets}

take-suc : (parameters : List Entry) (place : ℕ) (entry : Entry) → slice_get parameters place ≡ Some entry
    → take (suc place) parameters ≡ take place parameters ++ entry ∷ []
take-suc [] place entry is = absurd cc
take-suc (other ∷ parameters) zero entry is = let same : other ≡ entry = cc in ap (λ e. e ∷ []) same
take-suc (other ∷ parameters) (suc place) entry is = ap (λ es. other ∷ es) (take-suc parameters place entry is)

-- the first parameters, and one more
pub take-one_more : (parameters : List Entry) (place : ℕ) (entry : Entry) → slice_get parameters place ≡ Some entry
    → take (place + 1) parameters ≡ take place parameters ++ entry ∷ []
take-one_more parameters place entry is = rw add-one (take-suc parameters place entry is)

-- the size of the first parameters and one more
pub counted-one_more : (parameters : List Entry) (place : ℕ) (entry : Entry) → slice_get parameters place ≡ Some entry
    → octets_of (take (place + 1) parameters) ≡ octets_of (take place parameters) + (4 + length entry.1)
counted-one_more parameters place entry is =
    omega (arith, ap octets_of (take-one_more parameters place entry is), octets_of-push (take place parameters) entry.0 entry.1)

-- the octets of the first parameters and one more
pub octets-one_more : (parameters : List Entry) (place : ℕ) (entry : Entry) → slice_get parameters place ≡ Some entry
    → all_octets (take (place + 1) parameters) ≡ all_octets (take place parameters) ++ entry.1
octets-one_more parameters place entry is =
    ap all_octets (take-one_more parameters place entry is)
    ∙ flat_map-append (λ (e : Entry). e.1) (take place parameters) (entry ∷ [])
    ∙ ap (λ o. all_octets (take place parameters) ++ o) (append-nil entry.1)

-- the keys of the first parameters and one more
pub keys-one_more : (parameters : List Entry) (place : ℕ) (entry : Entry) → slice_get parameters place ≡ Some entry
    → keys_of (take (place + 1) parameters) ≡ keys_of (take place parameters) ++ entry.0 ∷ []
keys-one_more parameters place entry is =
    ap keys_of (take-one_more parameters place entry is) ∙ map-append (λ (e : Entry). e.0) (take place parameters) (entry ∷ [])

-- no key of a parameter is reserved
pub free-keys : (parameters : List Entry) → All IsEntry parameters → All (λ (key : Key). is_reserved key ≡ false) (keys_of parameters)
free-keys [] each = All-nil (λ (key : Key). is_reserved key ≡ false)
free-keys (entry ∷ parameters) each =
    All-cons (λ (key : Key). is_reserved key ≡ false) entry.0 (keys_of parameters) (All-head IsEntry entry parameters each).free
    (free-keys parameters (All-tail IsEntry entry parameters each))

-- octets after others, each times its place
pub weighted-append : (first : ℕ) (early late : List ℕ)
    → weighted first (early ++ late) ≡ weighted first early + weighted (first + length early) late
weighted-append first [] late = let same : first + 0 ≡ first = omega arith in omega (arith, ap (λ n. weighted n late) same)
weighted-append first (octet ∷ early) late =
    let behind : first + 1 + length early ≡ first + suc (length early) = omega arith in
    omega (arith, weighted-append (first + 1) early late, ap (λ n. weighted n late) behind)

-- one more octet, times its place
pub weighted-one_more : (first : ℕ) (octets : List ℕ) (count : ℕ) → count < length octets
    → weighted first (take (count + 1) octets) ≡ weighted first (take count octets) + (first + count) * get_or octets count 0
weighted-one_more first octets count there =
    let many : length (take count octets) ≡ count = omega (arith, length-take count octets) in
    let last : weighted (first + length (take count octets)) (get_or octets count 0 ∷ []) ≡ (first + count) * get_or octets count 0 =
    ap (λ n. weighted (first + n) (get_or octets count 0 ∷ [])) many ∙ omega arith in
    omega (
      arith,
      ap (weighted first) (take_more octets count 0 there),
      weighted-append first (take count octets) (get_or octets count 0 ∷ []),
      last,
    )

-- an octet times a place is at most 2^25
pub small-product : (place octet : ℕ) → place ≤ 2 ^ 16 + 232 → octet ≤ 255 → place * octet ≤ 2 ^ 25
small-product place octet near fits = omega (arith, mul-le-mul near fits)
