-- An Index_List that is written is read back.
use Rattle.std.proofs.Common.{◌≡◌, ℕ, ◌/◌, ◌%◌, true, false, not, List, [], ◌∷◌, refl, ap, ◌∙◌, arith, All, suc}
use Rattle.std.specs.Prelude.{Result, Ok, filter}
use Rattle.std.specs.List.{AllByRecursion, IsDistinct}
use Rattle.iol_types.specs.Key.{same_key, is_reserved}
use Rattle.iol_types.specs.declared.key.Key.{Key}
use Rattle.iol_transfer.specs.List.{Listing, index_of, listed_before, at_index, listing_of, first_places, at_first_places, reading_of}
use Rattle.iol_transfer.specs.List.{list_octets, CanFollow}
use Rattle.iol_transfer.specs.declared.list.Next.{Next}
use Rattle.iol_transfer.specs.declared.list.Next.TheVariants as next
use Rattle.iol_transfer.specs.declared.list.ListFault.{ListFault}
use Rattle.iol_transfer.proofs.Filtered.{filter-passed}
use Rattle.iol_transfer.proofs.Readings.{at_index-free}

-- a number of two octets is read back from them
index_of-two_octets : (number : ℕ) → index_of (number / 256) (number % 256) ≡ number
index_of-two_octets number = omega arith

-- the contents of a list at an Index that is not reserved, read from its two octets
at_two_octets : (index : ℕ) (said : ℕ → Result Listing ListFault) → is_reserved (record { index = index; subindex = 0 }) ≡ false
    → at_index (index_of (index / 256) (index % 256)) (said (index_of (index / 256) (index % 256))) ≡ said index
at_two_octets index said free =
    ap (λ (number : ℕ). at_index number (said number)) (index_of-two_octets index) ∙ at_index-free index (said index) free

-- keys that are not reserved are listed as they were written
listing_of-list_octets : (keys : List Key) (next : Next) → All (λ key. is_reserved key ≡ false) keys → CanFollow next
    → listing_of (list_octets keys next) ≡ Ok (keys, next)
listing_of-list_octets [] next.End free can = refl
listing_of-list_octets [] (next.List index) free can = at_two_octets index (λ (number : ℕ). Ok ([], next.List number)) can
listing_of-list_octets (key ∷ keys) next free can =
    at_two_octets key.index
    (λ (number : ℕ). listed_before (record { index = number; subindex = key.subindex }) (listing_of (list_octets keys next)))
    (free 0 key (omega arith))
    ∙ ap (λ (said : Result Listing ListFault). listed_before key said)
    (listing_of-list_octets keys next (λ k d below. free (suc k) d (omega (arith, below))) can)

-- if no key equals one after it, each is at its first place
first_places-distinct : (keys : List Key) → IsDistinct same_key keys → first_places keys ≡ keys
unfolding IsDistinct
first_places-distinct [] distinct = refl
first_places-distinct (key ∷ keys) distinct =
    ap (λ (rest : List Key). key ∷ filter (λ other. not (same_key key other)) rest) (first_places-distinct keys distinct.1)
    ∙ ap (λ (rest : List Key). key ∷ rest) (filter-passed (λ other. not (same_key key other)) keys (apart keys distinct.0))
  where
    apart : (others : List Key) → AllByRecursion (λ other. same_key key other ≡ false) others
        → AllByRecursion (λ other. not (same_key key other) ≡ true) others
    apart [] all = tt
    apart (other ∷ others) all = (ap not all.0, apart others all.1)

pub reading_of-list_octets : (keys : List Key) (next : Next) → All (λ key. is_reserved key ≡ false) keys → IsDistinct same_key keys
    → CanFollow next
    → reading_of (list_octets keys next) ≡ Ok (keys, next)
reading_of-list_octets keys next free distinct can =
    ap at_first_places (listing_of-list_octets keys next free can)
    ∙ ap (λ (keys : List Key). let r : Result Listing ListFault = Ok (keys, next) in r) (first_places-distinct keys distinct)
