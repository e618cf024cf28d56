-- The example set is a valid set.
use Rattle.std.proofs.Common.{ℕ, List, [], ◌∷◌, refl, arith}
use Rattle.iol_types.specs.Key.{IsKey}
use Rattle.iol_types.specs.DataSet.{Entry, AreEntries, IsSet}
use Rattle.iol_types.specs.Examples.{example_set}
use Rattle.iol_types.specs.declared.key.Key.{Key}
use Rattle.iol_types.proofs.Entries.{may_be_added, no-entries, one-more}

pub example_is_set : IsSet example_set
example_is_set =
    let first : Key = record { index = 64; subindex = 0 } in
    let second : Key = record { index = 65; subindex = 1 } in
    let octets : List ℕ = 10 ∷ 100 ∷ [] in
    let in_first : IsKey first = record { index = omega arith; subindex = omega arith } in
    let in_second : IsKey second = record { index = omega arith; subindex = omega arith } in
    let one : AreEntries ((first, octets) ∷ []) = one-more [] first octets no-entries in_first (may_be_added [] first octets refl) in
    let there : List Entry = (first, octets) ∷ [] in
    let both : AreEntries example_set.entries =
    one-more there second (127 ∷ []) one in_second (may_be_added there second (127 ∷ []) refl) in
    record { entries = both; vendor = omega arith; device = omega arith; checksum = omega arith }
