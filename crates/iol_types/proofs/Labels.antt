-- A label, and the zeros after it.
use Rattle.std.proofs.Common.{◌≡◌, ◌≤◌, ◌<◌, ◌++◌, ◌-◌, ℕ, zero, suc, true, List, [], ◌∷◌, length, replicate, drop, take, sym, ◌∙◌, ap}
use Rattle.std.proofs.Common.{subst, ◌&&◌, nat_le, arith}
use Rattle.std.specs.List.{All, list_all}
use Rattle.std.proofs.Math.Seq.{take-append_seam}
use Rattle.std.proofs.lemmas.Bool.{and_from, and_parts, le-leb, leb-true}
use Rattle.std.proofs.lemmas.List.{drop-replicate}
use Rattle.iol_types.specs.Label.{is_label_octet, is_label, padded_label, HoldsLabel}
use Rattle.iol_types.specs.declared.label.TheConstants.{MOST_LABEL_OCTETS, FIRST_PRINTED, LAST_PRINTED}

-- the front of a padded label is the label
holds-padded : (label : List ℕ) → length label ≤ MOST_LABEL_OCTETS → is_label label ≡ true → HoldsLabel (length label) (padded_label label)
holds-padded label short is =
    let front : take (length label) (padded_label label) ≡ label =
    take-append_seam label (replicate (MOST_LABEL_OCTETS - length label) 0) in
    record { short = short; counted = ap length front; padded = ap padded_label front; label = ap is_label front ∙ is }

-- a label that is written over the front of 32 zeros
pub written : (label front : List ℕ) → front ≡ label → length label ≤ MOST_LABEL_OCTETS → list_all is_label_octet label ≡ true
    → HoldsLabel (length label) (front ++ drop (length label) (replicate MOST_LABEL_OCTETS 0))
written label front is short all =
    let whole : front ++ drop (length label) (replicate MOST_LABEL_OCTETS 0) ≡ padded_label label =
    ap (λ (octets : List ℕ). octets ++ drop (length label) (replicate MOST_LABEL_OCTETS 0)) is
    ∙ ap (λ (zeros : List ℕ). label ++ zeros) (drop-replicate (length label) MOST_LABEL_OCTETS 0) in
    subst (HoldsLabel (length label)) (sym whole)
    (holds-padded label short (and_from _ _ (le-leb (length label) MOST_LABEL_OCTETS short) all))

-- the octets of a label are ASCII
pub label-ascii : (octets : List ℕ) → list_all is_label_octet octets ≡ true → All (λ octet. octet < 128) octets
label-ascii [] all k d below = absurd (omega (arith, below))
label-ascii (octet ∷ octets) all zero d below =
    let here : is_label_octet octet ≡ true = (and_parts _ _ all).0 in
    let printed : (nat_le FIRST_PRINTED octet && nat_le octet LAST_PRINTED) ≡ true = (and_parts _ _ here).0 in
    omega (arith, leb-true octet LAST_PRINTED (and_parts (nat_le FIRST_PRINTED octet) (nat_le octet LAST_PRINTED) printed).1)
label-ascii (octet ∷ octets) all (suc k) d below = label-ascii octets (and_parts _ _ all).1 k d (omega (arith, below))
