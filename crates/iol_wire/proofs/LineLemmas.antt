-- The octets that words spell.
use Rattle.std.proofs.Common.{◌≡◌, ◌≢◌, ℕ, ◌≤◌, ◌==◌, ◌&&◌, Bool, true, cond, leb, List, [], ◌∷◌, ◌++◌, Option, Some, None, length}
use Rattle.std.proofs.Common.{filter_map, is_some, suc, ap, ◌∙◌, refl, arith}
use Rattle.std.specs.List.{list_all, cons_option}
use Rattle.std.specs.Option.{option_map}
use Rattle.std.proofs.lemmas.Bool.{false≢true}
use Rattle.std.proofs.lemmas.Bool.Decides.{nat_tests}
use Rattle.std.proofs.lemmas.List.{append-nil}
use Rattle.iol_link.specs.declared.link.TheConstants.{PAGE_OCTETS}
use Rattle.iol_wire.specs.declared.line.Reply.TheVariants.{Page}
use Rattle.iol_wire.specs.Numeral.{hexadecimal}
use Rattle.iol_wire.specs.Lines.{octets_within, page_of}

abbrev pub is_octet : List ℕ → Bool
is_octet word = is_some (hexadecimal 2 word)

done_by : (all few : Bool) (octets : List ℕ) → all ≡ true → few ≡ true
    → Some octets ≡ cond few (cond all (Some octets) None) None
done_by all few octets is_all is_few = simp (is_all, is_few)

-- if each word spells an octet, these are the octets, in order
pub octets_done : (most : ℕ) (written : List (List ℕ)) (octets : List ℕ) → list_all is_octet written ≡ true
    → filter_map (hexadecimal 2) written ≡ octets ++ [] → length written ≤ most
    → Some octets ≡ octets_within most written
octets_done most written octets all found few =
    let same : filter_map (hexadecimal 2) written ≡ octets = found ∙ append-nil octets in
    let within : leb (length written) most ≡ true = grind (arith, nat_tests) in
    rw (← same) (done_by (list_all is_octet written) (leb (length written) most) (filter_map (hexadecimal 2) written) all within)

count_more : (octet : Option ℕ) (octets : List ℕ) (more : List (List ℕ)) → (is_some octet && list_all is_octet more) ≡ true
    → (list_all is_octet more ≡ true → length octets ≡ length more)
    → length (cons_option octet octets) ≡ suc (length more)
count_more None octets more all counted = absurd (false≢true all)
count_more (Some octet) octets more all counted = ap suc (counted all)

-- there are as many octets as words
pub octets_count : (written : List (List ℕ)) → list_all is_octet written ≡ true
    → length (filter_map (hexadecimal 2) written) ≡ length written
octets_count [] all = refl
octets_count (word ∷ more) all =
    count_more (hexadecimal 2 word) (filter_map (hexadecimal 2) more) more all (octets_count more)

page_by : (all : Bool) (count : ℕ) (written octets : List ℕ) → (all ≡ true → length written ≡ count)
    → Some octets ≡ cond (leb count 16) (cond all (Some written) None) None → length octets ≡ 16
    → Some (Page octets) ≡ cond (count == 16) (option_map Page (cond all (Some written) None)) None
page_by all count written octets counted found whole = grind (arith, nat_tests)

-- 16 octets are a page
pub page_found : (written : List (List ℕ)) (octets : List ℕ) → Some octets ≡ octets_within PAGE_OCTETS written
    → length octets ≡ PAGE_OCTETS → Some (Page octets) ≡ page_of written
page_found written octets found whole =
    page_by (list_all is_octet written) (length written) (filter_map (hexadecimal 2) written) octets
    (octets_count written) found whole

no_page_by : (all : Bool) (count : ℕ) (written octets : List ℕ) → (all ≡ true → length written ≡ count)
    → Some octets ≡ cond (leb count 16) (cond all (Some written) None) None → length octets ≢ 16
    → None ≡ cond (count == 16) (option_map Page (cond all (Some written) None)) None
no_page_by all count written octets counted found other = grind (arith, nat_tests)

-- any other number of octets is no page
pub page_missing : (written : List (List ℕ)) (octets : List ℕ) → Some octets ≡ octets_within PAGE_OCTETS written
    → length octets ≢ PAGE_OCTETS → None ≡ page_of written
page_missing written octets found other =
    no_page_by (list_all is_octet written) (length written) (filter_map (hexadecimal 2) written) octets
    (octets_count written) found other
