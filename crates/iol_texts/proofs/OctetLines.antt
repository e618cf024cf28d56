-- The text with one more octet.
use Rattle.std.proofs.Common.{◌≡◌, ◌<◌, ◌+◌, ℕ, List, [], ◌∷◌, ◌++◌, length, take, get_or, sym, ap, ◌∙◌}
use Rattle.std.specs.Prelude.{codes}
use Rattle.std.specs.List.{flat_map}
use Rattle.std.proofs.lemmas.Grind.{flat_map-append}
use Rattle.std.proofs.lemmas.List.{take_more}
use Rattle.iol_texts.proofs.Hexadecimal.{hex_hole, hex_two}
use Rattle.iol_texts.specs.Texts.{spaced}
use Rattle.iol_texts.specs.Texts.{hex_of}

-- octets without spaces
pub packed_next : (octets : List ℕ) (i : ℕ) → i < length octets → get_or octets i 0 < 256
    → flat_map hex_of (take i octets) ++ hex_hole 2 (get_or octets i 0) ≡ flat_map hex_of (take (i + 1) octets)
packed_next octets i within fits =
    ap (λ (text : List ℕ). flat_map hex_of (take i octets) ++ text) (hex_two (get_or octets i 0) fits)
    ∙ sym (ap (flat_map hex_of) (take_more octets i 0 within) ∙ flat_map-append hex_of (take i octets) (get_or octets i 0 ∷ []))

-- octets, each after a space
pub spaced_next : (octets : List ℕ) (i : ℕ) → i < length octets → get_or octets i 0 < 256
    → spaced (take i octets) ++ (codes " " ++ hex_hole 2 (get_or octets i 0)) ≡ spaced (take (i + 1) octets)
spaced_next octets i within fits =
    ap (λ (text : List ℕ). spaced (take i octets) ++ (codes " " ++ text)) (hex_two (get_or octets i 0) fits)
    ∙ sym (ap spaced (take_more octets i 0 within)
    ∙ flat_map-append (λ octet. codes " " ++ hex_of octet) (take i octets) (get_or octets i 0 ∷ []))
