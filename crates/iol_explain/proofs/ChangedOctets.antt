-- If one octet of a request is changed, the octets are no request.
use Rattle.std.proofs.Common.{◌≡◌, ◌≢◌, ℕ, List, [], ◌∷◌, ◌++◌, refl, sym, ap, ◌∙◌, arith}
use Rattle.std.specs.Prelude.{bit_xor, fold, Result, Ok, Err}
use Rattle.std.proofs.lemmas.Grind.{common_steps, fold-append}
use Rattle.std.proofs.lemmas.Nat.{xor_comm}
use Rattle.iol_link.specs.Isdu.{IsRequest, xor_of}
use Rattle.iol_link.specs.Reading.{request_of}
use Rattle.iol_link.specs.declared.faults.IsduFault.{IsduFault}
use Rattle.iol_link.specs.declared.messages.Request.{Request}
use Rattle.iol_link.specs.declared.messages.Request.TheVariants as request
use Rattle.iol_link.proofs.RequestTexts.{request_found}
use Rattle.iol_explain.specs.Requests.{AreOctets}

-- the XOR of all octets of a request is 0, because its CHKPDU is right
checked : (octets : List ℕ) (r : Request) → IsRequest octets r → xor_of octets ≡ 0
checked octets (request.Read index subindex) is = is.1.1.xor
checked octets (request.Write index subindex values) is = is.1.1.xor

back : (a z : ℕ) → bit_xor (bit_xor a z) z ≡ a
back a z = grind (arith, common_steps)

undone : (a b z : ℕ) → bit_xor a z ≡ bit_xor b z → a ≡ b
undone a b z same = sym (back a z) ∙ (ap (λ (n : ℕ). bit_xor n z) same ∙ back b z)

same_start : (behind : List ℕ) (a b : ℕ) → fold bit_xor a behind ≡ fold bit_xor b behind → a ≡ b
same_start [] a b same = same
same_start (z ∷ behind) a b same = undone a b z (same_start behind (bit_xor a z) (bit_xor b z) same)

-- if the XOR of the octets is 0 with either octet at a place, both octets are the same
same_octet : (before behind : List ℕ) (octet other : ℕ) → xor_of (before ++ octet ∷ behind) ≡ 0
    → xor_of (before ++ other ∷ behind) ≡ 0 → other ≡ octet
same_octet before behind octet other one two =
    let start = fold bit_xor 0 before in
    let all : fold bit_xor (bit_xor start other) behind ≡ fold bit_xor (bit_xor start octet) behind =
    sym (fold-append bit_xor 0 before (other ∷ behind)) ∙ (two ∙ (sym one ∙ fold-append bit_xor 0 before (octet ∷ behind))) in
    let starts : bit_xor start other ≡ bit_xor start octet = same_start behind (bit_xor start other) (bit_xor start octet) all in
    undone other octet start (xor_comm other start ∙ (starts ∙ xor_comm start octet))

pub refused : (before behind : List ℕ) (octet other : ℕ) (asked : Request) → AreOctets (before ++ octet ∷ behind)
    → AreOctets (before ++ other ∷ behind) → request_of (before ++ octet ∷ behind) ≡ Ok asked → other ≢ octet
    → (fault : IsduFault) × (request_of (before ++ other ∷ behind) ≡ Err fault)
refused before behind octet other asked all all_other ok differs = by (request_of (before ++ other ∷ behind)) refl
  where
    by : (read : Result Request IsduFault) → request_of (before ++ other ∷ behind) ≡ read
        → (fault : IsduFault) × (request_of (before ++ other ∷ behind) ≡ Err fault)
    by (Ok r) is =
        absurd (differs (same_octet before behind octet other
        (checked (before ++ octet ∷ behind) asked (request_found (before ++ octet ∷ behind) asked all ok))
        (checked (before ++ other ∷ behind) r (request_found (before ++ other ∷ behind) r all_other is))))
    by (Err fault) is = (fault, is)
