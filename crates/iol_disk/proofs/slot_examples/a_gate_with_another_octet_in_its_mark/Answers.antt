use Rattle.std.proofs.Common.{◌≡◌, ◌<◌, ℕ, Bool, true, false, List, length, get_or, take, replicate, slice_set, sym, refl, ◌∙◌, ap, arith}
use Rattle.std.proofs.lemmas.List.{get_or-set_same, get_or-take, get_or_append_left}
use Rattle.std.proofs.lemmas.Slice.Eq.{bytes_eq-Decides}
use Rattle.iol_disk.specs.Gate.{is_open, open_gate}
use Rattle.iol_disk.specs.declared.slot.TheConstants.{GATE_MARK}
use Rattle.iol_disk.proofs.slot_examples.a_gate_with_another_octet_in_its_mark.Goals as goal

false_from_not_true : (b : Bool) → (b ≡ true → ⊥) → b ≡ false
false_from_not_true true not = absurd (not refl)
false_from_not_true false not = refl

pub returns : goal.returns
unfolding is_open open_gate
returns c place octet within other = false_from_not_true _ (λ starts.
    let gate = slice_set open_gate place octet in
    let inside : place < length open_gate = omega (arith, within) in
    let marked : GATE_MARK ≡ take 8 gate = (bytes_eq-Decides GATE_MARK (take 8 gate)).0 starts in
    other (sym (get_or-set_same open_gate place octet 0 inside) ∙ sym (get_or-take 8 gate place 0 within)
    ∙ sym (ap (λ (octets : List ℕ). get_or octets place 0) marked)
    ∙ sym (get_or_append_left GATE_MARK (replicate 504 0) 0 place within)))
