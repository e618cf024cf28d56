-- More events after those of a run.
use Rattle.std.proofs.Common.{◌≡◌, refl, ◌+◌, ◌⊎◌, inl, inr, ⊎_elim, ℕ, List, [], ◌∷◌, ◌++◌, length, ap, sym, ◌∙◌, subst, arith}
use Rattle.std.proofs.Common.{append_assoc}
use Rattle.std.proofs.lemmas.List.Sums.{fold-append}
use Rattle.iol_types.specs.Command.{CommandValue}
use Rattle.iol_core.specs.Events.{Stamp}
use Rattle.iol_core.specs.Words.{command_in, number_in, accepted, numbers, acked, acked_by, clock_after, HasFailure, RiseByOne}

pub accepted-append : (events more : List Stamp) → accepted (events ++ more) ≡ accepted events ++ accepted more
accepted-append [] more = refl
accepted-append (e ∷ events) more =
    ap (λ (cs : List CommandValue). command_in e.event ++ cs) (accepted-append events more)
    ∙ sym (append_assoc (command_in e.event) (accepted events) (accepted more))

pub numbers-append : (events more : List Stamp) → numbers (events ++ more) ≡ numbers events ++ numbers more
numbers-append [] more = refl
numbers-append (e ∷ events) more =
    ap (λ (ns : List ℕ). number_in e.event ++ ns) (numbers-append events more)
    ∙ sym (append_assoc (number_in e.event) (numbers events) (numbers more))

pub acked-append : (first : ℕ) (events more : List Stamp) → acked first (events ++ more) ≡ acked (acked first events) more
acked-append first events more = fold-append (λ (number : ℕ) (e : Stamp). acked_by number e.event) first events more

pub clock-append : (begun : ℕ) (events more : List Stamp) → clock_after begun (events ++ more) ≡ clock_after (clock_after begun events) more
clock-append begun events more = fold-append (λ (t : ℕ) (e : Stamp). e.clock) begun events more

-- a failure among more events is in one part or in the other
pub failure-append : (events more : List Stamp) → HasFailure (events ++ more) → HasFailure events ⊎ HasFailure more
failure-append [] more failed = inr failed
failure-append (e ∷ events) more (inl here) = inl (inl here)
failure-append (e ∷ events) more (inr there) = ⊎_elim (λ front. inl (inr front)) (λ behind. inr behind) (failure-append events more there)

-- numbers that rise by one still do so with the next number
pub rise-append : (last : ℕ) (ns more : List ℕ) → RiseByOne last ns → RiseByOne (last + length ns) more → RiseByOne last (ns ++ more)
rise-append last [] more rise rest = subst (λ (n : ℕ). RiseByOne n more) (omega arith) rest
rise-append last (n ∷ ns) more rise rest =
    (rise.0, rise-append n ns more rise.1 (subst (λ (m : ℕ). RiseByOne m more) (omega (arith, rise.0)) rest))
