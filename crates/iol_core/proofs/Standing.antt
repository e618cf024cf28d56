-- The state after a prefix of a list of commands, when more of them become durable.
use Rattle.std.proofs.Common.{◌≡◌, ℕ, zero, suc, ◌+◌, ◌-◌, ◌≤◌, List, [], ◌∷◌, ◌++◌, length, take, refl, sym, ap, ◌∙◌, arith, length-append}
use Rattle.std.proofs.lemmas.List.{take_all}
use Rattle.std.proofs.lemmas.List.Sums.{fold-append}
use mathlib.Core.List.{IsPrefix}
use Rattle.iol_types.specs.Command.{CommandValue}
use Rattle.iol_types.specs.State.{State, apply, after}
use Rattle.iol_front.specs.Fronts.{Start}
use Rattle.iol_front.proofs.Prefixes.{prefix_append, prefix_trans}
use Rattle.iol_core.specs.Standing.{Stands}

-- a prefix is no longer than the whole list
pub prefix_length : {A : Type 0} (xs zs : List A) → IsPrefix xs zs → length xs ≤ length zs
prefix_length xs zs (rest, is) = let whole : length xs + length rest ≡ length zs = sym (length-append xs rest) ∙ ap length is in
    omega (arith, whole)

take_append : {A : Type 0} (n : ℕ) (xs ys : List A) → n ≤ length xs → take n (xs ++ ys) ≡ take n xs
take_append zero xs ys h = refl
take_append (suc n) [] ys h = absurd (omega arith)
take_append (suc n) (x ∷ xs) ys h = ap (λ (rest : List _). x ∷ rest) (take_append n xs ys (omega arith))

-- the first `n` items of a prefix are the first `n` items of the whole list
pub take_prefix : {A : Type 0} (xs zs : List A) (n : ℕ) → IsPrefix xs zs → n ≤ length xs → take n zs ≡ take n xs
take_prefix xs zs n (rest, is) h = ap (take n) (sym is) ∙ take_append n xs rest h

-- `Stands` still holds if more commands were seen
pub stands_later : (start : Start) (seen later : List CommandValue) (number : ℕ) (state : State)
    → Stands start seen number state → IsPrefix seen later → Stands start later number state
stands_later start seen later number state stands kept =
    let long : length seen ≤ length later = prefix_length seen later kept in
    let above : start.number ≤ number = stands.above in
    let within : number ≤ start.number + length seen = stands.within in
    record {
      above = above;
      within = omega arith;
      state = stands.state ∙ ap (after start.state) (sym (take_prefix seen later (number - start.number) kept (omega arith)));
    }

-- after the next batch, `Stands` holds of the state after it, at its last number
pub acknowledged : (start : Start) (seen later before commands : List CommandValue) (number : ℕ) (state : State)
    → Stands start seen number state → IsPrefix seen later → IsPrefix (before ++ commands) later → start.number + length before ≡ number
    → Stands start later (number + length commands) (after state commands)
acknowledged start seen later before commands number state stands kept shown follows =
    let both : length (before ++ commands) ≡ length before + length commands = length-append before commands in
    let long : length (before ++ commands) ≤ length later = prefix_length (before ++ commands) later shown in
    let above : start.number ≤ number = stands.above in
    let within : number ≤ start.number + length seen = stands.within in
    let begins : IsPrefix before later = prefix_trans before (before ++ commands) later (prefix_append before commands) shown in
    let old : take (number - start.number) seen ≡ before =
    sym (take_prefix seen later (number - start.number) kept (omega arith))
    ∙ (take_prefix before later (number - start.number) begins (omega arith) ∙ take_all (number - start.number) before (omega arith)) in
    let new : take (number + length commands - start.number) later ≡ before ++ commands =
    take_prefix (before ++ commands) later (number + length commands - start.number) shown (omega arith)
    ∙ take_all (number + length commands - start.number) (before ++ commands) (omega arith) in
    record {
      above = omega arith;
      within = omega arith;
      state = ap (λ (s : State). after s commands) (stands.state ∙ ap (after start.state) old)
          ∙ (sym (fold-append apply start.state before commands) ∙ ap (after start.state) (sym new));
    }
