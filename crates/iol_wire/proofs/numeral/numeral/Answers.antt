use Rattle.std.proofs.Common.{◌≡◌, ◌<◌, ◌≤◌, ◌+◌, ◌*◌, ◌^◌, ℕ, [], ◌∷◌, List, None, drop, get_or, suc, arith, ap, sym, ◌∙◌}
use Rattle.std.proofs.Math.ListN.{drop_of_length-le}
use Rattle.std.proofs.Math.Seq.{drop-cons}
use Rattle.std.specs.Char.{digit_value}
use Rattle.iol_wire.specs.Numeral.{numeral, numeral_after}
use Rattle.iol_wire.proofs.NumeralLemmas.{numeral_end, numeral_too_large}
use Rattle.iol_wire.proofs.numeral.numeral.Goals as goal

pub returns-in_err-checked_mul-clause-value : goal.returns-in_err-checked_mul-clause-value
returns-in_err-checked_mul-clause-value c =
    let loop = c.loop-octet in
    let octet : ℕ = get_or c.args.digits.now loop.octet-index 0 in
    let more : List ℕ = drop (suc loop.octet-index) c.args.digits.now in
    let here : drop loop.octet-index c.args.digits.now ≡ octet ∷ more =
    drop-cons c.args.digits.now loop.octet-index 0 c.loop-octet-test.true in
    let large : 2 ^ 64 ≤ loop.value * c.args.radix + digit_value octet =
    let product : loop.value * c.args.radix < 2 ^ 64 → ⊥ =
    λ small. c.in_err-checked_mul.ensures (rw c.from-in-loop-octet.ensures small) in
    omega (arith, product) in
    let none : numeral_after c.args.radix loop.value (drop loop.octet-index c.args.digits.now) ≡ None =
    rw here (numeral_too_large c.args.radix loop.value octet more (omega arith) large) in
    c.from_residual-in_err-checked_mul.ensures ∙ (sym none ∙ loop.invariant.same)

pub returns-in_err-value-clause-value : goal.returns-in_err-value-clause-value
returns-in_err-value-clause-value c =
    let loop = c.loop-octet in
    let octet : ℕ = get_or c.args.digits.now loop.octet-index 0 in
    let more : List ℕ = drop (suc loop.octet-index) c.args.digits.now in
    let here : drop loop.octet-index c.args.digits.now ≡ octet ∷ more =
    drop-cons c.args.digits.now loop.octet-index 0 c.loop-octet-test.true in
    let large : 2 ^ 64 ≤ loop.value * c.args.radix + digit_value octet =
    let product : c.in_ok-checked_mul.field-0 ≡ loop.value * c.args.radix =
    c.in_ok-checked_mul.ensures.1 ∙ ap (λ by. loop.value * by) c.from-in-loop-octet.ensures in
    let digit : c.in_ok-digit.digit ≡ digit_value octet =
    c.in_ok-digit.ensures.value.1 ∙ ap digit_value c.from.ensures in
    let sum : c.in_ok-checked_mul.field-0 + c.in_ok-digit.digit < 2 ^ 64 → ⊥ =
    λ small. c.in_err-value.ensures (rw c.from-in-loop-octet-2.ensures small) in
    omega (arith, product, digit, sum) in
    let none : numeral_after c.args.radix loop.value (drop loop.octet-index c.args.digits.now) ≡ None =
    rw here (numeral_too_large c.args.radix loop.value octet more (omega arith) large) in
    c.from_residual-in_err-value.ensures ∙ (sym none ∙ loop.invariant.same)

pub returns-clause-value : goal.returns-clause-value
returns-clause-value c =
    let loop = c.loop-octet in
    let done : drop loop.octet-index c.args.digits.now ≡ [] = drop_of_length-le c.args.digits.now c.loop-octet-test.false in
    let same : numeral_after c.args.radix loop.value [] ≡ numeral c.args.radix c.args.digits.now = rw done at loop.invariant.same in
    sym (numeral_end c.args.radix loop.value loop.invariant.fits) ∙ same
