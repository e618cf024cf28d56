use Rattle.std.proofs.Common.{◌∷◌, [], ◌++◌, length, ap, ◌∙◌, arith}
use Rattle.std.proofs.lemmas.List.{replicate_more, length-replicate}
use Rattle.iol_types.specs.State.{Port, State, blank, empty_state}
use Rattle.iol_types.proofs.master_state.MasterState.new.Goals as goal

pub loop-preserved : goal.loop-preserved
loop-preserved c =
    c.in_ok-push.ensures.items
    ∙ (ap (λ (ports : State). ports ++ c.blank.result ∷ []) c.loop.invariant
    ∙ (ap (λ (port : Port). empty_state c.loop.counter ++ port ∷ []) c.blank.ensures ∙ replicate_more c.loop.counter blank))

pub returns : goal.returns
returns c = record { empty = c.loop.invariant ∙ ap empty_state (omega arith); memory = tt }

pub invariant_of-result : goal.invariant_of-result
invariant_of-result c =
    omega (arith, ap (λ (ports : State). length ports) c.loop.invariant, length-replicate c.loop.counter blank)
