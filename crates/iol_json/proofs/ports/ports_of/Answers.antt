use Rattle.std.proofs.Common.{◌≡◌, ◌≤◌, ◌+◌, ◌-◌, ◌++◌, ℕ, List, length, map, take, rules, refl, ap, ◌∙◌, arith}
use Rattle.std.proofs.lemmas.List.{take_all}
use Rattle.serde_json.specs.Data.{Data, array}
use Rattle.serde_json.specs.View.{view, items_of}
use Rattle.iol_json.specs.Json.{ports_data, port_at}
use Rattle.iol_json.proofs.InOrder.{ports_next}
use Rattle.iol_json.proofs.ports.ports_of.Goals as goal
use Rattle.iol_json.proofs.ports.ports_of.Goals.{else-loop-number-test, then-loop-number-test+in_ok-push_port+else-number-number-end}

pub loop-number-init : goal.loop-number-init
loop-number-init c = record { ports = rw (c.new-ports.ensures.items) refl; count = search rules }

pub loop-number-preserved : goal.loop-number-preserved
loop-number-preserved c = record {
  ports =
      let number = c.loop-number.number in
      let state = c.args.state.now in
      let more : map view c.push_port.new.ports.items ≡ map view c.loop-number.ports.items ++ port_at state number = search rules in
      let here : number ≡ number + 1 - 1 = omega arith in
      more ∙ ap (λ (before : List Data). before ++ port_at state number) c.loop-number.invariant.ports
      ∙ ports_next number state (omega arith) ∙ ap (λ (n : ℕ). ports_data 1 (take n state)) here;
  count = c.loop-number.invariant.count;
}

pub returns : goal.returns
returns c =
    let number = c.loop-number.number in
    let state = c.args.state.now in
    let found : map view c.loop-number-test.ports.items ≡ ports_data 1 state = elim c.loop-number-test.branch [
      | else-loop-number-test w ↦
          let all : length state ≤ number - 1 = omega arith in
          rw (w.ports-is) (c.loop-number.invariant.ports ∙ ap (ports_data 1) (take_all (number - 1) state all))
      | then-loop-number-test+in_ok-push_port+else-number-number-end w ↦
          let more : map view w.push_port.new.ports.items ≡ map view c.loop-number.ports.items ++ port_at state number = search rules in
          let all : length state ≤ number = omega arith in
          rw (w.ports-is) (more ∙ ap (λ (before : List Data). before ++ port_at state number) c.loop-number.invariant.ports
          ∙ ports_next number state (omega arith) ∙ ap (ports_data 1) (take_all number state all))
    ] in
    c.from.ensures ∙ ap (λ (found : List Data). array (items_of found)) found
