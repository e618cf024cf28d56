use Rattle.std.proofs.Common.{rules, ◌≡◌, ◌+◌, ◌-◌, ◌≤◌, ℕ, length, take, ap, ◌∙◌, arith, []}
use Rattle.std.specs.Option.{option_map_or}
use Rattle.std.proofs.lemmas.Grind.{put_two}
use Rattle.std.proofs.lemmas.List.{take_all}
use Rattle.iol_types.specs.State.{port_numbered}
use Rattle.iol_texts.specs.Recovered.{port_text, port_lines}
use Rattle.iol_texts.proofs.PortLines.{ports_next}
use Rattle.iol_texts.proofs.state_text.write_ports.Goals as goal

pub loop-number-preserved : goal.loop-number-preserved
loop-number-preserved g c = record {
  text = λ plain.
      let number = c.loop-number.number in
      let state = c.args.state.now in
      let here : number ≡ number + 1 - 1 = omega arith in
      let same = ap (λ (n : ℕ). port_lines 1 (take n state)) here in
      let next = ports_next number state (omega arith) in
      put_two g.W.Write.write_str_gives c.args.f.now c.loop-number.f c.write_port_numbered.new.f (port_lines 1 (take (number - 1) state))
      (option_map_or (port_text number) (port_numbered state number) []) (port_lines 1 (take (number + 1 - 1) state))
      (c.loop-number.invariant.text plain) (search rules) (next ∙ same);
  count = c.loop-number.invariant.count;
}

pub returns-in_ok-write_port_numbered : goal.returns-in_ok-write_port_numbered
returns-in_ok-write_port_numbered g c = λ plain ok.
    let number = c.loop-number.number in
    let state = c.args.state.now in
    let all : length state ≤ number = omega arith in
    put_two g.W.Write.write_str_gives c.args.f.now c.loop-number.f c.write_port_numbered.new.f (port_lines 1 (take (number - 1) state))
    (option_map_or (port_text number) (port_numbered state number) []) (port_lines 1 state) (c.loop-number.invariant.text plain)
    (search rules) (ports_next number state (omega arith) ∙ ap (port_lines 1) (take_all number state all))
