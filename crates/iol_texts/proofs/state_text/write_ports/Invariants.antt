use Rattle.std.proofs.Common.{◌≡◌, ◌-◌, take, length}
use Rattle.std.specs.Fmt.{HasWritten, IsPlainFormatter}
use Rattle.iol_texts.specs.Recovered.{port_lines}
use Rattle.iol_texts.proofs.state_text.write_ports.Given as goal

-- the lines of the ports before this one
abbrev pub invariant-loop-number : goal.invariant-loop-number
invariant-loop-number g l = record {
  text : IsPlainFormatter l.initial.f
      → HasWritten g.W.Write.write_str_gives l.initial.f (port_lines 1 (take (l.number - 1) l.state)) l.f;
  count : l.number-end ≡ length l.state;
}
