use Rattle.std.proofs.Common.{sym, ap, ◌∙◌, ◌-◌, length, length-append, inl, inr, Err, arith}
use Rattle.std.proofs.lemmas.Result.{err_from_is_err_and}
use Rattle.iol_record.specs.Record.{port_octets}
use Rattle.iol_record.specs.Reading.{port_record_at, port_begun_at}
use Rattle.iol_record.proofs.Memories.{memory_or_read}
use Rattle.iol_record.proofs.Decoders.{only_front, decodes, no_fault_at}
use Rattle.iol_record.proofs.PortReaders.{port_record_reads}
use Rattle.iol_record.proofs.decode.decode_port.Goals as goal

pub returns-in_err-port-clause-only : goal.returns-in_err-port-clause-only
returns-in_err-port-clause-only c = λ front rest port is_record parts.
    let octets = c.args.octets.now in
    let p = err_from_is_err_and c.from_residual.result c.from_residual.ensures.1 in
    rw (p.1, p.2) (elim (memory_or_read (port_begun_at c.args.version c.new-reader.result) _
    (port_record_at c.args.version c.new-reader.result) c.in_err-port.ensures) [
      | inl memory ↦ inl (ap (λ fault. Err fault) memory)
      | inr fails ↦
          absurd (no_fault_at (port_record_at c.args.version) octets port rest _
          (only_front (port_record_reads c.args.version) octets front port rest is_record.spelling
          (is_record.in_range, is_record.spelled) parts)
          (ap (port_record_at c.args.version) (sym c.new-reader.ensures) ∙ fails))
    ])

pub overflow_sub-result : goal.overflow_sub-result
overflow_sub-result c =
    let reads = ap (port_record_at c.args.version) (sym c.new-reader.ensures) ∙ c.in_ok-port.ensures in
    let taken = (port_record_reads c.args.version).takes c.args.octets.now _ _ (λ i. omega (arith, c.type_inv.octets i)) reads in
    omega (
      arith,
      ap length taken.0.parts,
      length-append
          (port_octets c.args.version c.in_ok-port.port) c.port_state.new.self,
      c.len.ensures,
    )

pub returns : goal.returns
returns c =
    let reads = ap (port_record_at c.args.version) (sym c.new-reader.ensures) ∙ c.in_ok-port.ensures in
    let count = ap (λ n. length c.args.octets.now - n) (sym c.len.ensures) in
    let d = decodes (port_record_reads c.args.version) c.args.octets.now c.in_ok-port.port c.port_state.new.self _
    (λ i. omega (arith, c.type_inv.octets i))
    reads count in
    record {
      found = (d.within, record { spelling = d.front; in_range = d.in_range.0; spelled = d.in_range.1 });
      only = λ front rest port is_record parts.
          inr (d.only front rest port is_record.spelling (is_record.in_range, is_record.spelled) parts);
      exact = d.exact;
    }
