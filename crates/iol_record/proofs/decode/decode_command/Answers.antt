use Rattle.std.proofs.Common.{sym, ap, ◌∙◌, ◌-◌, length, length-append, inl, inr, Err, arith}
use Rattle.std.proofs.lemmas.Result.{err_from_is_err_and}
use Rattle.iol_types.specs.Command.{value_of}
use Rattle.iol_record.specs.Record.{command_octets}
use Rattle.iol_record.specs.Reading.{command_at, store_begun_at}
use Rattle.iol_record.proofs.Memories.{memory_or_read}
use Rattle.iol_record.proofs.Decoders.{only_front, decodes, no_fault_at}
use Rattle.iol_record.proofs.CommandReaders.{command_reads}
use Rattle.iol_record.proofs.decode.decode_command.Goals as goal

pub returns-in_err-command-clause-only : goal.returns-in_err-command-clause-only
returns-in_err-command-clause-only c = λ front rest command is_record parts.
    let octets = c.args.octets.now in
    let p = err_from_is_err_and c.from_residual.result c.from_residual.ensures.1 in
    rw (p.1, p.2) (elim (memory_or_read (store_begun_at c.args.version c.new-reader.result) _
    (command_at c.args.version c.new-reader.result) c.in_err-command.ensures) [
      | inl memory ↦ inl (ap (λ fault. Err fault) memory)
      | inr fails ↦
          absurd (no_fault_at (command_at c.args.version) octets command rest _
          (only_front (command_reads c.args.version) octets front command rest is_record.spelling
          (is_record.in_range, is_record.spelled) parts)
          (ap (command_at c.args.version) (sym c.new-reader.ensures) ∙ fails))
    ])

pub overflow_sub-result : goal.overflow_sub-result
overflow_sub-result c =
    let reads = ap (command_at c.args.version) (sym c.new-reader.ensures) ∙ c.in_ok-command.ensures in
    let taken = (command_reads c.args.version).takes c.args.octets.now _ _ (λ i. omega (arith, c.type_inv.octets i)) reads in
    omega (
      arith,
      ap length taken.0.parts,
      length-append (command_octets c.args.version (value_of c.in_ok-command.command)) c.command.new.self,
      c.len.ensures,
    )

pub returns : goal.returns
returns c =
    let reads = ap (command_at c.args.version) (sym c.new-reader.ensures) ∙ c.in_ok-command.ensures in
    let count = ap (λ n. length c.args.octets.now - n) (sym c.len.ensures) in
    let d = decodes (command_reads c.args.version) c.args.octets.now (value_of c.in_ok-command.command) c.command.new.self _ (λ i.
    omega (arith, c.type_inv.octets i)) reads count in
    record {
      found = (d.within, record { spelling = d.front; in_range = d.in_range.0; spelled = d.in_range.1 });
      only = λ front rest command is_record parts.
          inr (d.only front rest command is_record.spelling (is_record.in_range, is_record.spelled) parts);
      exact = d.exact;
    }
