use Rattle.std.proofs.Common.{◌≡◌, ◌++◌, ◌-◌, ap, arith, length, sym, ◌∙◌, ℕ, List}
use Rattle.std.specs.List.{slice_get}
use Rattle.std.proofs.lemmas.List.FromFn.{length-map-range_with_len}
use Rattle.iol_layout.specs.AreaWrites.{port_writes, slot_write, slot_writes}
use Rattle.iol_journal.specs.Orders.{header_writes, opening_calls}
use Rattle.iol_handed.proofs.Segments.{in_first_of, in_rest_of}
use Rattle.iol_layout.specs.Layout.{Layout, laid_out}
use Rattle.iol_layout.specs.declared.area.Area.TheVariants.{A}
use Rattle.iol_record.specs.Record.{newest}
use Rattle.iol_types.specs.State.{empty_state}
use Rattle.iol_handed.proofs.handed_format.HandedFormat.call_after_gates.Goals as goal

pub returns-then-number-slots : goal.returns-then-number-slots
returns-then-number-slots c =
    let g = c.args.self.now.geometry in let layout = laid_out newest g in
    let headers = header_writes newest g in let ports = port_writes layout A 0 (empty_state g.ports) in
    let slots = c.slots-slots.ensures.value ∙ ap (λ (laid : Layout). laid.slots) c.layout.ensures in
    let count = length-map-range_with_len (slot_write layout A) 0 layout.slots in
    c.slot_write.ensures ∙ sym (in_first_of (slot_writes layout A) headers ports opening_calls c.args.number (omega (
      arith,
      count,
      slots,
      c.if-number-slots.true,
    )))

pub returns-else-number-slots : goal.returns-else-number-slots
returns-else-number-slots c =
    let g = c.args.self.now.geometry in let layout = laid_out newest g in
    let headers = header_writes newest g in let ports = port_writes layout A 0 (empty_state g.ports) in
    let slots = c.slots-slots.ensures.value ∙ ap (λ (laid : Layout). laid.slots) c.layout.ensures in
    let count = length-map-range_with_len (slot_write layout A) 0 layout.slots in
    let same : c.args.number - c.slots-slots.result ≡ c.args.number - length (slot_writes layout A) = omega (arith, count, slots) in
    c.call_after_slots.ensures ∙ ap (slice_get ((headers ++ ports) ++ opening_calls)) same
    ∙ sym (in_rest_of (slot_writes layout A) headers ports opening_calls c.args.number (omega (
      arith,
      count,
      slots,
      c.if-number-slots.false,
    )))
