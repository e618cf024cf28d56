use Rattle.std.proofs.Common.{ap, slice_get, sym, ◌∙◌, Some, length, ◌≤◌, ℕ, arith, subst}
use Rattle.std.specs.List.{range_with_len}
use Rattle.std.proofs.lemmas.Option.{slice_get_past, slice_get-map, slice_get-get_or}
use Rattle.iol_layout.specs.AreaWrites.{slot_write, slot_writes}
use Rattle.iol_disk.specs.Calls.{write}
use Rattle.iol_handed.proofs.Segments.{slots_at, slots_past}
use Rattle.iol_layout.specs.Layout.{Layout, laid_out, slot_at}
use Rattle.iol_layout.specs.declared.area.Area.TheVariants.{A}
use Rattle.iol_record.specs.Record.{newest}
use Rattle.iol_disk.specs.Gate.{closed_gate}
use Rattle.iol_handed.proofs.handed_format.HandedFormat.slot_write.Goals as goal

pub returns-then-number-slots : goal.returns-then-number-slots
returns-then-number-slots c =
    let layout = laid_out newest c.args.self.now.geometry in
    let slots = c.slots.ensures.value ∙ ap (λ (laid : Layout). laid.slots) c.layout-layout.ensures in
    let gate = c.slot.ensures.gate ∙ ap (λ (laid : Layout). slot_at laid A c.args.number) c.layout-layout.ensures in
    ap Some (c.closed_gate.ensures ∙ ap (λ (sector : ℕ). write sector closed_gate) gate)
    ∙ sym (slots_at layout A c.args.number (omega (arith, slots, c.if-number-slots.true)))

pub returns-else-number-slots : goal.returns-else-number-slots
returns-else-number-slots c =
    let layout = laid_out newest c.args.self.now.geometry in
    let slots = c.slots.ensures.value ∙ ap (λ (laid : Layout). laid.slots) c.layout-layout.ensures in
    sym (slots_past layout A c.args.number (omega (arith, slots, c.if-number-slots.false)))
