use Rattle.std.proofs.Common.{◌≡◌, ◌-◌, ap, arith, length, map, sym, ◌∙◌, ℕ, List}
use Rattle.std.specs.List.{slice_get}
use Rattle.std.proofs.lemmas.List.{length-map}
use Rattle.iol_layout.specs.AreaPlans.{write_of}
use Rattle.iol_layout.specs.AreaWrites.{port_writes}
use Rattle.iol_disk.specs.Calls.{Call}
use Rattle.iol_journal.specs.Orders.{opening_calls}
use Rattle.iol_handed.proofs.Segments.{in_first, in_second}
use Rattle.iol_layout.specs.Layout.{laid_out}
use Rattle.iol_layout.specs.declared.area.Area.TheVariants.{A}
use Rattle.iol_record.specs.Record.{newest}
use Rattle.iol_types.specs.State.{empty_state}
use Rattle.iol_handed.proofs.handed_format.HandedFormat.call_after_headers.Goals as goal

pub returns-then-number-records : goal.returns-then-number-records
returns-then-number-records c =
    let format = c.args.self.now in let writes = port_writes (laid_out newest format.geometry) A 0 (empty_state format.geometry.ports) in
    let count : length format.plan.records.items ≡ length writes = sym (length-map format.plan.records.items write_of) ∙ ap length
    format.planned in
    c.record_write.ensures ∙ sym (in_first writes opening_calls c.args.number (omega (
      arith,
      count,
      c.len-records.ensures,
      c.if-number-records.true,
    )))

pub returns-else-number-records : goal.returns-else-number-records
returns-else-number-records c =
    let format = c.args.self.now in let writes = port_writes (laid_out newest format.geometry) A 0 (empty_state format.geometry.ports) in
    let count : length format.plan.records.items ≡ length writes = sym (length-map format.plan.records.items write_of) ∙ ap length
    format.planned in
    let same : c.args.number - c.len-records.result ≡ c.args.number - length writes = omega (arith, count, c.len-records.ensures) in
    c.opening_call.ensures ∙ ap (slice_get opening_calls) same
    ∙ sym (in_second writes opening_calls c.args.number (omega (arith, count, c.len-records.ensures, c.if-number-records.false)))
