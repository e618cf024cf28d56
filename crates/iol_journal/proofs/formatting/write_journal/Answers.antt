use Rattle.std.proofs.Common.{List, [], ◌∷◌, ◌++◌, arith}
use Rattle.iol_types.specs.State.{empty_state}
use Rattle.iol_record.specs.declared.version.Version.{Version}
use Rattle.iol_disk.specs.Calls.{Call}
use Rattle.iol_disk.proofs.DiskLaws.{made_append}
use Rattle.iol_layout.specs.AreaWrites.{slot_writes, port_writes}
use Rattle.iol_layout.specs.Geometry.{Geometry}
use Rattle.iol_layout.specs.Layout.{laid_out}
use Rattle.iol_journal.specs.Orders.{gate_writes, header_writes, opening_calls}
use Rattle.iol_layout.specs.declared.area.Area.TheVariants.{A}
use Rattle.iol_layout.proofs.Plans.{plan-row}
use Rattle.iol_disk.proofs.Making.{makes_then, hands_on, fails_early, fails_after}
use Rattle.iol_journal.proofs.WrittenJournals.{blank-records}
use Rattle.iol_journal.proofs.formatting.write_journal.Goals as goal

-- the parts of an empty journal
record Parts : Type 0 where
  gates : List Call
  slots : List Call
  headers : List Call
  ports : List Call

abbrev parts_of : Version → Geometry → Parts
parts_of version geometry = record {
  gates = gate_writes version geometry;
  slots = slot_writes (laid_out version geometry) A;
  headers = header_writes version geometry;
  ports = port_writes (laid_out version geometry) A 0 (empty_state geometry.ports);
}

pub returns-in_err-write_gates : goal.returns-in_err-write_gates
returns-in_err-write_gates g c =
    let parts = parts_of c.args.version c.args.geometry in
    hands_on _ c.from_residual.result c.from_residual.ensures.1
    (fails_early parts.gates (parts.slots ∷ parts.headers ∷ parts.ports ∷ opening_calls ∷ [])
    c.in_err-write_gates.ensures)

pub returns-in_err-close_slots : goal.returns-in_err-close_slots
returns-in_err-close_slots g c =
    let parts = parts_of c.args.version c.args.geometry in
    let is = c.requires.plan in
    hands_on _ c.from_residual-in_err-close_slots.result c.from_residual-in_err-close_slots.ensures.1
    (fails_after parts.gates parts.slots (parts.headers ∷ parts.ports ∷ opening_calls ∷ [])
    c.in_ok-write_gates.ensures (rw (is.layout_is, is.area_is) at c.in_err-close_slots.ensures))

pub returns-in_err-write_headers : goal.returns-in_err-write_headers
returns-in_err-write_headers g c =
    let parts = parts_of c.args.version c.args.geometry in
    let is = c.requires.plan in
    let closed = rw (is.layout_is, is.area_is) at c.in_ok-close_slots.ensures in
    let failed = rw (is.layout_is, is.area_is, is.header_is) at c.in_err-write_headers.ensures in
    hands_on _ c.from_residual-in_err-write_headers.result c.from_residual-in_err-write_headers.ensures.1
    (fails_after (parts.gates ++ parts.slots) parts.headers (parts.ports ∷ opening_calls ∷ [])
    (made_append parts.gates parts.slots _ _ _ c.in_ok-write_gates.ensures closed) failed)

pub write_records-requires : goal.write_records-requires
write_records-requires g c =
    let is = c.requires.plan in
    let closed = rw (is.layout_is, is.area_is) at c.in_ok-close_slots.ensures in
    let headed = rw (is.layout_is, is.area_is, is.header_is) at c.in_ok-write_headers.ensures in
    plan-row _ (laid_out c.args.version c.args.geometry) A _ _ c.args.plan.now
    (omega (arith, c.requires.fits, c.in_ok-write_gates.ensures.after.sectors, closed.after.sectors, headed.after.sectors))
    (blank-records c.args.version c.args.geometry) is

pub returns-in_err-write_records : goal.returns-in_err-write_records
returns-in_err-write_records g c =
    let parts = parts_of c.args.version c.args.geometry in
    let is = c.requires.plan in
    let closed = rw (is.layout_is, is.area_is) at c.in_ok-close_slots.ensures in
    let headed = rw (is.layout_is, is.area_is, is.header_is) at c.in_ok-write_headers.ensures in
    let failed = rw is.records_are at c.in_err-write_records.ensures in
    let written = made_append parts.gates parts.slots _ _ _ c.in_ok-write_gates.ensures closed in
    hands_on _ c.from_residual-in_err-write_records.result c.from_residual-in_err-write_records.ensures.1
    (fails_after (parts.gates ++ parts.slots ++ parts.headers) parts.ports (opening_calls ∷ [])
    (made_append (parts.gates ++ parts.slots) parts.headers _ _ _ written headed) failed)

pub returns : goal.returns
returns g c =
    let parts = parts_of c.args.version c.args.geometry in
    let is = c.requires.plan in
    let closed = rw (is.layout_is, is.area_is) at c.in_ok-close_slots.ensures in
    let headed = rw (is.layout_is, is.area_is, is.header_is) at c.in_ok-write_headers.ensures in
    let recorded = rw is.records_are at c.in_ok-write_records.ensures in
    let written = made_append parts.gates parts.slots _ _ _ c.in_ok-write_gates.ensures closed in
    let behind = made_append (parts.gates ++ parts.slots) parts.headers _ _ _ written headed in
    makes_then (parts.gates ++ parts.slots ++ parts.headers ++ parts.ports) opening_calls _ _
    (made_append (parts.gates ++ parts.slots ++ parts.headers) parts.ports _ _ _ behind recorded)
    c.open_disk.ensures
