use Rattle.std.proofs.Common.{◌≡◌, length, map, take, ℕ, List, [], refl, sym, ◌∙◌, ap, subst, arith, rules}
use Rattle.std.proofs.Math.Seq.{take-length}
use Rattle.std.proofs.lemmas.List.{length-map}
use Rattle.iol_disk.specs.Calls.{Call, Made}
use Rattle.iol_disk.proofs.DiskLaws.{made_none}
use Rattle.iol_layout.specs.AreaPlans.{write_of}
use Rattle.iol_layout.specs.AreaWrites.{IsRow}
use Rattle.iol_layout.specs.declared.records.RecordSector.{RecordSector}
use Rattle.iol_layout.proofs.Plans.{shown-there, sector-inside}
use Rattle.iol_disk.proofs.Making.{hands_on, made_next, failed_next}
use Rattle.iol_layout.proofs.area_plan.AreaPlan.write_records.Goals as goal

pub loop-record-init : goal.loop-record-init
loop-record-init g c = made_none _ _ (search rules) refl

pub write-requires : goal.write-requires
write-requires g c =
    let there = shown-there _ _ c.loop-record.record-index (record { sector = 0; octets = [] }) c.deref-record-items.ensures.value
    c.loop-record-test.true in
    let row = subst (λ (n : ℕ). IsRow 0 n (map write_of c.args.self.now.records.items)) (sym c.loop-record.invariant.after.sectors)
    c.requires in
    sector-inside _ _ c.loop-record.record-index _ row there

pub returns-in_err-write : goal.returns-in_err-write
returns-in_err-write g c =
    let there = shown-there _ _ c.loop-record.record-index (record { sector = 0; octets = [] }) c.deref-record-items.ensures.value
    c.loop-record-test.true in
    hands_on _ c.from_residual.result c.from_residual.ensures.1
    (failed_next _ c.loop-record.record-index _ there c.loop-record.invariant c.in_err-write.was c.write.ensures)

pub loop-record-preserved : goal.loop-record-preserved
loop-record-preserved g c =
    let there = shown-there _ _ c.loop-record.record-index (record { sector = 0; octets = [] }) c.deref-record-items.ensures.value
    c.loop-record-test.true in
    made_next _ c.loop-record.record-index _ there c.loop-record.invariant c.in_ok-write.was c.write.ensures

pub returns : goal.returns
returns g c =
    let d = g.D.SectorDisk.disk in
    let calls = map write_of c.args.self.now.records.items in
    let shown = ap (λ (items : List RecordSector). length items) c.deref-record-items.ensures.value in
    let all : c.loop-record.record-index ≡ length calls =
    omega (
      arith,
      shown,
      length-map c.args.self.now.records.items write_of,
      c.loop-record-test.false,
      c.loop-record.auto.record-index-end,
    ) in
    subst (λ (made : List Call). Made made (d c.args.disk.now) (d c.loop-record.disk)) (ap (λ (n : ℕ). take n calls) all
    ∙ take-length calls) c.loop-record.invariant
