use Rattle.std.proofs.Common.{◌∷◌, [], refl, ◌∙◌, subst}
use Rattle.iol_disk.specs.Calls.{Call, Makes}
use Rattle.iol_disk.specs.Gate.{open_gate, closed_gate}
use Rattle.iol_journal.specs.BegunParts.{log_of, commands_owed}
use Rattle.iol_journal.specs.Checkpoints.{target}
use Rattle.iol_layout.specs.Header.{header_octets}
use Rattle.iol_layout.specs.Standings.{standing_at}
use Rattle.iol_layout.specs.Layout.{other, renewed, gate_at, header_at}
use Rattle.iol_journal.proofs.BegunCalls.{plan_of, record_below, row_of}
use Rattle.iol_layout.proofs.Plans.{found-there, sector-inside}
use Rattle.iol_journal.proofs.CheckpointSteps.{record-call}
use Rattle.iol_disk.proofs.Making.{makes_write, makes_sync}
use Rattle.iol_journal.proofs.stage_calls.make_stage.Goals as goal

pub returns-in-ClearHeader : goal.returns-in-ClearHeader
returns-in-ClearHeader g c number state is =
    let e = c.write.ensures in
    let place = c.args.place.now in
    let layout = renewed place.layout in
    rw c.in-ClearHeader.is
    (makes_write c.write.result (header_at layout (other place.area)) (header_octets layout.version 0 0) _ _
    (rw (c.renewed-layout.ensures, c.other-area.ensures) at c.header.ensures.at)
    (rw (c.version.ensures, c.renewed-layout.ensures) at c.octets-header.ensures) e.wrote e.wrote_some e.fault)

pub returns-in-CloseGate : goal.returns-in-CloseGate
returns-in-CloseGate g c number state is =
    let e = c.close_gate.ensures in
    let place = c.args.place.now in
    let layout = renewed place.layout in
    rw c.in-CloseGate.is
    (makes_write c.close_gate.result (gate_at layout (other place.area)) closed_gate _ _
    (c.gate-area_gate.ensures ∙ rw (c.renewed-layout.ensures, c.other-area.ensures) at c.gate.ensures.at) refl e.wrote e.wrote_some e.fault)

pub returns-in-CloseSlot : goal.returns-in-CloseSlot
returns-in-CloseSlot g c number state is =
    let plan = plan_of is c.in-CloseSlot.is tt in
    rw c.in-CloseSlot.is (rw (plan.layout_is, plan.area_is) at c.close_slot.ensures)

pub returns-in-WriteHeader : goal.returns-in-WriteHeader
returns-in-WriteHeader g c number state is =
    let plan = plan_of is c.in-WriteHeader.is tt in
    rw c.in-WriteHeader.is (rw (plan.layout_is, plan.area_is, plan.header_is) at c.write_header.ensures)

pub returns-in-WriteRecord : goal.returns-in-WriteRecord
returns-in-WriteRecord g c number state is =
    let d = g.D.SectorDisk.disk in
    let b = c.args.begun.now in
    let plan = plan_of is c.in-WriteRecord.is tt in
    let below = record_below is c.in-WriteRecord.i c.in-WriteRecord.is in
    rw c.in-WriteRecord.is
    (subst (λ (call : Call). Makes (call ∷ []) (d c.args.disk.now) (d c.write-in-WriteRecord.new.disk) c.write-in-WriteRecord.result)
    (record-call (target (standing_at c.args.place.now number state) (log_of b)) (commands_owed b.owed.items) b.plan c.in-WriteRecord.i
    c.index.result.now plan below c.index.ensures) c.write-in-WriteRecord.ensures)

pub returns-in-Carry : goal.returns-in-Carry
returns-in-Carry g c number state is = rw c.in-Carry.is (c.carry.ensures number state is)

pub returns-in-OpenGate : goal.returns-in-OpenGate
returns-in-OpenGate g c number state is =
    let e = c.open_gate.ensures in
    let place = c.args.place.now in
    let layout = renewed place.layout in
    rw c.in-OpenGate.is
    (makes_write c.open_gate.result (gate_at layout (other place.area)) open_gate _ _
    (c.gate-area_gate.ensures ∙ rw (c.renewed-layout.ensures, c.other-area.ensures) at c.gate.ensures.at) refl e.wrote e.wrote_some e.fault)

pub returns-in-SyncHeader : goal.returns-in-SyncHeader
returns-in-SyncHeader g c number state is =
    let e = c.sync.ensures in
    rw c.in-SyncHeader.is (makes_sync c.sync.result _ _ e.synced e.same e.fault)

pub returns-in-SyncClosed : goal.returns-in-SyncClosed
returns-in-SyncClosed g c number state is =
    let e = c.sync-in-SyncClosed.ensures in
    rw c.in-SyncClosed.is (makes_sync c.sync-in-SyncClosed.result _ _ e.synced e.same e.fault)

pub returns-in-SyncSlots : goal.returns-in-SyncSlots
returns-in-SyncSlots g c number state is =
    let e = c.sync-in-SyncSlots.ensures in
    rw c.in-SyncSlots.is (makes_sync c.sync-in-SyncSlots.result _ _ e.synced e.same e.fault)

pub returns-in-SyncRecords : goal.returns-in-SyncRecords
returns-in-SyncRecords g c number state is =
    let e = c.sync-in-SyncRecords.ensures in
    rw c.in-SyncRecords.is (makes_sync c.sync-in-SyncRecords.result _ _ e.synced e.same e.fault)

pub returns-in-SyncOpen : goal.returns-in-SyncOpen
returns-in-SyncOpen g c number state is =
    let e = c.sync-in-SyncOpen.ensures in
    rw c.in-SyncOpen.is (makes_sync c.sync-in-SyncOpen.result _ _ e.synced e.same e.fault)

pub write-requires-in-WriteRecord : goal.write-requires-in-WriteRecord
write-requires-in-WriteRecord g c =
    let is = c.requires.2 in
    let below = record_below is c.in-WriteRecord.i c.in-WriteRecord.is in
    sector-inside _ _ c.in-WriteRecord.i c.index.result.now (row_of is c.in-WriteRecord.is tt)
    (found-there c.args.begun.now.plan.records.items c.in-WriteRecord.i c.index.result.now below c.index.ensures)
