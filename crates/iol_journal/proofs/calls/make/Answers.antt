use Rattle.std.proofs.Common.{◌+◌, refl, arith}
use Rattle.iol_disk.specs.Gate.{open_gate}
use Rattle.iol_layout.specs.Octets.{sector_of}
use Rattle.iol_layout.specs.Layout.{slot_at, body_at}
use Rattle.iol_layout.proofs.Spans.{slots-inside}
use Rattle.iol_disk.proofs.Making.{makes_write, makes_sync}
use Rattle.iol_journal.proofs.calls.make.Goals as goal

pub returns-in-Body : goal.returns-in-Body
returns-in-Body g c = record {
  makes = λ number state.
      let d = g.D.SectorDisk.disk in
      let place = c.args.place.now in
      let body = c.args.body.now.octets.items in
      let j = c.in-Body.j in
      let e = c.write_sector.ensures in
      rw c.in-Body.is
      (makes_write c.write_sector.result (body_at place.layout place.area place.used j) (sector_of body j) _ _
      (omega (arith, c.slot-slot.ensures.body)) (rw (← c.deref.ensures.value) c.copy_from_slice.ensures.after) e.wrote e.wrote_some
      e.fault);
}

pub returns-in-SyncBody : goal.returns-in-SyncBody
returns-in-SyncBody g c = record {
  makes = λ number state.
      let e = c.sync.ensures in
      rw c.in-SyncBody.is (makes_sync c.sync.result _ _ e.synced e.same e.fault);
}

pub returns-in-Gate : goal.returns-in-Gate
returns-in-Gate g c = record {
  makes = λ number state.
      let place = c.args.place.now in
      let e = c.open_gate.ensures in
      rw c.in-Gate.is
      (makes_write c.open_gate.result (slot_at place.layout place.area place.used) open_gate _ _ c.slot-slot.ensures.gate refl e.wrote
      e.wrote_some e.fault);
}

pub returns-in-SyncGate : goal.returns-in-SyncGate
returns-in-SyncGate g c = record {
  makes = λ number state.
      let e = c.sync-in-SyncGate.ensures in
      rw c.in-SyncGate.is (makes_sync c.sync-in-SyncGate.result _ _ e.synced e.same e.fault);
}

pub copy_from_slice-requires : goal.copy_from_slice-requires
copy_from_slice-requires g c = omega arith

pub write_sector-requires-clause-fits : goal.write_sector-requires-clause-fits
write_sector-requires-clause-fits g c = let place = c.args.place.now in
    omega (
      arith,
      c.requires.fits,
      slots-inside place.layout place.area (place.used + c.args.body.now.span) c.requires.room,
      c.slot-slot.ensures.gate,
      c.slot-slot.ensures.span,
    )

pub open_gate-requires : goal.open_gate-requires
open_gate-requires g c = let place = c.args.place.now in
    omega (
      arith,
      c.requires.fits,
      slots-inside place.layout place.area (place.used + c.args.body.now.span) c.requires.room,
      c.slot-slot.ensures.gate,
      c.requires.some,
    )
