use Rattle.std.proofs.Common.{◌≡◌, ◌+◌, ◌-◌, ◌*◌, ◌<◌, vec_capacity, ℕ, Ok, Err, Result}
use Rattle.std.proofs.Common.{length, take, set, ap, subst, ◌∙◌, refl, sym, arith, rules}
use Rattle.std.proofs.Math.Seq.{take-length}
use Rattle.std.proofs.lemmas.Result.{err_from_is_err_and}
use Rattle.std.proofs.lemmas.List.{take_more_set, length-set}
use Rattle.iol_types.specs.State.{State}
use Rattle.iol_disk.specs.Content.{Image, reads}
use Rattle.iol_layout.specs.Layout.{Layout, port_at}
use Rattle.iol_layout.specs.declared.area.Area.{Area}
use Rattle.iol_layout.specs.Meaning.{Cause, ports_from}
use Rattle.iol_recovery.specs.Reading.{SaysWhy}
use Rattle.iol_disk.proofs.Unchanged.{same-then}
use Rattle.iol_recovery.proofs.Snapshots.{with_front, with_front-none, ports-more, ports-stopped, ports-ended, port_shown}
use Rattle.iol_recovery.specs.declared.cause.RecoverCause.{RecoverCause}
use Rattle.iol_recovery.specs.declared.cause.RecoverCause.TheVariants.{Memory}
use Rattle.iol_disk.specs.declared.disk.TheConstants.{SECTOR_OCTETS}
use Rattle.iol_layout.specs.declared.geometry.TheConstants.{PORT_SECTORS}
use Rattle.iol_recovery.proofs.Wants.{port-wants}
use Rattle.iol_recovery.proofs.snapshot.read_records.Goals as goal

pub loop-place-init : goal.loop-place-init
loop-place-init g c = record {
  same = search rules;
  quiet = refl;
  room = c.requires.room;
  ports = c.requires.ports;
  read = λ h left.
      with_front-none _ ∙ ap (λ (n : ℕ). ports_from c.args.layout c.args.area (reads (g.D.SectorDisk.disk c.args.disk.now).content) 0 n)
      (omega arith);
}

-- the port that was read is that of its record
pub loop-place-preserved : goal.loop-place-preserved
loop-place-preserved g c =
    let old = g.D.SectorDisk.disk c.args.disk.now in
    let kept = c.loop-place.invariant in
    let number = rw c.unwrap.ensures at c.new.ensures.number in
    let place : c.unwrap.result - 1 ≡ c.loop-place.place = omega (arith, number) in
    let stored : c.set_port.new.self ≡ set c.loop-place.state c.loop-place.place c.in_ok-port.port =
    c.set_port.ensures ∙ ap (λ (n : ℕ). set c.loop-place.state n c.in_ok-port.port) place in
    let inside : c.loop-place.place < length c.loop-place.state = omega (arith, kept.ports, c.ports-place-end.ensures.value) in
    record {
      same = same-then _ _ _ kept.same c.read_port.ensures.same;
      quiet = c.in_ok-port.ensures.counted ∙ kept.quiet;
      room = omega (arith, kept.room, c.read_port.ensures.room);
      ports = ap (λ (state : State). length state) stored ∙ length-set c.loop-place.state c.loop-place.place c.in_ok-port.port ∙ kept.ports;
      read = λ h left.
          let here = port_shown old (g.D.SectorDisk.disk c.loop-place.disk) c.args.layout.version c.version-version.result
          (port_at c.args.layout c.args.area c.loop-place.place)
          c.port-sector.result
          c.port_sectors-sectors.result c.args.layout.port_sectors (Ok c.in_ok-port.port) kept.same c.version-version.ensures
          (c.port-sector.ensures.at ∙ ap (port_at c.args.layout c.args.area) c.from.ensures) c.port_sectors-sectors.ensures.value
          c.in_ok-port.ensures.finds h in
          ap (λ (state : State). with_front state (ports_from c.args.layout c.args.area (reads old.content) (c.loop-place.place + 1) left))
          (ap (λ (state : State). take (c.loop-place.place + 1) state) stored
          ∙ take_more_set c.loop-place.state c.loop-place.place c.in_ok-port.port inside)
          ∙ sym (ports-more c.args.layout c.args.area (reads old.content) c.loop-place.place left
          (take c.loop-place.place c.loop-place.state) c.in_ok-port.port here)
          ∙ kept.read h (left + 1)
          ∙ ap (λ (n : ℕ). ports_from c.args.layout c.args.area (reads old.content) 0 n) (omega arith);
    }

pub returns-in_err-port-clause-finds : goal.returns-in_err-port-clause-finds
returns-in_err-port-clause-finds g c = λ h.
    let old = g.D.SectorDisk.disk c.args.disk.now in
    let kept = c.loop-place.invariant in
    let left = c.args.layout.ports - (c.loop-place.place + 1) in
    let p = err_from_is_err_and c.from_residual.result c.from_residual.ensures.1 in
    let here = port_shown old (g.D.SectorDisk.disk c.loop-place.disk) c.args.layout.version c.version-version.result
    (port_at c.args.layout c.args.area c.loop-place.place)
    c.port-sector.result
    c.port_sectors-sectors.result c.args.layout.port_sectors (Err c.in_err-port.field-0.0) kept.same c.version-version.ensures
    (c.port-sector.ensures.at ∙ ap (port_at c.args.layout c.args.area) c.from.ensures) c.port_sectors-sectors.ensures.value
    c.in_err-port.ensures.finds h in
    rw (p.1, p.2)
    (subst (λ (ports : Result State Cause). SaysWhy ports c.in_err-port.field-0.0)
    (kept.read h (left + 1)
    ∙ ap (λ (n : ℕ). ports_from c.args.layout c.args.area (reads old.content) 0 n) (omega (arith, c.ports-place-end.ensures.value)))
    (ports-stopped c.args.layout c.args.area (reads old.content) c.loop-place.place left (take c.loop-place.place c.loop-place.state)
    c.in_err-port.field-0.0 here))

-- the ports before a place were read
before : (layout : Layout) (a : Area) (image : Image) (place : ℕ) (state : State)
    → with_front (take place state) (ports_from layout a image place 0) ≡ ports_from layout a image 0 (place + 0)
    → ports_from layout a image 0 place ≡ Ok (take place state)
before layout a image place state read =
    let count : place ≡ place + 0 = omega arith in
    ap (λ (n : ℕ). ports_from layout a image 0 n) count ∙ sym read ∙ ports-ended layout a image place _

pub returns-clause-finds : goal.returns-clause-finds
returns-clause-finds g c = λ h.
    let done : c.loop-place.place ≡ c.args.layout.ports = omega (arith, c.ports-place-end.ensures.value) in
    let place : c.loop-place.place ≡ length c.loop-place.state = omega (arith, done, c.loop-place.invariant.ports) in
    let all : take c.loop-place.place c.loop-place.state ≡ c.loop-place.state =
    ap (λ (n : ℕ). take n c.loop-place.state) place ∙ take-length c.loop-place.state in
    ap (λ (n : ℕ). ports_from c.args.layout c.args.area (reads (g.D.SectorDisk.disk c.args.disk.now).content) 0 n) (sym done)
    ∙ before _ _ _ _ _ (c.loop-place.invariant.read h 0) ∙ ap (λ (state : State). Ok state) all

pub returns-in_err-port-clause-memory : goal.returns-in_err-port-clause-memory
returns-in_err-port-clause-memory g c = λ told h.
    let old = g.D.SectorDisk.disk c.args.disk.now in
    let kept = c.loop-place.invariant in
    let p = err_from_is_err_and c.from_residual.result c.from_residual.ensures.1 in
    let fault : c.in_err-port.field-0.0 ≡ Memory = let e = p.1 in let f = p.2 in cc in
    let here = port-wants old (g.D.SectorDisk.disk c.loop-place.disk) c.args.layout.version c.version-version.result
    (port_at c.args.layout c.args.area c.loop-place.place) c.port-sector.result
    c.port_sectors-sectors.result c.args.layout.port_sectors (vec_capacity c.loop-place.octets) (PORT_SECTORS * SECTOR_OCTETS)
    kept.same c.version-version.ensures
    (c.port-sector.ensures.at ∙ ap (port_at c.args.layout c.args.area) c.from.ensures) c.port_sectors-sectors.ensures.value kept.room
    (c.in_err-port.ensures.memory (ap (λ (why : RecoverCause). Err why) fault)) h in
    (c.loop-place.place, _, omega (arith, c.loop-place-test.true, c.ports-place-end.ensures.value), before _ _ _ _ _ (kept.read h 0), here)
