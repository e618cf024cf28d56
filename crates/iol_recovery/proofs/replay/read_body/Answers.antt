use Rattle.std.proofs.Common.{◌≡◌, ◌*◌, length, IsTrue, Err, refl, ap, ◌∙◌, arith, rules}
use Rattle.iol_disk.specs.Content.{reads}
use Rattle.iol_disk.specs.declared.disk.TheConstants.{SECTOR_OCTETS}
use Rattle.iol_layout.specs.Body.{head_of}
use Rattle.iol_disk.specs.declared.slot.TheConstants.{BODY_SECTORS}
use Rattle.iol_disk.proofs.Unchanged.{same-then}
use Rattle.std.proofs.lemmas.Result.{err_from_is_err_and}
use Rattle.iol_recovery.specs.declared.cause.RecoverCause.{RecoverCause}
use Rattle.iol_recovery.specs.declared.cause.RecoverCause.TheVariants.{Memory}
use Rattle.iol_recovery.proofs.Wants.{begins_with}
use Rattle.iol_layout.proofs.ReachedBodies.{HaveRead, of_body, first_of_body, one_more_of_body, batch_of-front, holds_records}
use Rattle.iol_recovery.proofs.replay.read_body.Given
use Rattle.iol_recovery.proofs.replay.read_body.Goals as goal

pub loop-j-init : goal.loop-j-init
loop-j-init g c = record {
  room = omega arith;
  same = search rules;
  quiet = refl;
  whole = omega (arith, c.requires.size);
  read = first_of_body (g.D.SectorDisk.disk c.args.disk.now) c.args.slot.body c.args.body.now.items c.requires.first;
}

pub loop-j-preserved : goal.loop-j-preserved
loop-j-preserved g c = record {
  room = omega (arith, c.push_sector.ensures.room, c.loop-j.invariant.room);
  same = same-then _ _ _ c.loop-j.invariant.same c.push_sector.ensures.same;
  quiet = c.in_ok-push_sector.ensures.counted ∙ c.loop-j.invariant.quiet;
  whole = omega (arith, c.in_ok-push_sector.ensures.longer, c.loop-j.invariant.whole);
  read = one_more_of_body (g.D.SectorDisk.disk c.args.disk.now) (g.D.SectorDisk.disk c.loop-j.disk) c.args.slot.body c.loop-j.j
      c.loop-j.body.items c.push_sector.new.body.items
      c.loop-j.invariant.same c.loop-j.invariant.read c.in_ok-push_sector.ensures.pushed;
}

have_read : (g : Given.Over) (c : goal.After-loop-j g) → IsTrue (g.D.SectorDisk.disk c.args.disk.now).honest
    → HaveRead (of_body c.args.slot.body (reads (g.D.SectorDisk.disk c.args.disk.now).content)) 0 c.loop-j.j
    (BODY_SECTORS * c.args.slot.span) c.args.body.now.items c.loop-j.body.items
have_read g c h =
    let front = c.args.body.now.items in
    let told : c.read-octets.result.octets ≡ (head_of front).octets = rw (c.read-octets.ensures, c.deref.ensures.value) refl in
    let whole : length c.loop-j.body.items ≡ SECTOR_OCTETS * c.loop-j.j = c.loop-j.invariant.whole in
    record {
      some = omega arith;
      within = omega (arith, told, c.div_ceil-reached.ensures, c.requires.span);
      first = first_of_body (g.D.SectorDisk.disk c.args.disk.now) c.args.slot.body front c.requires.first h;
      all = c.loop-j.invariant.read h;
      front_size = c.requires.size;
      size = whole;
      reach = omega (arith, told, whole, c.div_ceil-reached.ensures);
    }

pub returns-clause-reads : goal.returns-clause-reads
returns-clause-reads g c = λ h. batch_of-front _ _ _ _ _ _ (have_read g c h)

pub returns-clause-holds : goal.returns-clause-holds
returns-clause-holds g c = λ h. holds_records _ _ _ _ _ _ (have_read g c h)

pub returns-clause-begins : goal.returns-clause-begins
returns-clause-begins g c = λ h. (_, begins_with _ _ _ _ _ _ (have_read g c h))

pub returns-clause-room : goal.returns-clause-room
returns-clause-room g c = c.loop-j.invariant.room

pub returns-in_err-push_sector-clause-room : goal.returns-in_err-push_sector-clause-room
returns-in_err-push_sector-clause-room g c = omega (arith, c.push_sector.ensures.room, c.loop-j.invariant.room)

pub returns-in_err-push_sector-clause-memory : goal.returns-in_err-push_sector-clause-memory
returns-in_err-push_sector-clause-memory g c = λ told.
    let p = err_from_is_err_and c.from_residual.result c.from_residual.ensures.1 in
    let head : c.read-octets.result.octets ≡ (head_of c.args.body.now.items).octets =
    rw (c.read-octets.ensures, c.deref.ensures.value) refl in
    let fault : c.in_err-push_sector.field-0.0 ≡ Memory = let e = p.1 in let f = p.2 in cc in
    omega (
      arith,
      c.in_err-push_sector.ensures.memory (ap (λ (why : RecoverCause). Err why) fault),
      c.loop-j.invariant.room,
      c.loop-j.invariant.whole,
      head,
      c.div_ceil-reached.ensures,
    )
