use Rattle.std.proofs.Common.{◌≡◌, ◌≤◌, ◌<◌, ◌+◌, ◌-◌, ℕ, List, IsTrue, Err, inl, inr, true, false, ap, subst, ◌∙◌, refl, sym, arith, rules}
use Rattle.std.proofs.lemmas.Result.{err_from_is_err_and}
use Rattle.iol_disk.specs.Content.{reads}
use Rattle.iol_layout.specs.Layout.{slot_at}
use Rattle.iol_layout.specs.Body.{batch_of}
use Rattle.iol_layout.specs.Meaning.{body_in, log_from}
use Rattle.iol_recovery.specs.Replay.{reached}
use Rattle.iol_recovery.specs.Wants.{BatchWants}
use Rattle.iol_recovery.specs.declared.cause.RecoverCause.{RecoverCause}
use Rattle.iol_recovery.specs.declared.cause.RecoverCause.TheVariants.{Memory}
use Rattle.iol_recovery.specs.declared.replay.End.{End}
use Rattle.iol_recovery.proofs.Wants.{slot-wants, body_read, wants-longer}
use Rattle.iol_layout.proofs.Spans.{slots-inside}
use Rattle.iol_disk.proofs.Unchanged.{same-honest, same-then, failed_after}
use Rattle.iol_recovery.proofs.Readings.{counted_after, fault-says_nothing}
use Rattle.iol_recovery.proofs.SlotLogs.{log-span, log-stuck, log-past, log-closed, gate_read, batch_read, span_read}
use Rattle.iol_recovery.proofs.replay.replay_open_slots.Goals as goal

pub loop-used-init : goal.loop-used-init
loop-used-init g c = record {
  room = c.requires.room;
  front = λ h left.
      ap (λ (n : ℕ). log_from c.args.layout c.args.area c.args.header.epoch (reads (g.D.SectorDisk.disk c.args.disk.now).content) 0 0 n
      c.args.header.base c.args.state.now) (omega arith);
  same = search rules;
  quiet = refl;
  within = omega arith;
  later = omega arith;
  in_use = λ some. absurd (omega (arith, some));
  bound = c.requires.base;
  ports = refl;
  read = λ h left is.
      let all : left ≡ c.args.layout.slots = omega arith in
      ap (λ (n : ℕ). log_from c.args.layout c.args.area c.args.header.epoch (reads (g.D.SectorDisk.disk c.args.disk.now).content) 0 0 n
      c.args.header.base c.args.state.now) all;
}

pub loop-used-preserved : goal.loop-used-preserved
loop-used-preserved g c =
    let old = g.D.SectorDisk.disk c.args.disk.now in
    let kept = c.loop-used.invariant in
    let opened = gate_read old (g.D.SectorDisk.disk c.loop-used.disk) (slot_at c.args.layout c.args.area c.loop-used.used)
    c.slot-slot.result.gate _ true
    kept.same c.slot-slot.ensures.gate c.in_ok-is_open.ensures.open c.if-not-branch.false in
    let same_1 = same-then old (g.D.SectorDisk.disk c.loop-used.disk) (g.D.SectorDisk.disk c.is_open.new.disk) kept.same
    c.is_open.ensures.same in
    let same = same-then old (g.D.SectorDisk.disk c.is_open.new.disk) (g.D.SectorDisk.disk c.read_head.new.disk) same_1
    c.read_head.ensures.same in
    let batch = batch_read old (g.D.SectorDisk.disk c.read_head.new.disk) c.args.layout c.args.area c.loop-used.used c.slot.result.body
    c.slot.result.span c.read_body.new.body.items
    same c.slot.ensures.body c.in_ok-read_body.ensures.reads in
    let span = span_read old (g.D.SectorDisk.disk c.is_open.new.disk) c.args.layout c.args.area c.loop-used.used c.slot-slot.result.body
    c.in_ok-span.span c.read_head.new.body.items
    same_1 c.slot-slot.ensures.body c.in_ok-span.ensures.reads c.in_ok-span.ensures.span in
    let some : 1 ≤ c.in_ok-span.span = omega (arith, c.in_ok-span.ensures.span) in
    let after = rw c.in-Some.is at c.in_ok-number.ensures.later in
    let replayed = rw (c.in-Some.is, c.deref.ensures.value, c.version-version.ensures) at c.in_ok-number.ensures.reached in
    let leads = λ (h : IsTrue old.honest) (left : ℕ).
    log-span c.args.layout c.args.area c.args.header.epoch (reads old.content) c.loop-used.used c.in_ok-span.span left
    c.loop-used.number c.loop-used.state _
    (opened h) some (span h)
    (ap (λ (i : ℕ). reached c.loop-used.number c.loop-used.state
    (batch_of c.args.layout.version c.args.header.epoch (c.loop-used.number + 1)
    (body_in c.args.layout c.args.area (reads old.content) c.loop-used.used i))) (sym c.slot.ensures.span)
    ∙ ap (reached c.loop-used.number c.loop-used.state) (batch h c.args.layout.version c.args.header.epoch (c.loop-used.number + 1))
    ∙ replayed (c.in_ok-read_body.ensures.holds (same-honest _ _ same h))) in
    record {
      same = same-then _ _ _ same c.read_body.ensures.same;
      quiet = c.in_ok-read_body.ensures.counted ∙ c.in_ok-span.ensures.counted ∙ c.in_ok-is_open.ensures.fault ∙ kept.quiet;
      within = omega (arith, c.if-slots-used.false, c.slots-in-loop-used.ensures, kept.within);
      later = omega (arith, kept.later, after);
      in_use = λ used. omega (arith, kept.later, after);
      bound = omega (arith, after);
      ports = c.in_ok-number.ensures.ports ∙ kept.ports;
      room = omega (arith, kept.room, c.read_head.ensures.room, c.read_body.ensures.room);
      front = λ h left.
          sym (leads h left) ∙ kept.front h (left + c.in_ok-span.span)
          ∙ ap (λ (n : ℕ). log_from c.args.layout c.args.area c.args.header.epoch (reads old.content) 0 0 n c.args.header.base
          c.args.state.now) (omega arith);
      read = λ h left is. sym (leads h left) ∙ kept.read h (left + c.in_ok-span.span) (omega (arith, is));
    }

pub returns-then-not-branch-clause-finds : goal.returns-then-not-branch-clause-finds
returns-then-not-branch-clause-finds g c = λ h.
    let old = g.D.SectorDisk.disk c.args.disk.now in
    let left = c.args.layout.slots - (c.loop-used.used + 1) in
    let closed = gate_read old (g.D.SectorDisk.disk c.loop-used.disk) (slot_at c.args.layout c.args.area c.loop-used.used)
    c.slot-slot.result.gate _ false
    c.loop-used.invariant.same c.slot-slot.ensures.gate c.in_ok-is_open.ensures.open c.if-not-branch.true in
    sym (c.loop-used.invariant.read h (left + 1) (omega arith))
    ∙ log-closed c.args.layout c.args.area c.args.header.epoch (reads old.content) c.loop-used.used left c.loop-used.number
    c.loop-used.state (closed h)

pub returns-then-slots-used-clause-finds : goal.returns-then-slots-used-clause-finds
returns-then-slots-used-clause-finds g c = λ h.
    let old = g.D.SectorDisk.disk c.args.disk.now in
    let kept = c.loop-used.invariant in
    let left = c.args.layout.slots - (c.loop-used.used + 1) in
    let opened = gate_read old (g.D.SectorDisk.disk c.loop-used.disk) (slot_at c.args.layout c.args.area c.loop-used.used)
    c.slot-slot.result.gate _ true
    kept.same c.slot-slot.ensures.gate c.in_ok-is_open.ensures.open c.if-not-branch.false in
    let same_1 = same-then old (g.D.SectorDisk.disk c.loop-used.disk) (g.D.SectorDisk.disk c.is_open.new.disk) kept.same
    c.is_open.ensures.same in
    let span = span_read old (g.D.SectorDisk.disk c.is_open.new.disk) c.args.layout c.args.area c.loop-used.used c.slot-slot.result.body
    c.in_ok-span.span c.read_head.new.body.items
    same_1 c.slot-slot.ensures.body c.in_ok-span.ensures.reads c.in_ok-span.ensures.span in
    rw c.slot-slot.ensures.body
    (sym (kept.read h (left + 1) (omega arith))
    ∙ log-past c.args.layout c.args.area c.args.header.epoch (reads old.content) c.loop-used.used c.in_ok-span.span left
    c.loop-used.number c.loop-used.state (opened h) (span h)
    (omega (arith, c.if-slots-used.true, c.slots-in-loop-used.ensures)))

pub returns-in-None-clause-finds : goal.returns-in-None-clause-finds
returns-in-None-clause-finds g c = λ h.
    let old = g.D.SectorDisk.disk c.args.disk.now in
    let kept = c.loop-used.invariant in
    let n = c.in_ok-span.span in
    let left = c.args.layout.slots - (c.loop-used.used + n) in
    let some : 1 ≤ n = omega (arith, c.in_ok-span.ensures.span) in
    let opened = gate_read old (g.D.SectorDisk.disk c.loop-used.disk) (slot_at c.args.layout c.args.area c.loop-used.used)
    c.slot-slot.result.gate _ true
    kept.same c.slot-slot.ensures.gate c.in_ok-is_open.ensures.open c.if-not-branch.false in
    let same_1 = same-then old (g.D.SectorDisk.disk c.loop-used.disk) (g.D.SectorDisk.disk c.is_open.new.disk) kept.same
    c.is_open.ensures.same in
    let same = same-then old (g.D.SectorDisk.disk c.is_open.new.disk) (g.D.SectorDisk.disk c.read_head.new.disk) same_1
    c.read_head.ensures.same in
    let batch = batch_read old (g.D.SectorDisk.disk c.read_head.new.disk) c.args.layout c.args.area c.loop-used.used c.slot.result.body
    c.slot.result.span c.read_body.new.body.items
    same c.slot.ensures.body c.in_ok-read_body.ensures.reads in
    let span = span_read old (g.D.SectorDisk.disk c.is_open.new.disk) c.args.layout c.args.area c.loop-used.used c.slot-slot.result.body n
    c.read_head.new.body.items
    same_1 c.slot-slot.ensures.body c.in_ok-span.ensures.reads c.in_ok-span.ensures.span in
    let holds = c.in_ok-read_body.ensures.holds (same-honest _ _ same h) in
    let leads = (rw (c.in-None.is, c.deref.ensures.value, c.version-version.ensures) at c.in_ok-number.ensures.reached) holds in
    let spans : c.slot.result.span ≡ n = c.slot.ensures.span in
    rw c.slot-slot.ensures.body
    (sym (kept.read h (left + n) (omega (arith, c.if-slots-used.false, c.slots-in-loop-used.ensures, kept.within)))
    ∙ log-stuck c.args.layout c.args.area c.args.header.epoch (reads old.content) c.loop-used.used n left c.loop-used.number
    c.loop-used.state
    (opened h) some (span h)
    (ap (λ (i : ℕ). reached c.loop-used.number c.loop-used.state
    (batch_of c.args.layout.version c.args.header.epoch (c.loop-used.number + 1)
    (body_in c.args.layout c.args.area (reads old.content) c.loop-used.used i))) (sym spans)
    ∙ ap (reached c.loop-used.number c.loop-used.state) (batch h c.args.layout.version c.args.header.epoch (c.loop-used.number + 1))
    ∙ leads))

pub returns-clause-finds : goal.returns-clause-finds
returns-clause-finds g c = λ h.
    sym (c.loop-used.invariant.read h 0 (omega (arith, c.loop-used.invariant.within, c.loop-used-test.false, c.slots.ensures)))

pub loop-used-smaller : goal.loop-used-smaller
loop-used-smaller g c = let some : 1 ≤ c.in_ok-span.span = omega (arith, c.in_ok-span.ensures.span) in
    omega (arith, some, c.if-slots-used.false, c.slots-in-loop-used.ensures)

-- ---- the exits at a fault

pub returns-in_err-is_open-clause-finds : goal.returns-in_err-is_open-clause-finds
returns-in_err-is_open-clause-finds g c =
    let p = err_from_is_err_and c.from_residual.result c.from_residual.ensures.1 in rw (p.1, p.2) (λ h. tt)

pub returns-in_err-is_open-clause-counted : goal.returns-in_err-is_open-clause-counted
returns-in_err-is_open-clause-counted g c =
    let d = g.D.SectorDisk.disk in
    let e = c.in_err-is_open.ensures.fault in
    let p = err_from_is_err_and c.from_residual.result c.from_residual.ensures.1 in
    rw (p.1, p.2) (e.0, failed_after (d c.args.disk.now) (d c.loop-used.disk) (d c.is_open.new.disk) c.loop-used.invariant.quiet e.1)

pub returns-in_err-read_body-clause-finds : goal.returns-in_err-read_body-clause-finds
returns-in_err-read_body-clause-finds g c =
    let p = err_from_is_err_and c.from_residual-in_err-read_body.result c.from_residual-in_err-read_body.ensures.1 in
    rw (p.1, p.2) (λ h. fault-says_nothing _ _ c.in_err-read_body.ensures.fault)

pub returns-in_err-read_body-clause-counted : goal.returns-in_err-read_body-clause-counted
returns-in_err-read_body-clause-counted g c =
    let d = g.D.SectorDisk.disk in
    let quiet = c.in_ok-span.ensures.counted ∙ c.in_ok-is_open.ensures.fault ∙ c.loop-used.invariant.quiet in
    let p = err_from_is_err_and c.from_residual-in_err-read_body.result c.from_residual-in_err-read_body.ensures.1 in
    rw (p.1, p.2) (counted_after End _ (d c.args.disk.now) (d c.read_head.new.disk) (d c.read_body.new.disk) quiet
    c.in_err-read_body.ensures.counted)

-- ---- where memory is needed

pub returns-in_err-read_body-clause-memory : goal.returns-in_err-read_body-clause-memory
returns-in_err-read_body-clause-memory g c = λ told h.
    let old = g.D.SectorDisk.disk c.args.disk.now in
    let kept = c.loop-used.invariant in
    let opened = gate_read old (g.D.SectorDisk.disk c.loop-used.disk) (slot_at c.args.layout c.args.area c.loop-used.used)
    c.slot-slot.result.gate _ true
    kept.same c.slot-slot.ensures.gate c.in_ok-is_open.ensures.open c.if-not-branch.false in
    let same = same-then old (g.D.SectorDisk.disk c.loop-used.disk) (g.D.SectorDisk.disk c.is_open.new.disk) kept.same
    c.is_open.ensures.same in
    let span = span_read old (g.D.SectorDisk.disk c.is_open.new.disk) c.args.layout c.args.area c.loop-used.used c.slot-slot.result.body
    c.in_ok-span.span c.read_head.new.body.items
    same c.slot-slot.ensures.body c.in_ok-span.ensures.reads c.in_ok-span.ensures.span h in
    let p = err_from_is_err_and c.from_residual-in_err-read_body.result c.from_residual-in_err-read_body.ensures.1 in
    let fault : c.in_err-read_body.field-0.0 ≡ Memory = let e = p.1 in let f = p.2 in cc in
    let full = c.in_err-read_body.ensures.memory (ap (λ (why : RecoverCause). Err why) fault) in
    let long : 1 < c.in_ok-span.span = omega (arith, full, kept.room, c.read_head.ensures.room, c.in_ok-span.ensures.span) in
    slot-wants c.args.layout c.args.area c.args.header.epoch (reads old.content) c.loop-used.used c.args.header.base c.args.state.now
    c.loop-used.number c.loop-used.state c.in_ok-span.span (kept.front h 0) (opened h) span
    (omega (arith, c.loop-used-test.true, c.slots.ensures))
    (omega (arith, c.if-slots-used.false, c.slots-in-loop-used.ensures, kept.within))
    (inl long)

pub returns-in_err-number-clause-memory : goal.returns-in_err-number-clause-memory
returns-in_err-number-clause-memory g c = λ told h.
    let old = g.D.SectorDisk.disk c.args.disk.now in
    let kept = c.loop-used.invariant in
    let image = reads old.content in
    let opened = gate_read old (g.D.SectorDisk.disk c.loop-used.disk) (slot_at c.args.layout c.args.area c.loop-used.used)
    c.slot-slot.result.gate _ true
    kept.same c.slot-slot.ensures.gate c.in_ok-is_open.ensures.open c.if-not-branch.false in
    let same_1 = same-then old (g.D.SectorDisk.disk c.loop-used.disk) (g.D.SectorDisk.disk c.is_open.new.disk) kept.same
    c.is_open.ensures.same in
    let same = same-then old (g.D.SectorDisk.disk c.is_open.new.disk) (g.D.SectorDisk.disk c.read_head.new.disk) same_1
    c.read_head.ensures.same in
    let span = span_read old (g.D.SectorDisk.disk c.is_open.new.disk) c.args.layout c.args.area c.loop-used.used c.slot-slot.result.body
    c.in_ok-span.span c.read_head.new.body.items
    same_1 c.slot-slot.ensures.body c.in_ok-span.ensures.reads c.in_ok-span.ensures.span h in
    let body = c.read_body.new.body.items in
    let begins = body_read old (g.D.SectorDisk.disk c.read_head.new.disk) c.args.layout c.args.area c.loop-used.used c.slot.result.body
    c.slot.result.span body same c.slot.ensures.body c.in_ok-read_body.ensures.begins h in
    let wants : BatchWants c.args.layout.version c.args.header.epoch (c.loop-used.number + 1) c.loop-used.state body =
    rw (c.deref.ensures.value, c.version-version.ensures) at c.in_err-number.ensures.memory in
    let longer : BatchWants c.args.layout.version c.args.header.epoch (c.loop-used.number + 1) c.loop-used.state
    (body_in c.args.layout c.args.area image c.loop-used.used c.slot.result.span) =
    subst (λ (octets : List ℕ). BatchWants c.args.layout.version c.args.header.epoch (c.loop-used.number + 1) c.loop-used.state octets)
    (sym begins.1) (wants-longer _ _ _ _ body begins.0 wants) in
    slot-wants c.args.layout c.args.area c.args.header.epoch image c.loop-used.used c.args.header.base c.args.state.now
    c.loop-used.number c.loop-used.state c.in_ok-span.span (kept.front h 0) (opened h) span
    (omega (arith, c.loop-used-test.true, c.slots.ensures))
    (omega (arith, c.if-slots-used.false, c.slots-in-loop-used.ensures, kept.within))
    (inr (subst (λ (n : ℕ). BatchWants c.args.layout.version c.args.header.epoch (c.loop-used.number + 1) c.loop-used.state
    (body_in c.args.layout c.args.area image c.loop-used.used n)) c.slot.ensures.span longer))

-- ---- each slot is on the disk

pub is_open-requires : goal.is_open-requires
is_open-requires g c =
    omega (
      arith,
      c.requires.fits,
      slots-inside c.args.layout c.args.area (c.loop-used.used + 1) (omega (arith, c.loop-used-test.true, c.slots.ensures)),
      c.slot-slot.ensures.gate,
      c.loop-used.invariant.same.sectors,
    )

pub read_body-requires-clause-fits : goal.read_body-requires-clause-fits
read_body-requires-clause-fits g c =
    omega (
      arith,
      c.requires.fits,
      slots-inside c.args.layout c.args.area (c.loop-used.used + c.in_ok-span.span)
          (omega (arith, c.if-slots-used.false, c.slots-in-loop-used.ensures, c.loop-used.invariant.within)),
      c.slot.ensures.gate,
      c.slot.ensures.span,
      c.loop-used.invariant.same.sectors,
      c.is_open.ensures.same.sectors,
      c.read_head.ensures.same.sectors,
    )

pub returns-then-not-branch-clause-ports : goal.returns-then-not-branch-clause-ports
returns-then-not-branch-clause-ports g c = c.loop-used.invariant.ports

pub returns-clause-ports : goal.returns-clause-ports
returns-clause-ports g c = c.loop-used.invariant.ports
