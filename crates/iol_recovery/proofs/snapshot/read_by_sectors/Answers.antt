use Rattle.std.proofs.Common.{◌+◌, ◌++◌, List, ℕ, IsOk, inr, refl, sym, ap, subst, ◌∙◌, arith, rules}
use Rattle.std.proofs.lemmas.Grind.{common_steps}
use Rattle.iol_disk.specs.Content.{reads}
use Rattle.iol_record.specs.Reading.{port_record_at, port_begun_at}
use Rattle.iol_record.specs.declared.fault.RecordFault.TheVariants.{BadTag, BadField}
use Rattle.iol_record.proofs.RecordLaws.{port_record_at-nothing}
use Rattle.iol_recovery.proofs.PortReadings.{none-read, port-read, port-damaged}
use Rattle.iol_layout.proofs.ReachedBodies.{one_more}
use Rattle.iol_disk.proofs.Unchanged.{same-then}
use Rattle.iol_recovery.proofs.snapshot.read_by_sectors.Goals as goal

pub loop-j-init : goal.loop-j-init
loop-j-init g c = record {
  room = search rules;
  whole = grind (arith, common_steps);
  same = search rules;
  quiet = refl;
  read = λ h. c.clear.ensures.items ∙ none-read (reads (g.D.SectorDisk.disk c.args.disk.now).content) c.args.sector;
  short = ap (port_record_at c.args.version) c.clear.ensures.items ∙ port_record_at-nothing c.args.version;
}

pub returns-in-Ok-clause-finds : goal.returns-in-Ok-clause-finds
returns-in-Ok-clause-finds g c = λ h.
    let old = g.D.SectorDisk.disk c.args.disk.now in
    let kept = c.loop-j.invariant in
    let read = one_more old (g.D.SectorDisk.disk c.loop-j.disk) c.args.sector c.loop-j.j c.loop-j.octets.items
    c.extend_from_slice.new.self.items kept.same kept.read
    (λ now. c.in_ok-extend_from_slice.ensures.items
    ∙ ap (λ (more : List ℕ). c.loop-j.octets.items ++ more) (c.in_ok-read_sector.ensures.read now)) in
    port-read c.args.version (reads old.content) c.args.sector c.args.sectors (c.loop-j.j + 1) c.extend_from_slice.new.self.items (read h)
    (omega (arith, c.loop-j-test.true)) c.in-Ok.port _
    (ap (port_record_at c.args.version) (sym c.deref.ensures.value) ∙ c.in-Ok.ensures.exact)

pub loop-j-preserved : goal.loop-j-preserved
loop-j-preserved g c =
    let old = g.D.SectorDisk.disk c.args.disk.now in
    let kept = c.loop-j.invariant in
    record {
      room = omega (arith, c.extend_from_slice.ensures.capacity, kept.room);
      whole = omega (arith, c.in_ok-extend_from_slice.ensures.len, kept.whole);
      same = same-then _ _ _ kept.same c.read_sector.ensures.same;
      quiet = c.in_ok-read_sector.ensures.fault ∙ kept.quiet;
      read = one_more old (g.D.SectorDisk.disk c.loop-j.disk) c.args.sector c.loop-j.j c.loop-j.octets.items
          c.extend_from_slice.new.self.items kept.same kept.read
          (λ now. c.in_ok-extend_from_slice.ensures.items
          ∙ ap (λ (more : List ℕ). c.loop-j.octets.items ++ more) (c.in_ok-read_sector.ensures.read now));
      short = ap (port_record_at c.args.version) (sym c.deref.ensures.value) ∙ rw c.in-Err-Short.field-0-is at c.in-Err-Short.ensures.exact;
    }

pub returns-in-Err-BadTag-clause-finds : goal.returns-in-Err-BadTag-clause-finds
returns-in-Err-BadTag-clause-finds g c = λ h.
    let old = g.D.SectorDisk.disk c.args.disk.now in
    let kept = c.loop-j.invariant in
    let read = one_more old (g.D.SectorDisk.disk c.loop-j.disk) c.args.sector c.loop-j.j c.loop-j.octets.items
    c.extend_from_slice.new.self.items kept.same kept.read
    (λ now. c.in_ok-extend_from_slice.ensures.items
    ∙ ap (λ (more : List ℕ). c.loop-j.octets.items ++ more) (c.in_ok-read_sector.ensures.read now)) in
    port-damaged c.args.version (reads old.content) c.args.sector c.args.sectors (c.loop-j.j + 1) c.extend_from_slice.new.self.items
    (read h)
    (omega (arith, c.loop-j-test.true)) BadTag
    (λ is. cc) (ap (port_record_at c.args.version) (sym c.deref.ensures.value)
    ∙ rw c.in-Err-BadTag.field-0-is at c.in-Err-BadTag.ensures.exact)

pub returns-in-Err-BadField-clause-finds : goal.returns-in-Err-BadField-clause-finds
returns-in-Err-BadField-clause-finds g c = λ h.
    let old = g.D.SectorDisk.disk c.args.disk.now in
    let kept = c.loop-j.invariant in
    let read = one_more old (g.D.SectorDisk.disk c.loop-j.disk) c.args.sector c.loop-j.j c.loop-j.octets.items
    c.extend_from_slice.new.self.items kept.same kept.read
    (λ now. c.in_ok-extend_from_slice.ensures.items
    ∙ ap (λ (more : List ℕ). c.loop-j.octets.items ++ more) (c.in_ok-read_sector.ensures.read now)) in
    port-damaged c.args.version (reads old.content) c.args.sector c.args.sectors (c.loop-j.j + 1) c.extend_from_slice.new.self.items
    (read h)
    (omega (arith, c.loop-j-test.true)) BadField
    (λ is. cc) (ap (port_record_at c.args.version) (sym c.deref.ensures.value)
    ∙ rw c.in-Err-BadField.field-0-is at c.in-Err-BadField.ensures.exact)

pub returns-in-Err-Memory-clause-memory : goal.returns-in-Err-Memory-clause-memory
returns-in-Err-Memory-clause-memory g c = λ told h.
    let old = g.D.SectorDisk.disk c.args.disk.now in
    let kept = c.loop-j.invariant in
    let read = one_more old (g.D.SectorDisk.disk c.loop-j.disk) c.args.sector c.loop-j.j c.loop-j.octets.items
    c.extend_from_slice.new.self.items kept.same kept.read
    (λ now. c.in_ok-extend_from_slice.ensures.items
    ∙ ap (λ (more : List ℕ). c.loop-j.octets.items ++ more) (c.in_ok-read_sector.ensures.read now)) h in
    let begun : IsOk (port_begun_at c.args.version c.extend_from_slice.new.self.items) =
    rw (c.in-Err-Memory.field-0-is, c.deref.ensures.value) at c.in-Err-Memory.ensures.exact in (
      c.loop-j.j,
      omega (arith, c.loop-j-test.true),
      ap (port_record_at c.args.version) (sym (kept.read h)) ∙ kept.short,
      inr (subst (λ (octets : List ℕ). IsOk (port_begun_at c.args.version octets)) read begun),
    )
