use Rattle.std.proofs.Common.{◌+◌, ◌++◌, List, ℕ, refl, ap, ◌∙◌, arith, rules}
use Rattle.iol_disk.specs.Content.{reads}
use Rattle.iol_recovery.proofs.PortReadings.{none-read}
use Rattle.iol_layout.proofs.ReachedBodies.{one_more}
use Rattle.iol_disk.proofs.Unchanged.{same-then}
use Rattle.iol_recovery.proofs.snapshot.read_reached.Goals as goal

pub loop-j-init : goal.loop-j-init
loop-j-init g c = record {
  room = search rules;
  same = search rules;
  quiet = refl;
  read = λ h. c.clear.ensures.items ∙ none-read (reads (g.D.SectorDisk.disk c.args.disk.now).content) c.args.sector;
}

pub loop-j-preserved : goal.loop-j-preserved
loop-j-preserved g c =
    let old = g.D.SectorDisk.disk c.args.disk.now in
    let kept = c.loop-j.invariant in
    record {
      room = omega (arith, c.extend_from_slice.ensures.capacity, kept.room);
      same = same-then _ _ _ kept.same c.read_sector.ensures.same;
      quiet = c.in_ok-read_sector.ensures.fault ∙ kept.quiet;
      read = one_more old (g.D.SectorDisk.disk c.loop-j.disk) c.args.sector c.loop-j.j c.loop-j.octets.items
          c.extend_from_slice.new.self.items kept.same kept.read
          (λ now. c.in_ok-extend_from_slice.ensures.items
          ∙ ap (λ (more : List ℕ). c.loop-j.octets.items ++ more) (c.in_ok-read_sector.ensures.read now));
    }

-- all sectors that were read, including the last one
pub returns-then-not-port_goes_on-clause-read : goal.returns-then-not-port_goes_on-clause-read
returns-then-not-port_goes_on-clause-read g c = λ h.
    let old = g.D.SectorDisk.disk c.args.disk.now in
    let kept = c.loop-j.invariant in (
      c.loop-j.j + 1,
      omega (arith, c.loop-j-test.true),
      one_more old (g.D.SectorDisk.disk c.loop-j.disk) c.args.sector c.loop-j.j c.loop-j.octets.items
          c.extend_from_slice.new.self.items kept.same kept.read
          (λ now. c.in_ok-extend_from_slice.ensures.items
          ∙ ap (λ (more : List ℕ). c.loop-j.octets.items ++ more) (c.in_ok-read_sector.ensures.read now))
          h,
    )
