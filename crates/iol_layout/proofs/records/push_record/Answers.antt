use Rattle.std.proofs.Common.{◌≡◌, ◌+◌, ◌/◌, ◌++◌, length, map, ℕ, List, sym, ◌∙◌, ap, arith}
use Rattle.std.proofs.lemmas.List.{append-nil}
use Rattle.std.specs.List.{range_with_len}
use Rattle.iol_disk.specs.Calls.{write}
use Rattle.iol_disk.specs.declared.disk.TheConstants.{SECTOR_OCTETS}
use Rattle.iol_layout.specs.AreaPlans.{write_of}
use Rattle.iol_layout.specs.Octets.{sector_of}
use Rattle.iol_layout.specs.declared.records.RecordSector.{RecordSector}
use Rattle.iol_layout.proofs.RecordSectors.{sector-pushed}
use Rattle.iol_layout.proofs.records.push_record.Goals as goal

pub loop-j-init : goal.loop-j-init
loop-j-init c = sym (append-nil (map write_of c.args.records.now.items))

pub loop-j-preserved : goal.loop-j-preserved
loop-j-preserved c =
    let pushed : RecordSector = record { sector = c.args.first + c.loop-j.j; octets = c.copy_from_slice.new.self } in
    ap (λ (items : List RecordSector). map write_of items) c.in_ok-push.ensures.items
    ∙ sector-pushed (λ j. write (c.args.first + j) (sector_of c.args.octets.now j)) c.args.records.now.items c.loop-j.records.items pushed
    c.loop-j.j c.loop-j.invariant
    (ap (write (c.args.first + c.loop-j.j)) c.copy_from_slice.ensures.after)

pub returns : goal.returns
returns c =
    let all : c.loop-j.j ≡ length c.args.octets.now / SECTOR_OCTETS = omega (arith, c.loop-j-test.false, c.loop-j.auto.j-end) in
    c.loop-j.invariant
    ∙ ap (λ (n : ℕ). map write_of c.args.records.now.items
    ++ map (λ j. write (c.args.first + j) (sector_of c.args.octets.now j)) (range_with_len 0 n)) all
