use Rattle.std.proofs.Common.{ap, nat_lt}
use Rattle.iol_journal.specs.Meaning.{is_formatted}
use Rattle.iol_commands.proofs.ImageLaws.{kept_unforced, leaves_forced}
use Rattle.iol_commands.proofs.image.format_disk.Goals as goal

pub returns-in_err-format-clause-any_moment : goal.returns-in_err-format-clause-any_moment
returns-in_err-format-clause-any_moment g c =
    leaves_forced c.args.geometry _ _ _ c.erase_if_forced.ensures.any_moment c.format.ensures.any_moment

-- for a disk of two sectors, `is_formatted` means that the gate is open
pub returns-in_err-format-clause-kept : goal.returns-in_err-format-clause-kept
returns-in_err-format-clause-kept g c = λ unforced formatted.
    let disk = g.D.SectorDisk.disk in
    let old = disk c.args.disk.now in
    kept_unforced (nat_lt 1 old.sectors) (is_formatted 2) old (disk c.erase_if_forced.new.disk) (disk c.format.new.disk)
    (ap disk (c.erase_if_forced.ensures.untouched unforced).0) c.format.ensures.kept formatted

pub returns-clause-any_moment : goal.returns-clause-any_moment
returns-clause-any_moment g c = leaves_forced c.args.geometry _ _ _ c.erase_if_forced.ensures.any_moment c.format.ensures.any_moment

pub returns-in_err-format-2-clause-any_moment : goal.returns-in_err-format-2-clause-any_moment
returns-in_err-format-2-clause-any_moment g c =
    leaves_forced c.args.geometry _ _ _ c.erase_if_forced.ensures.any_moment c.format.ensures.any_moment
