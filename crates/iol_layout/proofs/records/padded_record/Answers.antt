use Rattle.std.proofs.Common.{◌≡◌, ◌*◌, ◌∙◌, ap, arith, length}
use Rattle.iol_disk.specs.declared.disk.TheConstants.{SECTOR_OCTETS}
use Rattle.iol_layout.specs.Octets.{sectors_reached, padded}
use Rattle.iol_layout.proofs.Paddings.{padded-front}
use Rattle.iol_layout.proofs.records.padded_record.Goals as goal

pub returns-clause-octets : goal.returns-clause-octets
returns-clause-octets c =
    let record_octets = c.in_ok-octets.octets.items in
    let octets = SECTOR_OCTETS * c.div_ceil-sectors.result in
    let long = c.in_ok-octets.octets.ok in
    let reach : octets ≡ SECTOR_OCTETS * sectors_reached (length record_octets) =
    omega (arith, c.div_ceil-sectors.ensures, c.len.ensures, long) in
    c.in_ok-resize.ensures.items ∙ padded-front record_octets octets c.in_ok-octets.octets.len reach (omega (arith, long))
    ∙ ap padded c.in_ok-octets.ensures.spelling
