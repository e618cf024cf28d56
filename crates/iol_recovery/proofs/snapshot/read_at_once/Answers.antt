use Rattle.std.proofs.Common.{sym, ap, ◌∙◌}
use Rattle.iol_disk.specs.Content.{reads}
use Rattle.iol_record.specs.Reading.{port_record_at}
use Rattle.iol_record.specs.declared.fault.RecordFault.TheVariants.{BadTag, BadField}
use Rattle.iol_recovery.proofs.PortReadings.{port-read, port-damaged}
use Rattle.iol_recovery.proofs.snapshot.read_at_once.Goals as goal

pub returns-in-Ok-decode_port-clause-port : goal.returns-in-Ok-decode_port-clause-port
returns-in-Ok-decode_port-clause-port g c = λ h.
    let read = c.in-Ok.ensures.read h in
    port-read c.args.version (reads (g.D.SectorDisk.disk c.args.disk.now).content) c.args.sector c.args.sectors read.0
    c.read_reached.new.octets.items read.2 read.1 c.in-Ok-decode_port.port _
    (ap (port_record_at c.args.version) (sym c.deref.ensures.value) ∙ c.in-Ok-decode_port.ensures.exact)

pub returns-in-Err-BadTag-clause-cause : goal.returns-in-Err-BadTag-clause-cause
returns-in-Err-BadTag-clause-cause g c = λ h.
    let read = c.in-Ok.ensures.read h in
    port-damaged c.args.version (reads (g.D.SectorDisk.disk c.args.disk.now).content) c.args.sector c.args.sectors read.0
    c.read_reached.new.octets.items read.2 read.1 BadTag (λ is. cc)
    (ap (port_record_at c.args.version) (sym c.deref.ensures.value) ∙ rw c.in-Err-BadTag.field-0-is at c.in-Err-BadTag.ensures.exact)

pub returns-in-Err-BadField-clause-cause : goal.returns-in-Err-BadField-clause-cause
returns-in-Err-BadField-clause-cause g c = λ h.
    let read = c.in-Ok.ensures.read h in
    port-damaged c.args.version (reads (g.D.SectorDisk.disk c.args.disk.now).content) c.args.sector c.args.sectors read.0
    c.read_reached.new.octets.items read.2 read.1 BadField (λ is. cc)
    (ap (port_record_at c.args.version) (sym c.deref.ensures.value) ∙ rw c.in-Err-BadField.field-0-is at c.in-Err-BadField.ensures.exact)
