use Rattle.std.proofs.Common.{ap, slice_get, sym, ◌∙◌, Some}
use Rattle.iol_disk.specs.Calls.{write}
use Rattle.iol_journal.specs.Orders.{header_writes}
use Rattle.iol_layout.specs.Header.{header_octets}
use Rattle.iol_layout.specs.Layout.{Layout, header_at}
use Rattle.iol_layout.specs.declared.area.Area.TheVariants.{B}
use Rattle.iol_record.specs.Record.{newest}
use Rattle.iol_record.specs.declared.version.Version.{Version}
use Rattle.iol_handed.proofs.handed_format.HandedFormat.header_write.Goals as goal

pub returns-in-1 : goal.returns-in-1
returns-in-1 c =
    let sector = c.header-in-1.ensures.at ∙ ap (λ (layout : Layout). header_at layout B) c.layout-in-1.ensures in
    let octets = c.octets-in-1.ensures ∙ ap (λ (version : Version). header_octets version 0 0) c.newest-in-1.ensures in
    (λ i. Some (write (sector i) (octets i))) ∙ sym (ap (slice_get (header_writes newest c.args.self.now.geometry)) c.in-1.is)
