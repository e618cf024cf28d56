use Rattle.std.proofs.Common.{◌∙◌, ap}
use Rattle.iol_record.specs.declared.version.Version.{Version}
use Rattle.iol_layout.specs.Header.{header_octets}
use Rattle.iol_layout.specs.Layout.{header_at}
use Rattle.iol_disk.proofs.Making.{makes_write}
use Rattle.iol_layout.proofs.area_plan.AreaPlan.write_header.Goals as goal

pub returns : goal.returns
returns g c =
    let plan = c.args.self.now in
    let e = c.write.ensures in
    makes_write c.write.result (header_at plan.layout plan.area) (header_octets plan.layout.version plan.header.epoch plan.header.base) _ _
    c.header.ensures.at (c.octets-octets.ensures ∙ ap (λ
    (v : Version). header_octets v plan.header.epoch plan.header.base) c.version.ensures) e.wrote e.wrote_some e.fault
