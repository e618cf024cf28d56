use Rattle.std.proofs.Common.{[], ◌∷◌, ◌∙◌, ap}
use Rattle.iol_record.specs.declared.version.Version.{Version}
use Rattle.iol_layout.specs.AreaWrites.{header_write}
use Rattle.iol_layout.specs.Header.{header_octets}
use Rattle.iol_layout.specs.Layout.{header_at}
use Rattle.iol_layout.specs.declared.area.Area.TheVariants.{B}
use Rattle.iol_disk.proofs.Making.{makes_write, makes_then, hands_on, fails_early}
use Rattle.iol_journal.proofs.formatting.write_headers.Goals as goal

pub returns-in_err-write_header : goal.returns-in_err-write_header
returns-in_err-write_header g c =
    let plan = c.args.plan.now in
    hands_on _ c.from_residual.result c.from_residual.ensures.1
    (fails_early (header_write plan.layout plan.area plan.header.epoch plan.header.base ∷ []) ((header_write plan.layout B 0 0 ∷ []) ∷ [])
    c.in_err-write_header.ensures)

pub returns : goal.returns
returns g c =
    let plan = c.args.plan.now in
    let e = c.write.ensures in
    makes_then (header_write plan.layout plan.area plan.header.epoch plan.header.base ∷ []) (header_write plan.layout B 0 0 ∷ []) _ _
    c.in_ok-write_header.ensures
    (makes_write c.write.result (header_at plan.layout B) (header_octets plan.layout.version 0 0) _ _ c.header.ensures.at
    (c.octets-unused.ensures ∙ ap (λ (v : Version). header_octets v 0 0) c.version.ensures) e.wrote e.wrote_some e.fault)
