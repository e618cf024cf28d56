use Rattle.std.proofs.Common.{[], ◌∷◌, ap, ◌∙◌, refl}
use Rattle.iol_disk.specs.Calls.{write}
use Rattle.iol_disk.specs.Gate.{open_gate, closed_gate}
use Rattle.iol_layout.specs.Geometry.{geometry_octets}
use Rattle.iol_layout.specs.Layout.{Layout, laid_out, gate_at}
use Rattle.iol_layout.specs.declared.area.Area.TheVariants.{A, B}
use Rattle.iol_layout.specs.declared.geometry.TheConstants.{GEOMETRY}
use Rattle.iol_disk.proofs.Making.{makes_write, makes_then, made_of, failed_of, hands_on, fails_early, fails_after}
use Rattle.iol_journal.proofs.formatting.write_gates.Goals as goal

pub returns-in_err-write : goal.returns-in_err-write
returns-in_err-write g c =
    let layout = laid_out c.args.version c.args.geometry in
    let e = c.write.ensures in
    let said = makes_write c.write.result GEOMETRY (geometry_octets c.args.geometry) _ _ refl c.octets.ensures e.wrote e.wrote_some
    e.fault in
    hands_on _ c.from_residual.result c.from_residual.ensures.1
    (fails_early (write GEOMETRY (geometry_octets c.args.geometry) ∷ [])
    ((write (gate_at layout A) open_gate ∷ write (gate_at layout B) closed_gate ∷ []) ∷ [])
    (failed_of _ c.in_err-write.was said))

pub returns-in_err-open_gate : goal.returns-in_err-open_gate
returns-in_err-open_gate g c =
    let layout = laid_out c.args.version c.args.geometry in
    let w = c.write.ensures in
    let said = made_of _ c.in_ok-write.was
    (makes_write c.write.result GEOMETRY (geometry_octets c.args.geometry) _ _ refl c.octets.ensures w.wrote w.wrote_some w.fault) in
    let e = c.open_gate.ensures in
    let at = c.gate-2.ensures ∙ c.gate.ensures.at ∙ ap (λ (l : Layout). gate_at l A) c.of-layout.ensures in
    let opened = makes_write c.open_gate.result (gate_at layout A) open_gate _ _ at refl e.wrote e.wrote_some e.fault in
    hands_on _ c.from_residual-in_err-open_gate.result c.from_residual-in_err-open_gate.ensures.1
    (fails_after (write GEOMETRY (geometry_octets c.args.geometry) ∷ []) (write (gate_at layout A) open_gate ∷ [])
    ((write (gate_at layout B) closed_gate ∷ []) ∷ [])
    said (failed_of _ c.in_err-open_gate.was opened))

pub returns : goal.returns
returns g c =
    let layout = laid_out c.args.version c.args.geometry in
    let w = c.write.ensures in
    let o = c.open_gate.ensures in
    let e = c.close_gate.ensures in
    let said = made_of _ c.in_ok-write.was
    (makes_write c.write.result GEOMETRY (geometry_octets c.args.geometry) _ _ refl c.octets.ensures w.wrote w.wrote_some w.fault) in
    let at_a = c.gate-2.ensures ∙ c.gate.ensures.at ∙ ap (λ (l : Layout). gate_at l A) c.of-layout.ensures in
    let at_b = c.gate-4.ensures ∙ c.gate-3.ensures.at ∙ ap (λ (l : Layout). gate_at l B) c.of-layout.ensures in
    let opened = made_of _ c.in_ok-open_gate.was
    (makes_write c.open_gate.result (gate_at layout A) open_gate _ _ at_a refl o.wrote o.wrote_some o.fault) in
    let closed = makes_write c.close_gate.result (gate_at layout B) closed_gate _ _ at_b refl e.wrote e.wrote_some e.fault in
    makes_then (write GEOMETRY (geometry_octets c.args.geometry) ∷ []) (write (gate_at layout A) open_gate
    ∷ write (gate_at layout B) closed_gate ∷ []) _ _ said
    (makes_then (write (gate_at layout A) open_gate ∷ []) (write (gate_at layout B) closed_gate ∷ []) _ _ opened closed)
