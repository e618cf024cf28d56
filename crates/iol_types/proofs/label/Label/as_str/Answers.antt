use Rattle.std.proofs.Common.{ap, ◌∙◌}
use Rattle.std.proofs.lemmas.Bool.{and_parts}
use Rattle.std.proofs.lemmas.Str.{IsUtf8-from_ascii}
use Rattle.std.proofs.lemmas.Str.Ascii.{IsAscii-from_all}
use Rattle.iol_types.specs.Label.{is_label}
use Rattle.iol_types.proofs.Labels.{label-ascii}
use Rattle.iol_types.proofs.label.Label.as_str.Goals as goal

pub unreachable-requires : goal.unreachable-requires
unreachable-requires c =
    let own = c.octets.result.now in
    let is = ap is_label c.octets.ensures.octets ∙ c.octets.ensures.label in
    c.in-Err.ensures.cases.0 (IsUtf8-from_ascii own (IsAscii-from_all own (label-ascii own (and_parts _ _ is).1)))
