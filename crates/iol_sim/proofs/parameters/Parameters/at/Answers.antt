use Rattle.std.proofs.Common.{ℕ, sym, ap, ◌∙◌}
use Rattle.std.specs.Map.Iter.{deref_pair}
use Rattle.std.specs.Option.{option_map}
use Rattle.arrayvec.specs.ArrayVec.{ArrayVec}
use Rattle.iol_types.specs.declared.key.Key.{Key}
use Rattle.iol_sim.specs.Parameters.{entries_of}
use Rattle.iol_sim.proofs.ParameterLemmas.{at-place, at-kept}
use Rattle.iol_sim.proofs.parameters.Parameters.at.Goals as goal

pub returns-clause-free : goal.returns-clause-free
returns-clause-free c =
    let kept = c.self.inside.entries.entries in
    let entry : Key × ArrayVec ℕ = (c.unwrap.result.0.now, c.unwrap.result.1.now) in
    (at-place (entries_of kept) c.args.place (c.unwrap.result.0.now, c.unwrap.result.1.now.items) c.self.invariant.each
    (at-kept kept c.args.place entry (sym c.get_index.ensures.entry ∙ ap (option_map deref_pair) c.unwrap.ensures))).free
