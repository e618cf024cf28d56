use Rattle.std.proofs.Common.{◌≡◌, sym, ap, ◌∙◌, subst, List, is_some, true, false}
use Rattle.std.specs.Map.{lookup}
use Rattle.indexmap.specs.IndexMap.{insert_entry}
use Rattle.iol_types.specs.Key.{same_key}
use Rattle.iol_types.specs.DataSet.{Entry, data_at}
use Rattle.iol_sim.specs.Parameters.{entries_of}
use Rattle.iol_sim.proofs.ParameterLemmas.{is_some-entries_of}
use Rattle.iol_sim.specs.Parameters.{AreParameters}
use Rattle.iol_sim.proofs.ParameterLemmas.{entries_of-written, are-written}
use Rattle.iol_sim.proofs.parameters.Parameters.write.Goals as goal
use Rattle.iol_sim.proofs.parameters.Parameters.write.Goals.{in-Ok, in-Err}

-- the parameter is there
there : (c : goal.Joined-insert) → is_some (data_at (entries_of c.self.inside.entries.entries) c.args.key) ≡ true
there c = ap (λ (entries : List Entry). is_some (data_at entries c.args.key)) c.self.view_is ∙ c.requires.there

inserted : (c : goal.Joined-insert) → c.insert.new.self.entries
    ≡ insert_entry same_key c.self.inside.entries.entries c.args.key c.data_of.result
    → entries_of c.insert.new.self.entries ≡ insert_entry same_key (entries_of c.self.inside.entries.entries) c.args.key c.args.octets.now
inserted c made =
    ap entries_of made ∙ entries_of-written c.self.inside.entries.entries c.args.key c.data_of.result
    ∙ ap (insert_entry same_key (entries_of c.self.inside.entries.entries) c.args.key) c.data_of.ensures

-- therefore the map finds it
present : (c : goal.Joined-insert) → is_some (lookup (same_key c.args.key) c.self.inside.entries.entries) ≡ false → ⊥
present c none = let both : true ≡ false = sym (there c)
    ∙ is_some-entries_of (same_key c.args.key) c.self.inside.entries.entries ∙ none in cc

pub invariant_of-self : goal.invariant_of-self
invariant_of-self c =
    elim c.match-insert.branch [
      | in-Ok w ↦ subst AreParameters (sym (inserted c w.in-Ok.ensures.entries))
          (are-written (entries_of c.self.inside.entries.entries) c.args.key c.args.octets.now c.self.invariant c.requires.short (there c))
      | in-Err w ↦ absurd (present c (ap is_some w.in-Err.ensures.absent))
    ]

pub returns : goal.returns
returns c =
    elim c.match-insert.branch [
      | in-Ok w ↦ inserted c w.in-Ok.ensures.entries
          ∙ ap (λ (entries : List Entry). insert_entry same_key entries c.args.key c.args.octets.now) c.self.view_is
      | in-Err w ↦ absurd (present c (ap is_some w.in-Err.ensures.absent))
    ]
