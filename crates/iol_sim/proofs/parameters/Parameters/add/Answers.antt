use Rattle.std.proofs.Common.{◌≡◌, sym, ap, ◌∙◌, subst, None, [], ◌∷◌, ◌++◌, List}
use Rattle.indexmap.specs.IndexMap.{insert_entry}
use Rattle.indexmap.proofs.CallerLemmas.{insert_entry-new}
use Rattle.iol_types.specs.Key.{same_key}
use Rattle.iol_types.specs.DataSet.{Entry}
use Rattle.iol_sim.specs.Parameters.{entries_of}
use Rattle.iol_sim.proofs.ParameterLemmas.{none-entries_of}
use Rattle.iol_sim.specs.Parameters.{AreParameters, add_fault}
use Rattle.iol_sim.proofs.ParameterLemmas.{may_be_added, Grown, grown}
use Rattle.iol_sim.proofs.parameters.Parameters.add.Goals as goal
use Rattle.iol_sim.proofs.parameters.Parameters.add.Goals.{in-Ok, in-Err}

-- the parameter is not refused
unrefused : (c : goal.Joined-insert) → add_fault (entries_of c.self.inside.entries.entries) c.args.key c.args.octets.now ≡ None
unrefused c = ap (λ (entries : List Entry). add_fault entries c.args.key c.args.octets.now) c.self.view_is
    ∙ sym c.fault.ensures.fault ∙ c.in_default.is

-- the parameters after the insertion
inserted : (c : goal.Joined-insert) → c.insert.new.self.entries
    ≡ insert_entry same_key c.self.inside.entries.entries c.args.key c.data_of.result
    → Grown c.self.inside.entries.entries c.insert.new.self.entries c.args.key c.args.octets.now
inserted c made =
    let kept = c.self.inside.entries.entries in
    grown kept c.insert.new.self.entries c.args.key c.data_of.result c.args.octets.now c.data_of.ensures c.fault.ensures.range (unrefused c)
    (made ∙ insert_entry-new same_key c.self.inside.entries c.args.key c.data_of.result
    (none-entries_of (same_key c.args.key) kept (may_be_added (entries_of kept) c.args.key c.args.octets.now (unrefused c)).absent))
    c.self.invariant

pub invariant_of-self : goal.invariant_of-self
invariant_of-self c =
    elim c.match-insert.branch [
      | in-Ok w ↦ (inserted c w.in-Ok.ensures.entries).are
      | in-Err w ↦ subst AreParameters (sym (ap entries_of w.in-Err.ensures.err)) c.self.invariant
    ]

pub returns-clause-added : goal.returns-clause-added
returns-clause-added c =
    elim c.match-insert.branch [
      | in-Ok w ↦ rw w.result-is (
        sym c.fault.ensures.fault ∙ c.in_default.is,
        (inserted c w.in-Ok.ensures.entries).entries
            ∙ ap (λ (entries : List Entry). entries ++ (c.args.key, c.args.octets.now) ∷ []) c.self.view_is,
      )
      | in-Err w ↦ rw w.result-is tt
    ]
