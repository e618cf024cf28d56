use Rattle.std.proofs.Common.{◌≡◌, [], ◌∷◌, ◌++◌, List, None, OnErr, OnOk, Result, Ok, Err, ap, sym, ◌∙◌, subst}
use Rattle.iol_types.specs.DataSet.{Entry, AreEntries, add_fault}
use Rattle.iol_types.proofs.Entries.{may_be_added, one-more}
use Rattle.iol_types.proofs.set_builder.SetBuilder.append.Goals as goal

-- entries stay valid if an allowed one is added, and if none is
either : {T E : Type 0} (r : Result T E) (old more new : List Entry) → OnOk r (new ≡ more) → OnErr r (new ≡ old) → AreEntries old
    → AreEntries more → AreEntries new
either (Ok done) old more new pushed kept are behind = subst AreEntries (sym pushed) behind
either (Err e) old more new pushed kept are behind = subst AreEntries (sym kept) are

pub invariant_of-self : goal.invariant_of-self
invariant_of-self c =
    let entries = c.self.inside.entries in
    let none : add_fault entries c.args.key c.args.octets.now ≡ None =
    ap (λ entries. add_fault entries c.args.key c.args.octets.now) c.self.view_is ∙ c.requires in
    either c.push.result entries (entries ++ (c.args.key, c.args.octets.now) ∷ []) c.push.new.self c.push.ensures.pushed c.push.ensures.kept
    c.self.invariant
    (one-more entries c.args.key c.args.octets.now c.self.invariant c.push.ensures.range
    (may_be_added entries c.args.key c.args.octets.now none))
