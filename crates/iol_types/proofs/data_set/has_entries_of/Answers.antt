use Rattle.std.proofs.Common.{◌≡◌, slice_get, sym, ◌∙◌}
use Rattle.std.proofs.lemmas.Bool.{not-false}
use Rattle.iol_types.specs.Sameness.{same_entry-Decides}
use Rattle.iol_types.proofs.Places.{take_next, same_found}
use Rattle.iol_types.proofs.data_set.has_entries_of.Goals as goal

pub loop-place-preserved : goal.loop-place-preserved
loop-place-preserved c =
    let place = c.loop-place.place in
    let set = c.args.set.now.entries in
    let other = c.args.other.now.entries in
    let same = not-false _ (sym c.ne.ensures ∙ c.if-ne.false) in
    let found = same_found _ (λ entry. (entry.0, entry.1.now)) (λ one two is.
    (same_entry-Decides (one.0, one.1.now) (two.0, two.1.now)).0 is) c.entry.result c.entry-in-loop-place.result same in
    let here : slice_get set place ≡ slice_get other place = sym c.entry.ensures.entry ∙ found ∙ c.entry-in-loop-place.ensures.entry in
    take_next set other place here c.loop-place.invariant
