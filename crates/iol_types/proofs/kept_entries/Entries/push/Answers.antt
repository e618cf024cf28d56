use Rattle.std.proofs.Common.{◌≡◌, ◌<◌, ◌+◌, true, List, [], ◌∷◌, ◌++◌, Result, Ok, Err, None, OnOk, is_ok, length}
use Rattle.std.proofs.Common.{sym, ap, ◌∙◌, subst, arith}
use Rattle.indexmap.proofs.CallerLemmas.{insert_entry-new}
use Rattle.indexmap.specs.IndexMap.{spare, insert_entry}
use Rattle.iol_types.specs.Key.{same_key}
use Rattle.iol_types.specs.DataSet.{Entry, add_fault}
use Rattle.iol_types.specs.EntriesInMemory.{entries_of}
use Rattle.iol_types.specs.Parts.{PartsValue, entry_octets, with_text, data_after}
use Rattle.iol_types.specs.declared.data_set.TheConstants.{ENTRY_HEAD_OCTETS}
use Rattle.iol_types.specs.declared.key.Key.{Key}
use Rattle.iol_types.specs.declared.parts.PartPlace.{PartPlace}
use Rattle.iol_types.proofs.Entries.{may_be_added}
use Rattle.iol_types.proofs.Kept.{none-entries_of, Pushed, pushed}
use Rattle.iol_types.proofs.kept_entries.Entries.push.Goals as goal

-- the claim about success holds of a result that succeeded
said : {T E P : Type 0} (r : Result T E) → is_ok r ≡ true → OnOk r P → P
said (Ok x) ok holds = holds
said (Err e) ok holds = absurd cc

-- the entries after the text and the key were added
made : (c : goal.After-self-1)
    → Pushed c.push.new.self c.insert.new.self.entries (c.self.inside.octets + (ENTRY_HEAD_OCTETS + length c.args.octets.now))
    (entries_of c.self.inside.parts c.self.inside.places.entries ++ (c.args.key, c.args.octets.now) ∷ [])
made c =
    let parts = c.self.inside.parts in
    let kept = c.self.inside.places.entries in
    let text = entry_octets (c.args.key, c.args.octets.now) in
    let later : c.push.new.self ≡ with_text parts text = c.in_ok-place.ensures.pushed ∙ ap (with_text parts) c.head_of.ensures in
    let may : add_fault (entries_of parts kept) c.args.key c.args.octets.now ≡ None =
    ap (λ entries. add_fault entries c.args.key c.args.octets.now) c.self.view_is ∙ c.requires in
    let room : 0 < spare c.reserve.new.self = omega (arith, c.in_ok-reserve.ensures.ok) in
    let absent = none-entries_of parts (same_key c.args.key) kept
    (may_be_added (entries_of parts kept) c.args.key c.args.octets.now may).absent in
    let inserted = said c.insert.result (c.insert.ensures.succeeds room) c.insert.ensures.entries in
    let entries : c.insert.new.self.entries
    ≡ kept ++ (c.args.key, data_after parts (length c.args.octets.now)) ∷ [] =
    inserted
    ∙ ap (λ before. insert_entry same_key before c.args.key c.in_ok-place.place) c.in_ok-reserve.ensures.entries
    ∙ insert_entry-new same_key c.self.inside.places c.args.key c.in_ok-place.place absent
    ∙ ap (λ (place : PartPlace). kept ++ (c.args.key, place) ∷ []) c.in_ok-place.ensures.place in
    subst (λ (new : PartsValue × List (Key × PartPlace)).
    Pushed new.0 new.1 (c.self.inside.octets + (ENTRY_HEAD_OCTETS + length c.args.octets.now))
    (entries_of parts kept ++ (c.args.key, c.args.octets.now) ∷ []))
    (λ i. (sym later i, sym entries i))
    (pushed parts kept c.self.inside.octets c.args.key c.args.octets.now c.self.invariant)

pub invariant_of-self-2 : goal.invariant_of-self-2
invariant_of-self-2 c = (made c).are

pub returns-clause-pushed : goal.returns-clause-pushed
returns-clause-pushed c =
    (made c).entries ∙ ap (λ (entries : List Entry). entries ++ (c.args.key, c.args.octets.now) ∷ []) c.self.view_is
