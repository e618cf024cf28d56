use Rattle.std.proofs.Common.{◌≡◌, ◌≤◌, ◌++◌, List, length, map, rules, ap, ◌∙◌, arith}
use Rattle.std.proofs.lemmas.List.{take_all}
use Rattle.serde_json.specs.Data.{Data, array}
use Rattle.serde_json.specs.View.{view, items_of}
use Rattle.iol_json.specs.Json.{entry_data, entry_at}
use Rattle.iol_json.proofs.InOrder.{entries_next}
use Rattle.iol_json.proofs.entries.entries_of.Goals as goal

pub loop-place-preserved : goal.loop-place-preserved
loop-place-preserved c =
    let entries = c.args.set.now.entries in
    let place = c.loop-place.place in
    let more : map view c.push_entry.new.entries.items ≡ map view c.loop-place.entries.items ++ entry_at entries place = search rules in
    more ∙ ap (λ (before : List Data). before ++ entry_at entries place) c.loop-place.invariant ∙ entries_next entries place

pub returns : goal.returns
returns c =
    let entries = c.args.set.now.entries in
    let all : length entries ≤ c.loop-place.place = omega arith in
    let found : map view c.loop-place.entries.items ≡ map entry_data entries =
    c.loop-place.invariant ∙ ap (map entry_data) (take_all c.loop-place.place entries all) in
    c.from.ensures ∙ ap (λ (found : List Data). array (items_of found)) found
