use Rattle.std.proofs.Common.{ℕ, List, Some, sym, ap, ◌∙◌}
use Rattle.std.proofs.lemmas.Option.{slice_get-map}
use Rattle.std.specs.Option.{option_map}
use Rattle.std.specs.List.{slice_get}
use Rattle.iol_types.specs.DataSet.{Entry}
use Rattle.iol_types.specs.Parts.{octets_at}
use Rattle.iol_types.specs.declared.key.Key.{Key}
use Rattle.iol_types.specs.declared.parts.PartPlace.{PartPlace}
use Rattle.iol_types.proofs.kept_entries.Entries.entry.Goals as goal

pub returns-in-Some : goal.returns-in-Some
returns-in-Some c =
    let i = c.self.inside in
    let of : Key × PartPlace → Entry = λ entry. (entry.0, octets_at i.parts entry.1) in
    ap (λ (octets : List ℕ). Some (c.in-Some.key.now, octets)) c.octets_at.ensures
    ∙ (ap (option_map of) c.in-Some.ensures.entry
    ∙ (sym (slice_get-map of i.places.entries c.args.number)
    ∙ ap (λ (entries : List Entry). slice_get entries c.args.number) c.self.view_is))

pub returns-in-None : goal.returns-in-None
returns-in-None c =
    let i = c.self.inside in
    let of : Key × PartPlace → Entry = λ entry. (entry.0, octets_at i.parts entry.1) in
    ap (option_map of) c.in-None.ensures.entry
    ∙ (sym (slice_get-map of i.places.entries c.args.number)
    ∙ ap (λ (entries : List Entry). slice_get entries c.args.number) c.self.view_is)
