use Rattle.std.proofs.Common.{◌≡◌, sym, ap, ◌∙◌, Some}
use Rattle.std.specs.Option.{option_map, option_copied}
use Rattle.std.specs.Map.{lookup}
use Rattle.iol_types.specs.DataSet.{data_at}
use Rattle.iol_types.specs.Key.{same_key}
use Rattle.iol_types.specs.Parts.{octets_at}
use Rattle.iol_types.proofs.Kept.{lookup-entries_of, within-found}
use Rattle.iol_types.proofs.kept_entries.Entries.get.Goals as goal

pub octets_at-requires : goal.octets_at-requires
octets_at-requires c =
    let found : lookup (same_key c.args.key) c.self.inside.places.entries ≡ Some c.in-Some.place.now =
    sym c.get.ensures.value ∙ ap (λ found. option_copied found) c.in-Some.is in
    within-found c.self.inside.parts (same_key c.args.key) c.self.inside.places.entries c.in-Some.place.now c.self.invariant.within found

pub returns-in-Some : goal.returns-in-Some
returns-in-Some c =
    ap Some c.octets_at.ensures
    ∙ ap (λ found. option_map (octets_at c.self.inside.parts) (option_copied found)) (sym c.in-Some.is)
    ∙ ap (option_map (octets_at c.self.inside.parts)) c.get.ensures.value
    ∙ sym (lookup-entries_of c.self.inside.parts (same_key c.args.key) c.self.inside.places.entries)
    ∙ ap (λ entries. data_at entries c.args.key) c.self.view_is

pub returns-in-None : goal.returns-in-None
returns-in-None c =
    ap (λ found. option_map (octets_at c.self.inside.parts) (option_copied found)) (sym c.in-None.is)
    ∙ ap (option_map (octets_at c.self.inside.parts)) c.get.ensures.value
    ∙ sym (lookup-entries_of c.self.inside.parts (same_key c.args.key) c.self.inside.places.entries)
    ∙ ap (λ entries. data_at entries c.args.key) c.self.view_is
