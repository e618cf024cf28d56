use Rattle.std.proofs.Common.{sym, ap, ◌∙◌, Some, List}
use Rattle.std.specs.Option.{option_map, option_copied}
use Rattle.iol_types.specs.DataSet.{Entry, data_at}
use Rattle.iol_types.specs.Key.{same_key}
use Rattle.std.proofs.lemmas.Map.Made.{lookup-map_values}
use Rattle.iol_sim.proofs.parameters.Parameters.get.Goals as goal

pub returns-in-Some-clause-octets : goal.returns-in-Some-clause-octets
returns-in-Some-clause-octets c =
    ap Some c.as_slice.ensures.value
    ∙ ap (λ found. option_map (λ kept. kept.items) (option_copied found)) (sym c.in-Some.is)
    ∙ ap (option_map (λ kept. kept.items)) c.get.ensures.value
    ∙ sym (lookup-map_values (λ value. value.items) (same_key c.args.key) c.self.inside.entries.entries)
    ∙ ap (λ (parameters : List Entry). data_at parameters c.args.key) c.self.view_is

pub returns-in-None-clause-octets : goal.returns-in-None-clause-octets
returns-in-None-clause-octets c =
    ap (λ found. option_map (λ kept. kept.items) (option_copied found)) (sym c.in-None.is)
    ∙ ap (option_map (λ kept. kept.items)) c.get.ensures.value
    ∙ sym (lookup-map_values (λ value. value.items) (same_key c.args.key) c.self.inside.entries.entries)
    ∙ ap (λ (parameters : List Entry). data_at parameters c.args.key) c.self.view_is
