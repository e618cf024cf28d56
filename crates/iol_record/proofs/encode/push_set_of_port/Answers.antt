use Rattle.std.proofs.Common.{[], ◌∷◌, ◌++◌, ap, ◌∙◌}
use Rattle.iol_types.specs.DataSet.{SetValue}
use Rattle.iol_record.specs.Record.{config_octets, set_octets}
use Rattle.iol_record.specs.declared.reader.TheConstants.{SET}
use Rattle.iol_record.proofs.Spellings.{three_after}
use Rattle.iol_record.proofs.encode.push_set_of_port.Goals as goal

pub returns-clause-octets : goal.returns-clause-octets
returns-clause-octets c =
    three_after c.args.octets.now.items (SET ∷ []) (config_octets c.args.version c.args.stored.now.recorded)
    (set_octets c.args.stored.now.set.value)
    c.in_ok-push.ensures.items c.in_ok-push_config.ensures.octets
    (c.in_ok-push_set.ensures.octets ∙ ap (λ (set : SetValue). c.push_config.new.octets.items ++ set_octets set) c.deref.ensures)
