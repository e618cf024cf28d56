use Rattle.iol_record.specs.Record.{label_octets, numbers_octets}
use Rattle.iol_record.proofs.Spellings.{two_after}
use Rattle.iol_record.proofs.encode.push_config.Goals as goal

pub returns-clause-octets : goal.returns-clause-octets
returns-clause-octets c =
    two_after c.args.octets.now.items (numbers_octets c.args.config.now) (label_octets c.args.version c.args.config.now.label)
    c.in_ok-push_numbers.ensures.octets c.in_ok-push_label.ensures.octets

pub returns-clause-in_range : goal.returns-clause-in_range
returns-clause-in_range c = record {
  vendor = c.in_ok-push_numbers.ensures.vendor;
  device = c.in_ok-push_numbers.ensures.device;
  label = c.push_label.ensures.label;
}
