use Rattle.std.specs.Map.{keys_of}
use Rattle.iol_transfer.specs.declared.list.Next.TheVariants as next
use Rattle.iol_transfer.proofs.RoundTrip.{reading_of-list_octets}
use Rattle.iol_sim.proofs.TallyLemmas.{free-keys}
use Rattle.iol_sim.proofs.laws.a_device_lists_its_keys.Goals as goal

pub returns : goal.returns
returns c = λ parameters are. reading_of-list_octets (keys_of parameters) next.End (free-keys parameters are.each) are.distinct tt
