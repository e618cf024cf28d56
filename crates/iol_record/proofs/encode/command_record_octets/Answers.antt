use Rattle.std.proofs.Common.{ap, arith}
use Rattle.iol_types.specs.DataSet.{SetValue, octets_of}
use Rattle.iol_record.proofs.SetReaders.{length-set_octets}
use Rattle.iol_record.proofs.encode.command_record_octets.Goals as goal

pub returns-in-Store-clause-count : goal.returns-in-Store-clause-count
returns-in-Store-clause-count c =
    let counted = ap (λ (set : SetValue). octets_of set.entries) c.deref.ensures in
    rw c.in-Store.is (omega (arith, counted, c.octets.ensures.count, length-set_octets c.in-Store.set.value))
