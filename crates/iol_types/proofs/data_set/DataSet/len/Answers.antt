use Rattle.std.proofs.Common.{arith}
use Rattle.iol_types.proofs.Entries.{length-octets_of}
use Rattle.iol_types.proofs.data_set.DataSet.len.Goals as goal

pub returns-clause-bound : goal.returns-clause-bound
returns-clause-bound c =
    omega (arith, c.len.ensures, length-octets_of c.self.inside.entries, c.self.invariant.entries.fits)
