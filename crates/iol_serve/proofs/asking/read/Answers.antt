use Rattle.std.proofs.Common.{◌+◌, ℕ, length, refl, arith}
use Rattle.iol_master.specs.declared.client.ReadFault.TheVariants as fault
use Rattle.iol_serve.proofs.asking.read.Goals as goal

-- after all reads the answer is that the client has seen more than is acknowledged
pub returns-clause-outcome : goal.returns-clause-outcome
returns-clause-outcome g c =
    let seen : ℕ = g.F.Name.front.start.number + length c.args.client.now in
    (seen, omega arith, fault.Behind seen, refl, refl)
