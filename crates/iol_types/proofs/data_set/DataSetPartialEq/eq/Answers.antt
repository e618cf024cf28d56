use Rattle.std.proofs.Common.{◌≡◌, rules}
use Rattle.std.specs.Bool.{Decides, one_answer}
use Rattle.iol_types.specs.Sameness.{same_set-Decides}
use Rattle.iol_types.proofs.data_set.DataSetPartialEq.eq.Goals as goal

pub returns-then-len-clause-test : goal.returns-then-len-clause-test
returns-then-len-clause-test c =
    let exactly : Decides c.has_entries_of.result (c.args.self.now ≡ c.args.other.now) = search rules in
    one_answer _ _ exactly (same_set-Decides c.args.self.now c.args.other.now)

pub returns-else-len-clause-test : goal.returns-else-len-clause-test
returns-else-len-clause-test c =
    let exactly : Decides c.if-octets.value (c.args.self.now ≡ c.args.other.now) = search rules in
    one_answer _ _ exactly (same_set-Decides c.args.self.now c.args.other.now)
