use Rattle.std.proofs.Common.{true≢false}
use Rattle.std.specs.List.{IsDistinct}
use Rattle.iol_types.proofs.ExampleSet.{example_is_set}
use Rattle.iol_types.proofs.examples.what_is_a_set.Goals as goal

pub returns-clause-set : goal.returns-clause-set
returns-clause-set c = example_is_set

pub returns-clause-twice : goal.returns-clause-twice
unfolding IsDistinct
returns-clause-twice c = λ are. absurd (true≢false are.distinct.0.0)
