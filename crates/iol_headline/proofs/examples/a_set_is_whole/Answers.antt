use Rattle.iol_headline.proofs.ExampleLaws.{whole}
use Rattle.iol_headline.proofs.examples.a_set_is_whole.Goals as goal

pub returns : goal.returns
returns c = (0, whole)
