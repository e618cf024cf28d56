use Rattle.iol_front.proofs.Steps.{begins}
use Rattle.iol_front.proofs.front.Front.new.Goals as goal

pub of_words-requires : goal.of_words-requires
of_words-requires c = begins _ c.requires
