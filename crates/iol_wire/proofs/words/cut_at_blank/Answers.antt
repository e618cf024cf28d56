use Rattle.iol_wire.proofs.WordLemmas.{words_cut_at, words_last}
use Rattle.iol_wire.proofs.words.cut_at_blank.Goals as goal

pub returns-in-Some-clause-words : goal.returns-in-Some-clause-words
returns-in-Some-clause-words c =
    words_cut_at c.args.octets.now c.in-Some.end c.in-Some.ensures c.requires.some c.requires.begins

pub returns-in-None-clause-words : goal.returns-in-None-clause-words
returns-in-None-clause-words c = words_last c.args.octets.now c.in-None.ensures c.requires.some
