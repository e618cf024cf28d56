use Rattle.std.proofs.Common.{◌≡◌, ◌++◌, drop}
use Rattle.iol_requests.specs.Words.{document_of, lines_of}
use Rattle.iol_requests.proofs.words.document_of.Given as goal

-- the octets so far, with the lines of the remaining pairs, are the document
abbrev pub invariant-loop-octet : goal.invariant-loop-octet
invariant-loop-octet l =
    l.document.items ++ lines_of l.within (drop l.octet-index l.pairs) ≡ document_of l.fn.verb l.pairs
