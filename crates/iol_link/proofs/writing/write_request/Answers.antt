use Rattle.iol_link.proofs.Lengths.{shortest_write}
use Rattle.iol_link.proofs.writing.write_request.Goals as goal

pub returns-in-Write : goal.returns-in-Write
returns-in-Write c =
    rw c.in-Write.is (shortest_write _ _ _ c.in-Write.octets
    (rw c.as_slice.ensures.value at c.as_slice.ensures.fits)
    (rw c.as_slice.ensures.value at c.shortest_request-in-Write.ensures))
