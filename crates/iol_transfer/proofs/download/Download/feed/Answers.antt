use Rattle.iol_transfer.proofs.Sending.{fed-on, fed-done, fed-last}
use Rattle.iol_transfer.proofs.download.Download.feed.Goals as goal

pub returns-clause-more : goal.returns-clause-more
returns-clause-more c = fed-on _ _ _ _ c.take.ensures

pub returns-clause-whole : goal.returns-clause-whole
returns-clause-whole c = fed-done _ _ _ _ c.take.ensures

pub returns-clause-only : goal.returns-clause-only
returns-clause-only c = fed-last _ _ _ _ c.take.ensures
