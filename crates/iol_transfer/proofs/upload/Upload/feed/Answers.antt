use Rattle.iol_transfer.proofs.Feeding.{fed-more, fed-whole, fed-only, fed-fault}
use Rattle.iol_transfer.proofs.upload.Upload.feed.Goals as goal

pub returns-clause-more : goal.returns-clause-more
returns-clause-more c = fed-more _ _ _ _ c.take.ensures.step

pub returns-clause-whole : goal.returns-clause-whole
returns-clause-whole c = fed-whole _ _ _ _ c.take.ensures.step c.take.ensures.set

pub returns-clause-only : goal.returns-clause-only
returns-clause-only c = fed-only _ _ _ _ c.take.ensures.step

pub returns-clause-fault : goal.returns-clause-fault
returns-clause-fault c = fed-fault _ _ _ _ c.take.ensures.step c.take.ensures.short
