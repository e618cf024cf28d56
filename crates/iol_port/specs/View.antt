-- A stage in memory, as contracts see it.
use Rattle.iol_port.specs.Stage as port
use Rattle.iol_port.specs.declared.stage.AwaitsAnswer.{AwaitsAnswer}
use Rattle.iol_port.specs.declared.stage.AwaitsAnswer.TheVariants as answer
use Rattle.iol_port.specs.declared.stage.AwaitsCore.{AwaitsCore}
use Rattle.iol_port.specs.declared.stage.AwaitsCore.TheVariants as core
use Rattle.iol_port.specs.declared.stage.SpendsPermit.{SpendsPermit}
use Rattle.iol_port.specs.declared.stage.SpendsPermit.TheVariants as permit
use Rattle.iol_port.specs.declared.stage.Stage.{Stage}
use Rattle.iol_port.specs.declared.stage.Stage.TheVariants as stage
use Rattle.iol_port.specs.declared.stage.Next.{Next}
use Rattle.iol_port.specs.declared.stage.Next.TheVariants as next

-- the stage of a port that awaits an answer of its device (own)
abbrev pub awaiting_answer : AwaitsAnswer → port.Stage
awaiting_answer (answer.Exchanging exchange_for) = port.Exchanging exchange_for
awaiting_answer (answer.Uploading permit page upload) = port.Uploading permit page upload
awaiting_answer (answer.Downloading permit page download) = port.Downloading permit page download
awaiting_answer (answer.Breaking held fault) = port.Breaking held fault

-- the stage of a port that awaits a reply of the core (own)
abbrev pub awaiting_core : AwaitsCore → port.Stage
awaiting_core (core.Attending attend_for) = port.Attending attend_for
awaiting_core (core.BeginningUpload found) = port.BeginningUpload found
awaiting_core (core.BeginningDownload found checksum) = port.BeginningDownload found checksum
awaiting_core (core.Filed page) = port.Filed page
awaiting_core (core.Storing ticket page) = port.Storing ticket page
awaiting_core (core.Returned transfer rest) = port.Returned transfer rest

-- the stage of a port whose next call takes its permit (own)
abbrev pub spending : SpendsPermit → port.Stage
spending (permit.Filing grant page set) = port.Filing grant page set.value
spending (permit.Returning held rest) = port.Returning held rest

-- the stage of a port in memory (own)
abbrev pub stage_of : Stage → port.Stage
stage_of (stage.Settled rest) = port.Settled rest
stage_of (stage.Page page_for) = port.Paging page_for
stage_of (stage.Answer awaited) = awaiting_answer awaited
stage_of (stage.Core awaited) = awaiting_core awaited
stage_of (stage.Permit spent) = spending spent

-- how a machine in memory continues (own)
abbrev pub next_of : Next → port.Next
next_of (next.To stage) = port.To (stage_of stage)
next_of (next.Start work) = port.Start work
