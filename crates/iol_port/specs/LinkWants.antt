-- What a port needs from its link.
use Rattle.iol_transfer.specs.declared.command.DsCommand.TheVariants as command
use Rattle.iol_transfer.specs.Command.{commanded}
use Rattle.iol_transfer.specs.Machine.{asked}
use Rattle.iol_transfer.specs.Download.{sent_by}
use Rattle.iol_port.specs.Stage.{Stage, Paging, Exchanging, Uploading, Downloading, Breaking}
use Rattle.iol_port.specs.Wanted.{request_for}
use Rattle.iol_port.specs.declared.action.Want.{Want}
use Rattle.iol_port.specs.declared.action.Want.TheVariants as want

-- what a port needs from its link: the page, an answer, or nothing (own)
abbrev pub link_wanted : Stage → Want
link_wanted (Paging page_for) = want.Page
link_wanted (Exchanging exchange_for) = want.Answer (request_for exchange_for)
link_wanted (Uploading grant page upload) = want.Answer (asked upload)
link_wanted (Downloading permit page download) = want.Answer (sent_by download.sends)
link_wanted (Breaking held fault) = want.Answer (commanded command.Break)
link_wanted _ = want.Nothing
