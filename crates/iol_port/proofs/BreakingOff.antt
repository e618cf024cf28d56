-- A transfer that has failed is broken off.
use Rattle.std.proofs.Common.{◌≡◌, ℕ, Bool, refl, sym, ap, ◌∙◌, subst}
use Rattle.std.specs.Prelude.{Option, Some, None, Result, Ok, Err}
use Rattle.arrayvec.specs.ArrayVec.{ArrayVec}
use Rattle.iol_link.specs.Reading.{answer_of}
use Rattle.iol_link.specs.declared.messages.Answer.{Answer}
use Rattle.iol_link.specs.declared.faults.IsduFault.{IsduFault}
use Rattle.iol_link.specs.Page.{PageValue, page_of}
use Rattle.iol_transfer.specs.declared.command.DsCommand.TheVariants as command
use Rattle.iol_transfer.specs.Command.{commanded}
use Rattle.iol_transfer.specs.Machine.{Machine, Outcome, More, Whole, Fault, step}
use Rattle.iol_transfer.specs.Download.{Sender}
use Rattle.iol_core.specs.declared.permit.UploadGrant.{UploadGrant}
use Rattle.iol_core.specs.declared.upload.PermitFault.{PermitFault}
use Rattle.iol_core.specs.declared.upload.FinishFault.{FinishFault}
use Rattle.iol_core.specs.declared.upload.FinishFault.TheVariants as finish
use Rattle.iol_core.specs.declared.download.DownloadBegun.{DownloadBegun}
use Rattle.iol_core.specs.declared.download.DownloadFault.{DownloadFault}
use Rattle.iol_core.specs.declared.ticket.TicketState.{TicketState}
use Rattle.iol_core.specs.declared.ticket.TicketState.TheVariants as ticket
use Rattle.iol_port.specs.Answers.{exchanged, uploaded, upload_answered, Sent, GoesOn, Done, Ends, sent, downloaded, download_answered}
use Rattle.iol_port.specs.Answers.{RunsOut}
use Rattle.iol_port.specs.Heard.{page_heard, attended, upload_begun, download_begun, upload_finished, ticket_told, IsFed, fed, moved}
use Rattle.iol_port.specs.Heard.{at_stage}
use Rattle.iol_port.specs.History.{ComesOf, Did, Happens}
use Rattle.iol_port.specs.Laws.{held_by}
use Rattle.iol_port.specs.Stage.{Stage, Settled, Paging, Attending, BeginningUpload, BeginningDownload, Exchanging, Uploading, Filing}
use Rattle.iol_port.specs.Stage.{machine_at, Filed, Storing, Downloading, Breaking, Returning, Returned, PortValue}
use Rattle.iol_port.specs.Wanted.{Wanted, AnswerTo, wanted, after_action}
use Rattle.iol_port.specs.declared.action.Input.{Input}
use Rattle.iol_port.specs.declared.action.Input.TheVariants as input
use Rattle.iol_port.specs.declared.call.Reply.TheVariants as reply
use Rattle.iol_port.specs.declared.fault.PortFault.{PortFault}
use Rattle.iol_port.specs.declared.stage.Held.{Held}
use Rattle.iol_port.specs.declared.stage.Held.TheVariants as held
use Rattle.iol_port.specs.declared.stage.Rest.TheVariants as rest
use Rattle.iol_port.proofs.Holding.{exchanged_holds, page_free, attended_free, moved_holds}
use Rattle.iol_port.proofs.Feeding.{fed_is}

-- a permit that is returned as that of a failed transfer was held, and DS_Break was wanted and answered
abbrev Breaks : Wanted → Input → Stage → Stage → Type 0
Breaks wants heard was (Returning holder (rest.Failed why)) =
    (held_by was ≡ Some holder) × (wants ≡ AnswerTo (commanded command.Break)) × ((octets : ArrayVec ℕ) × (heard ≡ input.Octets octets))
Breaks wants heard was stage = Unit {0}

free_breaks : (wants : Wanted) (heard : Input) (was stage : Stage) → held_by stage ≡ None → Breaks wants heard was stage
free_breaks wants heard was (Returning holder own) free = absurd cc
free_breaks wants heard was stage free = tt

upload_breaks : (wants : Wanted) (said : Input) (was : Stage) (grant : UploadGrant) (page : PageValue) (upload : Machine)
    (heard : Result Answer IsduFault)
    → Breaks wants said was (upload_answered grant page upload heard)
upload_breaks wants said was grant page upload (Err why) = tt
upload_breaks wants said was grant page upload (Ok heard) = by (step upload heard)
  where
    by : (outcome : Outcome) → Breaks wants said was (uploaded grant page outcome)
    by (More next) = tt
    by (Whole set) = tt
    by (Fault why) = tt

download_breaks : (wants : Wanted) (said : Input) (was : Stage) (port : ℕ) (page : PageValue) (download : Sender)
    (heard : Result Answer IsduFault)
    → Breaks wants said was (download_answered port page download heard)
download_breaks wants said was port page download (Err why) = tt
download_breaks wants said was port page download (Ok heard) = by (sent download heard)
  where
    by : (now : Sent) → Breaks wants said was (downloaded port page now)
    by (GoesOn next) = tt
    by Done = tt
    by (Ends why) = tt

begun_breaks : (wants : Wanted) (heard : Input) (was : Stage) (page : PageValue) (begins : Result UploadGrant PermitFault)
    → Breaks wants heard was (upload_begun page begins)
begun_breaks wants heard was page (Ok grant) = tt
begun_breaks wants heard was page (Err why) = tt

download_begun_breaks : (wants : Wanted) (heard : Input) (was : Stage) (page : PageValue) (begins : Result DownloadBegun DownloadFault)
    → Breaks wants heard was (download_begun page begins)
download_begun_breaks wants heard was page (Ok begins) = tt
download_begun_breaks wants heard was page (Err why) = tt

finished_breaks : (wants : Wanted) (heard : Input) (was : Stage) (page : PageValue) (finished : Result ℕ FinishFault)
    → Breaks wants heard was (upload_finished page finished)
finished_breaks wants heard was page (Ok number) = tt
finished_breaks wants heard was page (Err finish.Stopped) = tt
finished_breaks wants heard was page (Err finish.ConfigChanged) = tt
finished_breaks wants heard was page (Err (finish.QueueFull permit set)) = tt
finished_breaks wants heard was page (Err (finish.Exhausted permit set)) = tt
finished_breaks wants heard was page (Err (finish.Memory permit set)) = tt

ticket_breaks : (wants : Wanted) (heard : Input) (was : Stage) (number : ℕ) (page : PageValue) (state : TicketState)
    → Breaks wants heard was (ticket_told number page state)
ticket_breaks wants heard was number page ticket.Waiting = tt
ticket_breaks wants heard was number page ticket.Durable = tt
ticket_breaks wants heard was number page ticket.Unsure = tt

-- any outcome of what was wanted
comes_breaks : (port : ℕ) (started : Option ℕ) (requested : Bool) (stage : Stage) (heard : Input) → ComesOf (wanted port stage) heard
    → Breaks (wanted port stage) heard stage
    (fed (machine_at port started requested (after_action stage)) heard).stage
comes_breaks port started requested (Settled own) input.Wake comes = tt
comes_breaks port started requested (Settled own) heard comes = absurd comes
comes_breaks port started requested (Paging what) (input.Page connection octets) comes =
    free_breaks (wanted port (Paging what)) (input.Page connection octets) (Paging what)
    (moved (machine_at port started requested (Paging what)) (page_heard what connection (page_of octets))).stage
    (moved_holds (machine_at port started requested (Paging what)) (page_heard what connection (page_of octets))
    (page_free what connection (page_of octets)))
comes_breaks port started requested (Paging what) input.Lost comes = tt
comes_breaks port started requested (Paging what) heard comes = absurd comes
comes_breaks port started requested (Attending what) (input.Reply (reply.Attended work)) comes =
    free_breaks (wanted port (Attending what)) (input.Reply (reply.Attended work)) (Attending what)
    (moved (machine_at port started requested (Attending what)) (attended started requested what work)).stage
    (moved_holds (machine_at port started requested (Attending what)) (attended started requested what work)
    (attended_free started requested what work))
comes_breaks port started requested (Attending what) heard comes = absurd comes
comes_breaks port started requested (BeginningUpload found) (input.Reply (reply.BegunUpload begins)) comes =
    begun_breaks (wanted port (BeginningUpload found)) (input.Reply (reply.BegunUpload begins)) (BeginningUpload found) found.page begins
comes_breaks port started requested (BeginningUpload found) heard comes = absurd comes
comes_breaks port started requested (BeginningDownload found checksum) (input.Reply (reply.BegunDownload begins)) comes =
    download_begun_breaks (wanted port (BeginningDownload found checksum)) (input.Reply (reply.BegunDownload begins))
    (BeginningDownload found checksum) found.page begins
comes_breaks port started requested (BeginningDownload found checksum) heard comes = absurd comes
comes_breaks port started requested (Exchanging what) (input.Octets octets) comes =
    free_breaks (wanted port (Exchanging what)) (input.Octets octets) (Exchanging what) (exchanged what (answer_of octets.items))
    (exchanged_holds what (answer_of octets.items))
comes_breaks port started requested (Exchanging what) input.Lost comes = tt
comes_breaks port started requested (Exchanging what) heard comes = absurd comes
comes_breaks port started requested (Uploading grant page upload) (input.Octets octets) comes =
    upload_breaks (wanted port (Uploading grant page upload)) (input.Octets octets) (Uploading grant page upload) grant page upload
    (answer_of octets.items)
comes_breaks port started requested (Uploading grant page upload) input.Lost comes = tt
comes_breaks port started requested (Uploading grant page upload) heard comes = absurd comes
comes_breaks port started requested (Filing grant page set) (input.Reply (reply.FinishedUpload finished)) comes =
    finished_breaks (wanted port (Filing grant page set)) (input.Reply (reply.FinishedUpload finished))
    (Filing grant page set) page finished
comes_breaks port started requested (Filing grant page set) heard comes = absurd comes
comes_breaks port started requested (Filed page) input.Wake comes = tt
comes_breaks port started requested (Filed page) heard comes = absurd comes
comes_breaks port started requested (Storing number page) (input.Reply (reply.Ticket state)) comes =
    ticket_breaks (wanted port (Storing number page)) (input.Reply (reply.Ticket state)) (Storing number page) number page state
comes_breaks port started requested (Storing number page) heard comes = absurd comes
comes_breaks port started requested (Downloading permit page download) (input.Octets octets) comes =
    download_breaks (wanted port (Downloading permit page download)) (input.Octets octets)
    (Downloading permit page download) permit page download (answer_of octets.items)
comes_breaks port started requested (Downloading permit page download) input.Lost comes = tt
comes_breaks port started requested (Downloading permit page download) heard comes = absurd comes
comes_breaks port started requested (Breaking holder why) (input.Octets octets) comes = (refl, refl, (octets, refl))
comes_breaks port started requested (Breaking holder why) input.Lost comes = tt
comes_breaks port started requested (Breaking holder why) heard comes = absurd comes
comes_breaks port started requested (Returning (held.Upload permit) own) (input.Reply reply.AbandonedUpload) comes = tt
comes_breaks port started requested (Returning (held.Upload permit) own) heard comes = absurd comes
comes_breaks port started requested (Returning (held.Download permit) own) (input.Reply reply.EndedDownload) comes = tt
comes_breaks port started requested (Returning (held.Download permit) own) heard comes = absurd comes
comes_breaks port started requested (Returned transfer own) input.Wake comes = tt
comes_breaks port started requested (Returned transfer own) heard comes = absurd comes

out_breaks : (wants : Wanted) (said : Input) (was stage : Stage) (heard : Result Answer IsduFault) (new : Stage) → RunsOut stage heard new
    → Breaks wants said was new
out_breaks wants said was (Uploading grant page upload) heard new out = subst (Breaks wants said was) (sym out.1) tt
out_breaks wants said was stage heard new out = absurd out

-- the same if memory ran out
fed_breaks : (old new : PortValue) (heard : Input) → ComesOf (wanted old.port old.stage) heard
    → IsFed (at_stage old (after_action old.stage)) heard new
    → Breaks (wanted old.port old.stage) heard old.stage new.stage
fed_breaks old new heard comes fed_so =
    fed_is (λ value. Breaks (wanted old.port old.stage) heard old.stage value.stage)
    (at_stage old (after_action old.stage)) new heard fed_so
    (comes_breaks old.port old.started_revision old.upload_requested old.stage heard comes)
    (λ octets stage runs. out_breaks (wanted old.port old.stage) heard old.stage (after_action old.stage)
    (answer_of octets.items) stage runs)

pub failed_breaks : (old new : PortValue) (wants : Wanted) (heard : Input) (holder : Held) (why : PortFault)
    → Happens old (Did wants heard) new
    → new.stage ≡ Returning holder (rest.Failed why)
    → (held_by old.stage ≡ Some holder) × (wants ≡ AnswerTo (commanded command.Break))
    × ((octets : ArrayVec ℕ) × (heard ≡ input.Octets octets))
failed_breaks old new wants heard holder why happens returns =
    let breaks : Breaks wants heard old.stage new.stage =
    subst (λ w. Breaks w heard old.stage new.stage) (sym happens.0)
    (fed_breaks old new heard (subst (λ w. ComesOf w heard) happens.0 happens.1) happens.2) in
    subst (Breaks wants heard old.stage) returns breaks

-- ---- if the core took the permit

refused : (port : ℕ) (started : Option ℕ) (requested : Bool) (stage : Stage) (why : FinishFault)
    → ComesOf (wanted port stage) (input.Reply (reply.FinishedUpload (Err why)))
    → (page : PageValue)
    × ((fed (machine_at port started requested (after_action stage))
    (input.Reply (reply.FinishedUpload (Err why)))).stage
    ≡ upload_finished page (Err why))
refused port started requested (Filing grant page set) why comes = (page, refl)
refused port started requested (Returning (held.Upload permit) own) why comes = absurd comes
refused port started requested (Returning (held.Download permit) own) why comes = absurd comes
refused port started requested stage why comes = absurd comes

unknown : (port : ℕ) (started : Option ℕ) (requested : Bool) (stage : Stage)
    → ComesOf (wanted port stage) (input.Reply (reply.Ticket ticket.Unsure))
    → (number : ℕ) × (page : PageValue)
    × ((fed (machine_at port started requested (after_action stage))
    (input.Reply (reply.Ticket ticket.Unsure))).stage
    ≡ ticket_told number page ticket.Unsure)
unknown port started requested (Storing number page) comes = (number, page, refl)
unknown port started requested (Returning (held.Upload permit) own) comes = absurd comes
unknown port started requested (Returning (held.Download permit) own) comes = absurd comes
unknown port started requested stage comes = absurd comes

pub stopped_breaks : (old new : PortValue) (wants : Wanted)
    → Happens old (Did wants (input.Reply (reply.FinishedUpload (Err finish.Stopped)))) new
    → wanted new.port new.stage ≡ AnswerTo (commanded command.Break)
stopped_breaks old new wants happens =
    let was = refused old.port old.started_revision old.upload_requested old.stage finish.Stopped
    (subst (λ w. ComesOf w (input.Reply (reply.FinishedUpload (Err finish.Stopped)))) happens.0 happens.1) in
    ap (wanted new.port) (ap (λ (value : PortValue). value.stage) happens.2 ∙ was.1)

pub changed_breaks : (old new : PortValue) (wants : Wanted)
    → Happens old (Did wants (input.Reply (reply.FinishedUpload (Err finish.ConfigChanged)))) new
    → wanted new.port new.stage ≡ AnswerTo (commanded command.Break)
changed_breaks old new wants happens =
    let was = refused old.port old.started_revision old.upload_requested old.stage finish.ConfigChanged
    (subst (λ w. ComesOf w (input.Reply (reply.FinishedUpload (Err finish.ConfigChanged)))) happens.0 happens.1) in
    ap (wanted new.port) (ap (λ (value : PortValue). value.stage) happens.2 ∙ was.1)

pub unsure_breaks : (old new : PortValue) (wants : Wanted) → Happens old (Did wants (input.Reply (reply.Ticket ticket.Unsure))) new
    → wanted new.port new.stage ≡ AnswerTo (commanded command.Break)
unsure_breaks old new wants happens =
    let was = unknown old.port old.started_revision old.upload_requested old.stage
    (subst (λ w. ComesOf w (input.Reply (reply.Ticket ticket.Unsure))) happens.0 happens.1) in
    ap (wanted new.port) (ap (λ (value : PortValue). value.stage) happens.2 ∙ was.2)
