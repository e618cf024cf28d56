-- A permit that was given is held by its machine, or is with the core.
use Rattle.std.proofs.Common.{◌≡◌, ℕ, Bool, true, false, if◌then◌else◌, nat_lt, refl, ap, ◌∙◌, subst}
use Rattle.std.specs.Prelude.{Option, Some, None, Result, Ok, Err, ◌&&◌, ◌==◌, not, length}
use Rattle.iol_types.specs.Config.{is_manual, restores}
use Rattle.iol_link.specs.Reading.{answer_of}
use Rattle.iol_link.specs.declared.messages.Answer.{Answer}
use Rattle.iol_link.specs.declared.faults.IsduFault.{IsduFault}
use Rattle.iol_link.specs.Page.{PageValue, page_of}
use Rattle.iol_link.specs.Validation.{ident_fault}
use Rattle.iol_link.specs.declared.validation.IdentFault.{IdentFault}
use Rattle.iol_transfer.specs.Machine.{Machine, Outcome, More, Whole, Fault, step}
use Rattle.iol_transfer.specs.Download.{Sender}
use Rattle.iol_core.specs.declared.permit.UploadGrant.{UploadGrant}
use Rattle.iol_core.specs.declared.port.Work.{Work}
use Rattle.iol_port.specs.Answers.{state_read, checksum_read, upload_ended, exchanged, uploaded, upload_answered, Sent, GoesOn, Done, Ends}
use Rattle.iol_port.specs.Answers.{sent, downloaded, download_answered, RunsOut}
use Rattle.iol_port.specs.Decision.{decide}
use Rattle.iol_port.specs.Heard.{page_heard, settled_with, judged, resumed, is_under, decided, attended, fed, moved, at_stage}
use Rattle.iol_port.specs.History.{ComesOf, Did, Happens}
use Rattle.iol_port.specs.Stage.{Stage, Settled, Paging, Attending, BeginningUpload, BeginningDownload, Exchanging, Uploading, Filing}
use Rattle.iol_port.specs.Stage.{machine_at, Filed, Storing, Downloading, Breaking, Returning, Returned, PortValue, Next, To, Start}
use Rattle.iol_port.specs.Wanted.{Wanted, wanted, after_action}
use Rattle.iol_port.specs.declared.action.Input.{Input}
use Rattle.iol_port.specs.declared.decision.Decision.{Decision}
use Rattle.iol_port.specs.declared.stage.Rest.{Rest}
use Rattle.iol_port.specs.declared.stage.PageFor.{PageFor}
use Rattle.iol_port.specs.declared.stage.AttendFor.{AttendFor}
use Rattle.iol_port.specs.declared.stage.ExchangeFor.{ExchangeFor}
use Rattle.iol_port.proofs.Keeping.{IsAtHand}
use Rattle.iol_link.specs.declared.messages.Answer.TheVariants as answer
use Rattle.iol_port.specs.declared.action.Input.TheVariants as input
use Rattle.iol_port.specs.declared.decision.Decision.TheVariants as decision
use Rattle.iol_port.specs.declared.stage.Rest.TheVariants as rest
use Rattle.iol_port.specs.declared.stage.PageFor.TheVariants as page_for
use Rattle.iol_port.specs.declared.stage.AttendFor.TheVariants as attend
use Rattle.iol_port.specs.declared.stage.ExchangeFor.TheVariants as exchange
use Rattle.iol_port.specs.declared.stage.Held.TheVariants as held
use Rattle.iol_port.specs.Laws.{held_by}
use Rattle.iol_port.specs.Permits.{IsOfLink}
use Rattle.iol_port.proofs.Feeding.{fed_is}

-- ---- what the link says

none_if : (test : Bool) (one other : Stage) → held_by one ≡ None → held_by other ≡ None → held_by (if test then one else other) ≡ None
none_if true one other first second = first
none_if false one other first second = second

pub exchanged_holds : (what : ExchangeFor) (heard : Result Answer IsduFault) → held_by (exchanged what heard) ≡ None
exchanged_holds (exchange.ReadingState found left) heard = by heard
  where
    by : (heard : Result Answer IsduFault) → held_by (state_read found left heard) ≡ None
    by (Ok (answer.ReadOk octets)) = none_if (length octets.items == 1) _ _ refl refl
    by (Ok answer.Busy) = none_if (nat_lt 1 left) _ _ refl refl
    by other = refl
exchanged_holds (exchange.ReadingChecksum found property left) heard = by heard
  where
    by : (heard : Result Answer IsduFault) → held_by (checksum_read found property left heard) ≡ None
    by (Ok (answer.ReadOk octets)) = none_if (length octets.items == 4) _ _ refl refl
    by (Ok answer.Busy) = none_if (nat_lt 1 left) _ _ refl refl
    by other = refl
exchanged_holds (exchange.EndingUpload page left) heard = by heard
  where
    by : (heard : Result Answer IsduFault) → held_by (upload_ended page left heard) ≡ None
    by (Ok answer.Busy) = none_if (nat_lt 1 left) _ _ refl refl
    by other = refl
exchanged_holds (exchange.Stopping storing) heard = refl
exchanged_holds exchange.Yielding heard = refl

upload_holds : (grant : UploadGrant) (page : PageValue) (upload : Machine) (heard : Result Answer IsduFault)
    → held_by (upload_answered grant page upload heard) ≡ Some (held.Upload grant)
upload_holds grant page upload (Err why) = refl
upload_holds grant page upload (Ok said) = by (step upload said)
  where
    by : (outcome : Outcome) → held_by (uploaded grant page outcome) ≡ Some (held.Upload grant)
    by (More next) = refl
    by (Whole set) = refl
    by (Fault why) = refl

download_holds : (port : ℕ) (page : PageValue) (download : Sender) (heard : Result Answer IsduFault)
    → held_by (download_answered port page download heard) ≡ Some (held.Download port)
download_holds port page download (Err why) = refl
download_holds port page download (Ok said) = by (sent download said)
  where
    by : (now : Sent) → held_by (downloaded port page now) ≡ Some (held.Download port)
    by (GoesOn next) = refl
    by Done = refl
    by (Ends why) = refl

-- a machine that continues holds no permit
abbrev pub GoesFree : Next → Type 0
GoesFree (To stage) = held_by stage ≡ None
GoesFree (Start work) = Unit {0}

pub moved_holds : (value : PortValue) (next : Next) → GoesFree next → held_by (moved value next).stage ≡ None
moved_holds value (To stage) free = free
moved_holds value (Start work) free = none_if (is_manual work.config.mode) _ _ refl refl

free_if : (test : Bool) (one other : Next) → GoesFree one → GoesFree other → GoesFree (if test then one else other)
free_if true one other first second = first
free_if false one other first second = second

pub page_free : (what : PageFor) (connection : ℕ) (page : PageValue) → GoesFree (page_heard what connection page)
page_free (page_for.Comparing work own) connection page = free_if (settled_with own page) _ _ refl tt
page_free (page_for.Identifying work) connection page = by (ident_fault work.config page)
  where
    by : (why : Option IdentFault) → held_by (judged work connection page why) ≡ None
    by None = none_if (restores work.config.validation) _ _ refl refl
    by (Some why) = refl

pub attended_free : (started : Option ℕ) (requested : Bool) (what : AttendFor) (work : Option Work)
    → GoesFree (attended started requested what work)
attended_free started requested what None = refl
attended_free started requested (attend.Waking own) (Some work) = free_if (is_under started work.revision && not requested) _ _ (by own) tt
  where
    by : (own : Rest) → GoesFree (resumed own work)
    by rest.Off = refl
    by rest.Lost = tt
    by (rest.Failed why) = tt
    by own = refl
attended_free started requested (attend.Confirming found property checksum) (Some work) =
    free_if (found.work.revision == work.revision) _ _
    (by (decide work.config.validation property.state property.flag checksum work.checksum)) tt
  where
    by : (now : Decision) → held_by (decided found checksum now) ≡ None
    by decision.Ready = refl
    by decision.ReadyLocked = refl
    by decision.ReadyEmpty = refl
    by decision.Upload = refl
    by decision.Download = refl
attended_free started requested attend.Restarting (Some work) = tt

link_holds : (port : ℕ) (started : Option ℕ) (requested : Bool) (stage : Stage) (heard : Input) → IsAtHand stage → IsOfLink heard
    → ComesOf (wanted port stage) heard
    → held_by (fed (machine_at port started requested (after_action stage)) heard).stage ≡ held_by stage
link_holds port started requested stage (input.Reply heard) hand link comes = absurd link
link_holds port started requested (Settled own) input.Wake hand link comes = refl
link_holds port started requested (Settled own) heard hand link comes = absurd comes
link_holds port started requested (Paging what) (input.Page connection octets) hand link comes =
    moved_holds (machine_at port started requested (Paging what)) (page_heard what connection (page_of octets))
    (page_free what connection (page_of octets))
link_holds port started requested (Paging what) input.Lost hand link comes = refl
link_holds port started requested (Paging what) heard hand link comes = absurd comes
link_holds port started requested (Attending what) heard hand link comes = absurd comes
link_holds port started requested (BeginningUpload found) heard hand link comes = absurd comes
link_holds port started requested (BeginningDownload found checksum) heard hand link comes = absurd comes
link_holds port started requested (Exchanging what) (input.Octets octets) hand link comes = exchanged_holds what (answer_of octets.items)
link_holds port started requested (Exchanging what) input.Lost hand link comes = refl
link_holds port started requested (Exchanging what) heard hand link comes = absurd comes
link_holds port started requested (Uploading grant page upload) (input.Octets octets) hand link comes =
    upload_holds grant page upload (answer_of octets.items)
link_holds port started requested (Uploading grant page upload) input.Lost hand link comes = refl
link_holds port started requested (Uploading grant page upload) heard hand link comes = absurd comes
link_holds port started requested (Filing grant page set) heard hand link comes = absurd comes
link_holds port started requested (Filed page) heard hand link comes = absurd cc
link_holds port started requested (Storing number page) heard hand link comes = absurd comes
link_holds port started requested (Downloading permit page download) (input.Octets octets) hand link comes =
    download_holds permit page download (answer_of octets.items)
link_holds port started requested (Downloading permit page download) input.Lost hand link comes = refl
link_holds port started requested (Downloading permit page download) heard hand link comes = absurd comes
link_holds port started requested (Breaking holder why) (input.Octets octets) hand link comes = refl
link_holds port started requested (Breaking holder why) input.Lost hand link comes = refl
link_holds port started requested (Breaking holder why) heard hand link comes = absurd comes
link_holds port started requested (Returning (held.Upload permit) own) heard hand link comes = absurd comes
link_holds port started requested (Returning (held.Download permit) own) heard hand link comes = absurd comes
link_holds port started requested (Returned transfer own) heard hand link comes = absurd cc

runs_out_holds : (stage : Stage) (heard : Result Answer IsduFault) (new : Stage) → RunsOut stage heard new → held_by new ≡ held_by stage
runs_out_holds (Uploading grant page upload) heard new out = ap held_by out.1
runs_out_holds stage heard new out = absurd out

after_holds : (port : ℕ) (stage : Stage) (heard : Result Answer IsduFault) (new : Stage) → RunsOut (after_action stage) heard new
    → held_by (after_action stage) ≡ held_by stage
after_holds port (Uploading grant page upload) heard new out = refl
after_holds port (Filing grant page set) heard new out = absurd out
after_holds port (Returning holder own) heard new out = absurd out
after_holds port stage heard new out = absurd out

pub link_keeps : (old new : PortValue) (wants : Wanted) (heard : Input) → IsAtHand old.stage → IsOfLink heard
    → Happens old (Did wants heard) new
    → held_by new.stage ≡ held_by old.stage
link_keeps old new wants heard hand link happens =
    fed_is (λ value. held_by value.stage ≡ held_by old.stage) (at_stage old (after_action old.stage)) new heard happens.2
    (link_holds old.port old.started_revision old.upload_requested old.stage heard hand link
    (subst (λ w. ComesOf w heard) happens.0 happens.1))
    (λ octets stage out. runs_out_holds (after_action old.stage) (answer_of octets.items) stage out
    ∙ after_holds old.port old.stage (answer_of octets.items) stage out)
