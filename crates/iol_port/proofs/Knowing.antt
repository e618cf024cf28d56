-- What is known of the device of a port at each stage, by the history.
use Rattle.iol_port.specs.Stage.{Stage, Settled, Paging, Attending, BeginningUpload, BeginningDownload, Exchanging, Uploading, Filing}
use Rattle.iol_port.specs.Stage.{Filed, Storing, Downloading, Breaking, Returning, Returned, Next, To, Start}
use Rattle.iol_port.specs.Wanted.{Wanted, AnswerTo}
use Rattle.iol_port.specs.History.{Happening, Raised, Did}
use Rattle.iol_transfer.specs.Exchanges.{Exchange}
use Rattle.iol_link.specs.declared.messages.Request.{Request}
use Rattle.iol_port.specs.declared.call.Reply.{Reply}
use Rattle.iol_port.specs.declared.stage.Rest.{Rest}
use Rattle.iol_port.specs.declared.stage.FoundDevice.{FoundDevice}
use Rattle.iol_port.specs.declared.stage.PageFor.{PageFor}
use Rattle.iol_port.specs.declared.stage.AttendFor.{AttendFor}
use Rattle.iol_port.specs.declared.stage.ExchangeFor.{ExchangeFor}
use Rattle.std.proofs.Common.{◌≡◌, inl, ℕ, true, List, [], ◌∷◌, refl, ◌∙◌}
use Rattle.std.specs.Prelude.{Some, None, Ok}
use Rattle.iol_link.specs.Reading.{answer_of}
use Rattle.iol_link.specs.declared.messages.Answer.{Answer}
use Rattle.iol_link.specs.Page.{PageValue}
use Rattle.iol_link.specs.Validation.{ident_fault}
use Rattle.arrayvec.specs.ArrayVec.{ArrayVec}
use Rattle.iol_core.specs.declared.port.Work.{Work}
use Rattle.iol_port.specs.declared.action.Input.TheVariants as input
use Rattle.iol_port.specs.declared.call.Reply.TheVariants as reply
use Rattle.iol_port.specs.declared.stage.Rest.TheVariants as rest
use Rattle.iol_port.specs.declared.stage.PageFor.TheVariants as page_for
use Rattle.iol_port.specs.declared.stage.AttendFor.TheVariants as attend
use Rattle.iol_port.specs.declared.stage.ExchangeFor.TheVariants as exchange
use Rattle.std.proofs.Common.{◌++◌}
use Rattle.iol_port.specs.Laws.{last_work}
use Rattle.std.proofs.Common.{◌⊎◌}
use Rattle.iol_types.specs.Config.{is_manual}
use Rattle.iol_port.specs.Laws.{HasSaid, IsKnown, IsJudged, HasShown}
use Rattle.iol_port.specs.Status.{status_of, status_at_rest}
use Rattle.iol_port.specs.declared.status.PortStatus.{PortStatus}

-- a device was found, and the core has said nothing since
pub record IsFound (found : FoundDevice) (history : List Happening) : Type 0 where
  pub conversation : List Exchange
  pub shown : HasShown found.connection found.page conversation history
  pub manual : is_manual found.work.config.mode ≡ true
  pub wanted : ident_fault found.work.config found.page ≡ None
  pub said : last_work history ≡ Some found.work

-- a port that had this status settles so: the status is the same, or there is a reason
abbrev pub Lands : PortStatus → List Happening → Rest → Type 0
Lands was history own = (status_at_rest own ≡ was) ⊎ IsJudged own history

-- how a port is to settle once its permit is returned
abbrev pub KnownAt : List Happening → Rest → Type 0
KnownAt history rest.Lost = Unit {0}
KnownAt history (rest.Failed why) = Unit {0}
KnownAt history (rest.Ready page) = IsKnown page history
KnownAt history _ = ⊥

abbrev pub KnownPaging : List Happening → PageFor → Type 0
KnownPaging history (page_for.Comparing work own) = last_work history ≡ Some work
KnownPaging history (page_for.Identifying work) = (last_work history ≡ Some work) × (is_manual work.config.mode ≡ true)

abbrev pub KnownAttending : List Happening → AttendFor → Type 0
KnownAttending history (attend.Waking own) = Unit {0}
KnownAttending history (attend.Confirming found property checksum) = IsFound found history
KnownAttending history attend.Restarting = Unit {0}

abbrev pub KnownExchanging : List Happening → ExchangeFor → Type 0
KnownExchanging history (exchange.ReadingState found left) = IsFound found history
KnownExchanging history (exchange.ReadingChecksum found property left) = IsFound found history
KnownExchanging history (exchange.EndingUpload page left) = IsKnown page history
KnownExchanging history (exchange.Stopping storing) = Unit {0}
KnownExchanging history exchange.Yielding = Unit {0}

-- what is known at a stage, of a port that had this status before
abbrev pub KnownIs : PortStatus → List Happening → Stage → Type 0
KnownIs was history (Settled own) = Lands was history own
KnownIs was history (Paging what) = KnownPaging history what
KnownIs was history (Attending what) = KnownAttending history what
KnownIs was history (BeginningUpload found) = IsKnown found.page history
KnownIs was history (BeginningDownload found checksum) = IsKnown found.page history
KnownIs was history (Exchanging what) = KnownExchanging history what
KnownIs was history (Uploading grant page upload) = IsKnown page history
KnownIs was history (Filing grant page set) = IsKnown page history
KnownIs was history (Filed page) = Unit {0}
KnownIs was history (Storing number page) = IsKnown page history
KnownIs was history (Downloading permit page download) = IsKnown page history
KnownIs was history (Breaking holder why) = Unit {0}
KnownIs was history (Returning holder own) = KnownAt history own
KnownIs was history (Returned transfer own) = Unit {0}

abbrev pub NextKnown : PortStatus → List Happening → Next → Type 0
NextKnown was history (To stage) = KnownIs was history stage
NextKnown was history (Start work) = last_work history ≡ Some work

-- ---- what is known stays known

-- a reply that does not say what is to be done
abbrev pub IsOtherReply : Reply → Type 0
IsOtherReply (reply.Attended work) = ⊥
IsOtherReply _ = Unit {0}

other_work : (wants : Wanted) (heard : Reply) (before : List Happening) → IsOtherReply heard
    → last_work (Did wants (input.Reply heard) ∷ before) ≡ last_work before
other_work wants (reply.Attended work) before other = absurd other
other_work wants (reply.BegunUpload begins) before other = refl
other_work wants (reply.FinishedUpload finished) before other = refl
other_work wants reply.AbandonedUpload before other = refl
other_work wants (reply.Ticket state) before other = refl
other_work wants (reply.BegunDownload begins) before other = refl
other_work wants reply.EndedDownload before other = refl

other_said : (work : Work) (wants : Wanted) (heard : Reply) (before : List Happening) → IsOtherReply heard → HasSaid work before
    → HasSaid work (Did wants (input.Reply heard) ∷ before)
other_said work wants (reply.Attended own) before other is = absurd other
other_said work wants (reply.BegunUpload begins) before other is = is
other_said work wants (reply.FinishedUpload finished) before other is = is
other_said work wants reply.AbandonedUpload before other is = is
other_said work wants (reply.Ticket state) before other is = is
other_said work wants (reply.BegunDownload begins) before other is = is
other_said work wants reply.EndedDownload before other is = is

pub known_replied : (page : PageValue) (wants : Wanted) (heard : Reply) (before : List Happening) → IsOtherReply heard → IsKnown page before
    → IsKnown page (Did wants (input.Reply heard) ∷ before)
known_replied page wants heard before other is = record {
  connection = is.connection;
  conversation = is.conversation;
  work = is.work;
  last = is.last;
  shown = is.shown;
  earlier = other_said is.work wants heard before other is.earlier;
  manual = is.manual;
  wanted = is.wanted;
  said = other_work wants heard before other ∙ is.said;
  revision = is.revision;
}

pub known_answered : (page : PageValue) (request : Request) (octets : ArrayVec ℕ) (said : Answer) (before : List Happening)
    → IsKnown page before
    → answer_of octets.items ≡ Ok said → IsKnown page (Did (AnswerTo request) (input.Octets octets) ∷ before)
known_answered page request octets said before is read = record {
  connection = is.connection;
  conversation = is.conversation ++ record { request = request; answer = said } ∷ [];
  work = is.work;
  last = is.last;
  shown = (is.conversation, said, is.shown, read, refl);
  earlier = is.earlier;
  manual = is.manual;
  wanted = is.wanted;
  said = is.said;
  revision = is.revision;
}

pub known_raised : (page : PageValue) (code : ℕ) (before : List Happening) → IsKnown page before → IsKnown page (Raised code ∷ before)
known_raised page code before is = record {
  connection = is.connection;
  conversation = is.conversation;
  work = is.work;
  last = is.last;
  shown = is.shown;
  earlier = is.earlier;
  manual = is.manual;
  wanted = is.wanted;
  said = is.said;
  revision = is.revision;
}

pub found_answered : (found : FoundDevice) (request : Request) (octets : ArrayVec ℕ) (said : Answer) (before : List Happening)
    → IsFound found before
    → answer_of octets.items ≡ Ok said → IsFound found (Did (AnswerTo request) (input.Octets octets) ∷ before)
found_answered found request octets said before is read = record {
  conversation = is.conversation ++ record { request = request; answer = said } ∷ [];
  shown = (is.conversation, said, is.shown, read, refl);
  manual = is.manual;
  wanted = is.wanted;
  said = is.said;
}

pub found_raised : (found : FoundDevice) (code : ℕ) (before : List Happening) → IsFound found before → IsFound found (Raised code ∷ before)
found_raised found code before is =
    record { conversation = is.conversation; shown = is.shown; manual = is.manual; wanted = is.wanted; said = is.said }

-- the work that the core returned last was once returned
pub last_said : (work : Work) (history : List Happening) → last_work history ≡ Some work → HasSaid work history
last_said work [] is = absurd cc
last_said work (Raised code ∷ before) is = last_said work before is
last_said work (Did wants (input.Reply (reply.Attended None)) ∷ before) is = absurd cc
last_said work (Did wants (input.Reply (reply.Attended (Some own))) ∷ before) is = inl cc
last_said work (Did wants (input.Reply (reply.BegunUpload begins)) ∷ before) is = last_said work before is
last_said work (Did wants (input.Reply (reply.FinishedUpload finished)) ∷ before) is = last_said work before is
last_said work (Did wants (input.Reply reply.AbandonedUpload) ∷ before) is = last_said work before is
last_said work (Did wants (input.Reply (reply.Ticket state)) ∷ before) is = last_said work before is
last_said work (Did wants (input.Reply (reply.BegunDownload begins)) ∷ before) is = last_said work before is
last_said work (Did wants (input.Reply reply.EndedDownload) ∷ before) is = last_said work before is
last_said work (Did wants input.Wake ∷ before) is = last_said work before is
last_said work (Did wants (input.Event code) ∷ before) is = last_said work before is
last_said work (Did wants (input.Page connection octets) ∷ before) is = last_said work before is
last_said work (Did wants (input.Octets octets) ∷ before) is = last_said work before is
last_said work (Did wants input.Lost ∷ before) is = last_said work before is

-- ---- events

raised_paging : (history : List Happening) (code : ℕ) (what : PageFor) → KnownPaging history what → KnownPaging (Raised code ∷ history) what
raised_paging history code (page_for.Comparing work own) is = is
raised_paging history code (page_for.Identifying work) is = is

raised_attending : (history : List Happening) (code : ℕ) (what : AttendFor) → KnownAttending history what
    → KnownAttending (Raised code ∷ history) what
raised_attending history code (attend.Waking own) is = tt
raised_attending history code (attend.Confirming found property checksum) is = found_raised found code history is
raised_attending history code attend.Restarting is = tt

raised_exchanging : (history : List Happening) (code : ℕ) (what : ExchangeFor) → KnownExchanging history what
    → KnownExchanging (Raised code ∷ history) what
raised_exchanging history code (exchange.ReadingState found left) is = found_raised found code history is
raised_exchanging history code (exchange.ReadingChecksum found property left) is = found_raised found code history is
raised_exchanging history code (exchange.EndingUpload page left) is = known_raised page code history is
raised_exchanging history code (exchange.Stopping storing) is = tt
raised_exchanging history code exchange.Yielding is = tt

raised_at : (history : List Happening) (code : ℕ) (own : Rest) → KnownAt history own → KnownAt (Raised code ∷ history) own
raised_at history code rest.Lost is = tt
raised_at history code (rest.Failed why) is = tt
raised_at history code (rest.Ready page) is = known_raised page code history is
raised_at history code rest.Off is = absurd is
raised_at history code (rest.ReadyLocked page) is = absurd is
raised_at history code (rest.ReadyEmpty page) is = absurd is
raised_at history code (rest.Mismatch why page) is = absurd is

pub raised_known : (was : PortStatus) (history : List Happening) (code : ℕ) (stage : Stage) → KnownIs was history stage
    → KnownIs (status_of stage) (Raised code ∷ history) stage
raised_known was history code (Settled own) is = inl refl
raised_known was history code (Paging what) is = raised_paging history code what is
raised_known was history code (Attending what) is = raised_attending history code what is
raised_known was history code (BeginningUpload found) is = known_raised found.page code history is
raised_known was history code (BeginningDownload found checksum) is = known_raised found.page code history is
raised_known was history code (Exchanging what) is = raised_exchanging history code what is
raised_known was history code (Uploading grant page upload) is = known_raised page code history is
raised_known was history code (Filing grant page set) is = known_raised page code history is
raised_known was history code (Filed page) is = tt
raised_known was history code (Storing number page) is = known_raised page code history is
raised_known was history code (Downloading permit page download) is = known_raised page code history is
raised_known was history code (Breaking holder why) is = tt
raised_known was history code (Returning holder own) is = raised_at history code own is
raised_known was history code (Returned transfer own) is = tt
