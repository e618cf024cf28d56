-- What a call of a port makes of a core, and what is reported of it.
use Rattle.std.proofs.Common.{◌≡◌, refl, ◌+◌, ◌≤◌, ℕ, nat_le, Bool, true, false, if◌then◌else◌, List, [], ◌∷◌, length, Option, Some, None}
use Rattle.std.proofs.Common.{Result, Ok, Err, ap, sym, ◌∙◌, rules, arith}
use Rattle.std.proofs.lemmas.Bool.Decides.{nat_tests}
use Rattle.iol_types.specs.Command.{CommandValue}
use Rattle.iol_types.specs.DataSet.{SetValue}
use Rattle.iol_types.specs.State.{check}
use Rattle.iol_core.specs.Core.{CoreView, live, live_number, permit_at, with_permit}
use Rattle.iol_core.specs.Downloads.{IsBeginDownload}
use Rattle.iol_core.specs.Permits.{is_out, is_download}
use Rattle.iol_core.specs.Submit.{is_stopped, queue_fault, queued}
use Rattle.iol_core.specs.Uploads.{IsBeginUpload, IsFinish, store_of}
use Rattle.iol_core.specs.declared.core_value.TheConstants.{QUEUE_COMMANDS}
use Rattle.iol_core.specs.declared.download.DownloadBegun.{DownloadBegun}
use Rattle.iol_core.specs.declared.download.DownloadFault.{DownloadFault}
use Rattle.iol_core.specs.declared.download.DownloadFault.TheVariants as download
use Rattle.iol_core.specs.declared.permit.Grant.{Grant}
use Rattle.iol_core.specs.declared.permit.UploadGrant.{UploadGrant}
use Rattle.iol_core.specs.declared.port.Work.{Work}
use Rattle.iol_core.specs.declared.ticket.SubmitFault.TheVariants as fault
use Rattle.iol_core.specs.declared.upload.FinishFault.{FinishFault}
use Rattle.iol_core.specs.declared.upload.FinishFault.TheVariants as finish
use Rattle.iol_core.specs.declared.upload.PermitFault.{PermitFault}
use Rattle.iol_port.specs.Calls.{Call, Attend, BeginUpload, FinishUpload, AbandonUpload, AskTicket, BeginDownload, EndDownload, Replies}
use Rattle.iol_port.specs.Calls.{Passes}
use Rattle.iol_port.specs.Ending.{ended, released}
use Rattle.iol_port.specs.Stage.{Stage, Settled, Paging, Attending, BeginningUpload, BeginningDownload, Exchanging, Uploading, Filing}
use Rattle.iol_port.specs.Stage.{Filed, Storing, Downloading, Breaking, Returning, Returned}
use Rattle.iol_port.specs.declared.stage.Held.{Held}
use Rattle.iol_port.specs.declared.stage.Held.TheVariants as held
use Rattle.iol_port.specs.declared.call.Reply.{Reply}
use Rattle.iol_port.specs.declared.call.Reply.TheVariants as reply
use Rattle.iol_core.specs.Events.{Event, Accepted}
use Rattle.iol_engine.proofs.Quiet.{AreQuiet}
use Rattle.iol_engine.specs.PortSteps.{reply_told, store_in, attended_told, filed_told}

-- a core with other permits out
abbrev pub with_permits : CoreView → List (Option Grant) → CoreView
with_permits core permits = record core { permits = permits }

-- what a call of a port makes of a core: other permits are given; or a command waits after the others, and its permit is
-- spent
pub data Change : Type 0 where
  Permits : (permits : List (Option Grant)) → Change
  Waits : (command : CommandValue) (permits : List (Option Grant)) → Change

abbrev pub changed : CoreView → Change → CoreView
changed old (Permits permits) = with_permits old permits
changed old (Waits command permits) = with_permits (queued old command) permits

-- the command is legal
abbrev pub IsPassing : CoreView → Change → Type 0
IsPassing old (Permits permits) = Unit {0}
IsPassing old (Waits command permits) = check (live old) command ≡ None

-- it was taken by a core that takes commands and had capacity for it
abbrev pub HasRoom : CoreView → Change → Type 0
HasRoom old (Permits permits) = Unit {0}
HasRoom old (Waits command permits) = (is_stopped old ≡ false) × (length old.queue + 1 ≤ QUEUE_COMMANDS)

-- it is reported under the next number, and nothing else that counts
abbrev pub Tells : CoreView → Change → List Event → Type 0
Tells old (Permits permits) told = AreQuiet told
Tells old (Waits command permits) told = told ≡ Accepted (live_number old + 1) command ∷ []

-- a core became another; if a premise holds, the command that it took is legal
pub record Becomes (P : Type 0) (old new : CoreView) (told : List Event) : Type 0 where
  pub change : Change
  pub new_is : new ≡ changed old change
  pub passing : P → IsPassing old change
  pub room : HasRoom old change
  pub tells : Tells old change told

-- a permit is returned, if it was given
pub without_permit : (core : CoreView) (port : ℕ) (there : Bool)
    → (if there then with_permit core port None else core)
    ≡ with_permits core ((if there then with_permit core port None else core).permits)
without_permit core port true = refl
without_permit core port false = refl

room_left : (n : ℕ) → nat_le QUEUE_COMMANDS n ≡ false → n + 1 ≤ QUEUE_COMMANDS
room_left n is = grind (arith, nat_tests, is)

-- a queue that takes a command has capacity
queue_open : (full last : Bool) → (if full then Some fault.QueueFull else if last then Some fault.Exhausted else None) ≡ None → full ≡ false
queue_open true last none = search rules
queue_open false last none = refl

pub room_in : (old : CoreView) → queue_fault old ≡ None → length old.queue + 1 ≤ QUEUE_COMMANDS
room_in old none = room_left (length old.queue) (queue_open (nat_le QUEUE_COMMANDS (length old.queue)) _ none)

module _ (P : Type 0) where
  -- a core that stays, and one with other permits
  pub stays : (old new : CoreView) (told : List Event) → new ≡ old → AreQuiet told → Becomes P old new told
  stays old new told same quiet = record { change = Permits old.permits; new_is = same; passing = λ p. tt; room = tt; tells = quiet }

  permitted : (old new : CoreView) (permits : List (Option Grant)) → new ≡ with_permits old permits → Becomes P old new []
  permitted old new permits is = record { change = Permits permits; new_is = is; passing = λ p. tt; room = tt; tells = tt }

  begun_upload : (old new : CoreView) (port vendor device connection : ℕ) (begun : Result UploadGrant PermitFault)
      → IsBeginUpload old port vendor device connection new begun → Becomes P old new []
  begun_upload old new port vendor device connection (Ok grant) is =
      permitted old new new.permits (is.2 ∙ ap (λ (c : CoreView). with_permits old c.permits) (sym is.2))
  begun_upload old new port vendor device connection (Err f) is = stays old new [] is.1 tt

  begun_download : (old new : CoreView) (port vendor device checksum : ℕ) (begun : Result DownloadBegun DownloadFault)
      → IsBeginDownload old port vendor device checksum new begun → Becomes P old new []
  begun_download old new port vendor device checksum (Ok begun) is =
      permitted old new new.permits (is.3 ∙ ap (λ (c : CoreView). with_permits old c.permits) (sym is.3))
  begun_download old new port vendor device checksum (Err download.Memory) is = stays old new [] is.1 tt
  begun_download old new port vendor device checksum (Err download.NotAllowed) is = stays old new [] is.1 tt
  begun_download old new port vendor device checksum (Err download.Empty) is = stays old new [] is.1 tt
  begun_download old new port vendor device checksum (Err download.WrongDevice) is = stays old new [] is.1 tt
  begun_download old new port vendor device checksum (Err download.Taken) is = stays old new [] is.1 tt
  begun_download old new port vendor device checksum (Err download.Same) is = stays old new [] is.1 tt

  abandoned : (old new : CoreView) (port : ℕ) (there : Bool) → new ≡ (if there then with_permit old port None else old)
      → Becomes P old new []
  abandoned old new port there is =
      permitted old new ((if there then with_permit old port None else old).permits) (is ∙ without_permit old port there)

attended : (port : ℕ) (work : Option Work) → AreQuiet (attended_told port work)
attended port None = tt
attended port (Some work) = (tt, tt)

finished : (port : ℕ) (old new : CoreView) (grant : UploadGrant) (set : SetValue) (answer : Result ℕ FinishFault)
    → IsFinish old grant set new answer
    → Becomes (Passes (FinishUpload grant set) old (reply.FinishedUpload answer)) old new (filed_told (Some (store_of grant set)) answer)
finished port old new grant set (Ok n) is = record {
  change = Waits (store_of grant set) new.permits;
  new_is = is.3 ∙ ap (λ (c : CoreView). with_permits (queued old (store_of grant set)) c.permits) (sym is.3);
  passing = λ passes. passes;
  room = (is.0.runs, room_in old is.1);
  tells = ap (λ (m : ℕ). Accepted m (store_of grant set) ∷ []) is.2;
}
finished port old new grant set (Err finish.Stopped) is = abandoned _ old new grant.port (is_out old grant) is.1
finished port old new grant set (Err finish.ConfigChanged) is = abandoned _ old new grant.port (is_out old grant) is.1
finished port old new grant set (Err (finish.QueueFull permit back)) is = stays _ old new [] is.4 tt
finished port old new grant set (Err (finish.Exhausted permit back)) is = stays _ old new [] is.4 tt
finished port old new grant set (Err (finish.Memory permit back)) is = stays _ old new [] is.4 tt

-- each call of a port makes such a change, and reports it
pub replied : (port : ℕ) (call : Call) (old new : CoreView) (heard : Reply) → Replies call old new heard
    → Becomes (Passes call old heard) old new (reply_told port (store_in call) heard)
replied port (Attend p) old new (reply.Attended w) is = stays _ old new (attended_told port w) is.1 (attended port w)
replied port (Attend p) old new (reply.BegunUpload b) is = absurd is
replied port (Attend p) old new (reply.FinishedUpload f) is = absurd is
replied port (Attend p) old new reply.AbandonedUpload is = absurd is
replied port (Attend p) old new (reply.Ticket k) is = absurd is
replied port (Attend p) old new (reply.BegunDownload b) is = absurd is
replied port (Attend p) old new reply.EndedDownload is = absurd is
replied port (BeginUpload p v d c) old new (reply.Attended w) is = absurd is
replied port (BeginUpload p v d c) old new (reply.BegunUpload b) is = begun_upload _ old new p v d c b is
replied port (BeginUpload p v d c) old new (reply.FinishedUpload f) is = absurd is
replied port (BeginUpload p v d c) old new reply.AbandonedUpload is = absurd is
replied port (BeginUpload p v d c) old new (reply.Ticket k) is = absurd is
replied port (BeginUpload p v d c) old new (reply.BegunDownload b) is = absurd is
replied port (BeginUpload p v d c) old new reply.EndedDownload is = absurd is
replied port (FinishUpload g s) old new (reply.Attended w) is = absurd is
replied port (FinishUpload g s) old new (reply.BegunUpload b) is = absurd is
replied port (FinishUpload g s) old new (reply.FinishedUpload f) is = finished port old new g s f is
replied port (FinishUpload g s) old new reply.AbandonedUpload is = absurd is
replied port (FinishUpload g s) old new (reply.Ticket k) is = absurd is
replied port (FinishUpload g s) old new (reply.BegunDownload b) is = absurd is
replied port (FinishUpload g s) old new reply.EndedDownload is = absurd is
replied port (AbandonUpload g) old new (reply.Attended w) is = absurd is
replied port (AbandonUpload g) old new (reply.BegunUpload b) is = absurd is
replied port (AbandonUpload g) old new (reply.FinishedUpload f) is = absurd is
replied port (AbandonUpload g) old new reply.AbandonedUpload is = abandoned _ old new g.port (is_out old g) is
replied port (AbandonUpload g) old new (reply.Ticket k) is = absurd is
replied port (AbandonUpload g) old new (reply.BegunDownload b) is = absurd is
replied port (AbandonUpload g) old new reply.EndedDownload is = absurd is
replied port (AskTicket t) old new (reply.Attended w) is = absurd is
replied port (AskTicket t) old new (reply.BegunUpload b) is = absurd is
replied port (AskTicket t) old new (reply.FinishedUpload f) is = absurd is
replied port (AskTicket t) old new reply.AbandonedUpload is = absurd is
replied port (AskTicket t) old new (reply.Ticket k) is = stays _ old new [] is.1 tt
replied port (AskTicket t) old new (reply.BegunDownload b) is = absurd is
replied port (AskTicket t) old new reply.EndedDownload is = absurd is
replied port (BeginDownload p v d c) old new (reply.Attended w) is = absurd is
replied port (BeginDownload p v d c) old new (reply.BegunUpload b) is = absurd is
replied port (BeginDownload p v d c) old new (reply.FinishedUpload f) is = absurd is
replied port (BeginDownload p v d c) old new reply.AbandonedUpload is = absurd is
replied port (BeginDownload p v d c) old new (reply.Ticket k) is = absurd is
replied port (BeginDownload p v d c) old new (reply.BegunDownload b) is = begun_download _ old new p v d c b is
replied port (BeginDownload p v d c) old new reply.EndedDownload is = absurd is
replied port (EndDownload p) old new (reply.Attended w) is = absurd is
replied port (EndDownload p) old new (reply.BegunUpload b) is = absurd is
replied port (EndDownload p) old new (reply.FinishedUpload f) is = absurd is
replied port (EndDownload p) old new reply.AbandonedUpload is = absurd is
replied port (EndDownload p) old new (reply.Ticket k) is = absurd is
replied port (EndDownload p) old new (reply.BegunDownload b) is = absurd is
replied port (EndDownload p) old new reply.EndedDownload is = abandoned _ old new p (is_download (permit_at old p)) is

released_is : (core : CoreView) (holds : Held) → released core holds ≡ with_permits core ((released core holds).permits)
released_is core (held.Upload g) = without_permit core g.port (is_out core g)
released_is core (held.Download p) = without_permit core p (is_download (permit_at core p))

-- what the end of a port's machine makes of a core
pub ended_is : (core : CoreView) (stage : Stage) → ended core stage ≡ with_permits core ((ended core stage).permits)
ended_is core (Settled r) = refl
ended_is core (Paging p) = refl
ended_is core (Attending a) = refl
ended_is core (BeginningUpload f) = refl
ended_is core (BeginningDownload f c) = refl
ended_is core (Exchanging e) = refl
ended_is core (Uploading g p u) = without_permit core g.port (is_out core g)
ended_is core (Filing g p s) = without_permit core g.port (is_out core g)
ended_is core (Filed p) = refl
ended_is core (Storing t p) = refl
ended_is core (Downloading n p d) = without_permit core n (is_download (permit_at core n))
ended_is core (Breaking h f) = released_is core h
ended_is core (Returning h r) = released_is core h
ended_is core (Returned t r) = refl
