-- A permit that a call of the core gives is held, and one that it takes is free again.
use Rattle.std.proofs.Common.{◌≡◌, ℕ, Bool, true, false, if◌then◌else◌, List, [], ◌∷◌, refl, sym, ap, ◌∙◌, subst}
use Rattle.std.specs.Prelude.{Option, Some, None, Result, Ok, Err, length}
use Rattle.iol_types.specs.DataSet.{SetValue}
use Rattle.iol_link.specs.Page.{PageValue}
use Rattle.iol_core.specs.declared.permit.UploadGrant.{UploadGrant}
use Rattle.iol_core.specs.declared.upload.FinishFault.{FinishFault}
use Rattle.iol_core.specs.declared.upload.PermitFault.{PermitFault}
use Rattle.iol_core.specs.declared.download.DownloadBegun.{DownloadBegun}
use Rattle.iol_core.specs.declared.download.DownloadFault.{DownloadFault}
use Rattle.iol_core.specs.declared.ticket.TicketState.{TicketState}
use Rattle.iol_port.specs.Heard.{attended, upload_begun, download_begun, upload_finished, ticket_told, fed}
use Rattle.iol_port.specs.History.{Did, Happens}
use Rattle.iol_port.specs.Stage.{Stage, Settled, Paging, Attending, BeginningUpload, BeginningDownload, Exchanging, Uploading, Filing}
use Rattle.iol_port.specs.Stage.{machine_at, Filed, Storing, Downloading, Breaking, Returning, Returned, PortValue}
use Rattle.iol_port.specs.Wanted.{Wanted, ReplyTo, wanted, after_action}
use Rattle.iol_port.specs.declared.call.Reply.{Reply}
use Rattle.iol_port.specs.declared.stage.Held.{Held}
use Rattle.iol_port.proofs.Keeping.{IsAtHand}
use Rattle.iol_core.specs.declared.upload.FinishFault.TheVariants as finish
use Rattle.iol_core.specs.declared.ticket.TicketState.TheVariants as ticket
use Rattle.iol_port.specs.declared.action.Input.TheVariants as input
use Rattle.iol_port.specs.declared.call.Reply.TheVariants as reply
use Rattle.iol_port.specs.declared.stage.Held.TheVariants as held
use Rattle.std.proofs.Common.{◌<◌, ◌-◌, zero, suc, slice_get, slice_set, nat_le, arith}
use Rattle.std.proofs.lemmas.Bool.{eq-eqb}
use Rattle.std.proofs.lemmas.Option.{slice_get_within}
use Rattle.iol_types.specs.State.{Port, port_numbered}
use Rattle.iol_types.proofs.StateLemmas.{length-after}
use Rattle.iol_front.specs.Fronts.{Start as FrontStart}
use Rattle.iol_core.specs.Core.{CoreView, IsCore, permit_at, with_permit, out_at, live}
use Rattle.iol_core.specs.Permits.{is_taken, is_out, is_upload, is_download, same_grant}
use Rattle.iol_core.specs.Uploads.{upload_fault, upload_fault_at, IsBeginUpload, IsFinish, store_of}
use Rattle.iol_core.specs.Downloads.{download_fault, download_fault_at, durable_set, IsBeginDownload}
use Rattle.iol_core.specs.Submit.{is_stopped, queued}
use Rattle.iol_core.specs.declared.download.DownloadFault.TheVariants as refusal
use Rattle.iol_core.specs.declared.upload.PermitFault.TheVariants as permit_refusal
use Rattle.iol_core.specs.declared.permit.Grant.{Grant}
use Rattle.iol_core.specs.declared.permit.Grant.TheVariants.{Upload, Download}
use Rattle.iol_port.specs.Calls.{Call, Replies}
use Rattle.iol_port.specs.Ending.{released, ended}
use Rattle.iol_port.specs.Laws.{held_by}
use Rattle.iol_port.specs.Permits.{HasOut}
use Rattle.iol_port.proofs.Holding.{moved_holds, attended_free}

-- ---- places of permits

get_written : {A : Type 0} → (l : List A) (i : ℕ) (x y : A) → slice_get l i ≡ Some y → slice_get (slice_set l i x) i ≡ Some x
get_written [] i x y e = absurd cc
get_written (a ∷ l) zero x y e = refl
get_written (a ∷ l) (suc i) x y e = get_written l i x y e

none_written : (permits : List (Option Grant)) (place : ℕ) → out_at (slice_get (slice_set permits place None) place) ≡ None
none_written [] place = refl
none_written (one ∷ permits) zero = refl
none_written (one ∷ permits) (suc place) = none_written permits place

there : (permits : List (Option Grant)) (place : ℕ) → place < length permits → (one : Option Grant) × (slice_get permits place ≡ Some one)
there [] place below = absurd (omega (arith, below))
there (one ∷ permits) zero below = (one, refl)
there (one ∷ permits) (suc place) below = there permits place (omega (arith, below))

-- a port that is there has a place for its permit
place_of : (start : FrontStart) (core : CoreView) (port : ℕ) (found : Port) → IsCore start core
    → port_numbered (live core) port ≡ Some found
    → port - 1 < length core.permits
place_of start core port found is numbered = by (nat_le 1 port) numbered
  where
    by : (test : Bool) → (if test then slice_get (live core) (port - 1) else None) ≡ Some found → port - 1 < length core.permits
    by true there =
        let within : port - 1 < length (live core) = slice_get_within (live core) (port - 1) found there in
        let same : length (live core) ≡ length core.durable = length-after core.durable core.queue in
        let places : length core.permits ≡ length core.durable = is.places in
        omega (arith, within, same, places)
    by false there = absurd cc

permit_some : (start : FrontStart) (core : CoreView) (port : ℕ) (found : Port) (grant : Grant) → IsCore start core
    → port_numbered (live core) port ≡ Some found
    → permit_at (with_permit core port (Some grant)) port ≡ Some grant
permit_some start core port found grant is numbered =
    let place = there core.permits (port - 1) (place_of start core port found is numbered) in
    ap out_at (get_written core.permits (port - 1) (Some grant) place.0 place.1)

-- ---- permits that are given

upload_there : (core : CoreView) (port vendor device : ℕ) → upload_fault core port vendor device ≡ None
    → (found : Port) × (port_numbered (live core) port ≡ Some found)
upload_there core port vendor device none = by (is_stopped core) (port_numbered (live core) port) refl none
  where
    by : (stopped : Bool) (found : Option Port) → port_numbered (live core) port ≡ found
        → (if stopped then Some permit_refusal.Stopped else upload_fault_at found vendor device (is_taken core port)) ≡ None
        → (own : Port) × (port_numbered (live core) port ≡ Some own)
    by true found is none = absurd cc
    by false None is none = absurd cc
    by false (Some own) is none = (own, is)

download_there : (core : CoreView) (port vendor device checksum : ℕ) → download_fault core port vendor device checksum ≡ None
    → (found : Port) × (port_numbered (live core) port ≡ Some found)
download_there core port vendor device checksum none = by (port_numbered (live core) port) refl none
  where
    by : (found : Option Port) → port_numbered (live core) port ≡ found
        → download_fault_at found (durable_set core port) vendor device checksum (is_taken core port) ≡ None
        → (own : Port) × (port_numbered (live core) port ≡ Some own)
    by None is none = absurd cc
    by (Some own) is none = (own, is)

-- ---- permits that come back

same_self : (grant : UploadGrant) → same_grant grant grant ≡ true
same_self grant =
    rw (
      eq-eqb grant.port grant.port refl,
      eq-eqb grant.revision grant.revision refl,
      eq-eqb grant.vendor grant.vendor refl,
      eq-eqb grant.device grant.device refl,
      eq-eqb grant.connection grant.connection refl,
    ) refl

pub released_out : (core : CoreView) (port : ℕ) (holder : Held) → HasOut core port (Some holder)
    → permit_at (released core holder) port ≡ None
released_out core port (held.Upload grant) (out, own) =
    let is : is_out core grant ≡ true = ap (λ p. is_upload (permit_at core p) grant) own ∙ ap (λ o. is_upload o grant) out
    ∙ same_self grant in
    ap (λ test. permit_at (if test then with_permit core grant.port None else core) port) is
    ∙ ap (λ p. permit_at (with_permit core p None) port) own ∙ none_written core.permits (port - 1)
released_out core port (held.Download permit) (out, own) =
    let is : is_download (permit_at core permit) ≡ true = ap (λ p. is_download (permit_at core p)) own ∙ ap is_download out in
    ap (λ test. permit_at (if test then with_permit core permit None else core) port) is
    ∙ ap (λ p. permit_at (with_permit core p None) port) own ∙ none_written core.permits (port - 1)

pub ended_out : (core : CoreView) (port : ℕ) (stage : Stage) → HasOut core port (held_by stage) → permit_at (ended core stage) port ≡ None
ended_out core port (Uploading grant page upload) out = released_out core port (held.Upload grant) out
ended_out core port (Filing grant page set) out = released_out core port (held.Upload grant) out
ended_out core port (Downloading permit page download) out = released_out core port (held.Download permit) out
ended_out core port (Breaking holder why) out = released_out core port holder out
ended_out core port (Returning holder own) out = released_out core port holder out
ended_out core port (Settled own) out = out
ended_out core port (Paging what) out = out
ended_out core port (Attending what) out = out
ended_out core port (BeginningUpload found) out = out
ended_out core port (BeginningDownload found checksum) out = out
ended_out core port (Exchanging what) out = out
ended_out core port (Filed page) out = out
ended_out core port (Storing number page) out = out
ended_out core port (Returned transfer own) out = out

-- ---- calls of the core

-- the core replies to what is wanted
abbrev pub RepliesTo : Wanted → CoreView → CoreView → Reply → Type 0
RepliesTo (ReplyTo call) before after heard = Replies call before after heard
RepliesTo _ before after heard = ⊥

upload_given : (start : FrontStart) (port vendor device connection : ℕ) (page : PageValue) (before after : CoreView)
    (begins : Result UploadGrant PermitFault)
    → IsCore start before → permit_at before port ≡ None → IsBeginUpload before port vendor device connection after begins
    → HasOut after port (held_by (upload_begun page begins))
upload_given start port vendor device connection page before after (Ok grant) is out (none, same, now) =
    let found = upload_there before port vendor device none in (
      ap (λ (core : CoreView). permit_at core port) now ∙ permit_some start before port found.0 (Upload grant) is found.1,
      ap (λ (own : UploadGrant). own.port) same,
    )
upload_given start port vendor device connection page before after (Err why) is out (why_is, now) =
    ap (λ (core : CoreView). permit_at core port) now ∙ out

download_given : (start : FrontStart) (port vendor device checksum : ℕ) (page : PageValue) (before after : CoreView)
    (begins : Result DownloadBegun DownloadFault)
    → IsCore start before → permit_at before port ≡ None → IsBeginDownload before port vendor device checksum after begins
    → HasOut after port (held_by (download_begun page begins))
download_given start port vendor device checksum page before after (Ok begins) is out given =
    let found = download_there before port vendor device checksum given.0 in
    (ap (λ (core : CoreView). permit_at core port) given.3 ∙ permit_some start before port found.0 Download is found.1, given.1)
download_given start port vendor device checksum page before after (Err refusal.Memory) is out given =
    ap (λ (core : CoreView). permit_at core port) given.1 ∙ out
download_given start port vendor device checksum page before after (Err refusal.NotAllowed) is out given =
    ap (λ (core : CoreView). permit_at core port) given.1 ∙ out
download_given start port vendor device checksum page before after (Err refusal.Empty) is out given =
    ap (λ (core : CoreView). permit_at core port) given.1 ∙ out
download_given start port vendor device checksum page before after (Err refusal.WrongDevice) is out given =
    ap (λ (core : CoreView). permit_at core port) given.1 ∙ out
download_given start port vendor device checksum page before after (Err refusal.Taken) is out given =
    ap (λ (core : CoreView). permit_at core port) given.1 ∙ out
download_given start port vendor device checksum page before after (Err refusal.Same) is out given =
    ap (λ (core : CoreView). permit_at core port) given.1 ∙ out

-- a permit that the core returns is still given to the port
back_out : (port : ℕ) (grant permit : UploadGrant) (before after : CoreView) → HasOut before port (Some (held.Upload grant))
    → permit ≡ grant → after ≡ before
    → HasOut after port (Some (held.Upload permit))
back_out port grant permit before after out same now =
    subst (λ (p : UploadGrant). HasOut after port (Some (held.Upload p))) (sym same)
    (subst (λ (core : CoreView). HasOut core port (Some (held.Upload grant))) (sym now) out)

set_filed : (port : ℕ) (grant : UploadGrant) (page : PageValue) (set : SetValue) (before after : CoreView) (finished : Result ℕ FinishFault)
    → HasOut before port (Some (held.Upload grant)) → IsFinish before grant set after finished
    → HasOut after port (held_by (upload_finished page finished))
set_filed port grant page set before after (Ok number) out is =
    ap (λ (core : CoreView). permit_at core port) is.3
    ∙ ap (λ p. permit_at (with_permit (queued before (store_of grant set)) p None) port) out.1 ∙ none_written before.permits (port - 1)
set_filed port grant page set before after (Err finish.Stopped) out is =
    ap (λ (core : CoreView). permit_at core port) is.1 ∙ released_out before port (held.Upload grant) out
set_filed port grant page set before after (Err finish.ConfigChanged) out is =
    ap (λ (core : CoreView). permit_at core port) is.1 ∙ released_out before port (held.Upload grant) out
set_filed port grant page set before after (Err (finish.QueueFull permit back)) out is =
    back_out port grant permit before after out is.2 is.4
set_filed port grant page set before after (Err (finish.Exhausted permit back)) out is =
    back_out port grant permit before after out is.2 is.4
set_filed port grant page set before after (Err (finish.Memory permit back)) out is = back_out port grant permit before after out is.2 is.4

ticket_free : (number : ℕ) (page : PageValue) (state : TicketState) → held_by (ticket_told number page state) ≡ None
ticket_free number page ticket.Waiting = refl
ticket_free number page ticket.Durable = refl
ticket_free number page ticket.Unsure = refl

core_holds : (start : FrontStart) (before after : CoreView) (port : ℕ) (started : Option ℕ) (requested : Bool) (stage : Stage)
    (heard : Reply)
    → IsCore start before
    → IsAtHand stage → HasOut before port (held_by stage) → RepliesTo (wanted port stage) before after heard
    → HasOut after port (held_by (fed (machine_at port started requested (after_action stage))
    (input.Reply heard)).stage)
core_holds start before after port started requested (Attending what) (reply.Attended work) is hand out replies =
    subst (HasOut after port)
    (sym (moved_holds (machine_at port started requested (Attending what)) (attended started requested what work)
    (attended_free started requested what work)))
    (ap (λ (core : CoreView). permit_at core port) replies.1 ∙ out)
core_holds start before after port started requested (Attending what) heard is hand out replies = absurd replies
core_holds start before after port started requested (BeginningUpload found) (reply.BegunUpload begins) is hand out replies =
    upload_given start port _ _ _ found.page before after begins is out replies
core_holds start before after port started requested (BeginningUpload found) heard is hand out replies = absurd replies
core_holds start before after port started requested (BeginningDownload found checksum) (reply.BegunDownload begins) is hand out replies =
    download_given start port _ _ _ found.page before after begins is out replies
core_holds start before after port started requested (BeginningDownload found checksum) heard is hand out replies = absurd replies
core_holds start before after port started requested (Filing grant page set) (reply.FinishedUpload finished) is hand out replies =
    set_filed port grant page set before after finished out replies
core_holds start before after port started requested (Filing grant page set) heard is hand out replies = absurd replies
core_holds start before after port started requested (Storing number page) (reply.Ticket state) is hand out replies =
    subst (HasOut after port) (sym (ticket_free number page state)) (ap (λ (core : CoreView). permit_at core port) replies.1 ∙ out)
core_holds start before after port started requested (Storing number page) heard is hand out replies = absurd replies
core_holds start before after port started requested (Returning (held.Upload permit) own) reply.AbandonedUpload is hand out replies =
    ap (λ (core : CoreView). permit_at core port) replies ∙ released_out before port (held.Upload permit) out
core_holds start before after port started requested (Returning (held.Upload permit) own) heard is hand out replies = absurd replies
core_holds start before after port started requested (Returning (held.Download permit) own) reply.EndedDownload is hand out replies =
    ap (λ (core : CoreView). permit_at core port) replies ∙ released_out before port (held.Download permit) out
core_holds start before after port started requested (Returning (held.Download permit) own) heard is hand out replies = absurd replies
core_holds start before after port started requested stage heard is hand out replies = absurd replies

pub core_keeps : (start : FrontStart) (before after : CoreView) (old new : PortValue) (call : Call) (heard : Reply) → IsCore start before
    → IsAtHand old.stage
    → HasOut before old.port (held_by old.stage) → Happens old (Did (ReplyTo call) (input.Reply heard)) new
    → Replies call before after heard
    → HasOut after old.port (held_by new.stage)
core_keeps start before after old new call heard is hand out happens replies =
    subst (λ (value : PortValue). HasOut after old.port (held_by value.stage)) (sym happens.2)
    (core_holds start before after old.port old.started_revision old.upload_requested old.stage heard is hand out
    (subst (λ (wants : Wanted). RepliesTo wants before after heard) happens.0 replies))
