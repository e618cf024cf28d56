-- Any outcome of what a machine wants fits, and no permit is with the core between two happenings.
use Rattle.std.proofs.Common.{◌≡◌, ℕ, true, refl, sym, subst}
use Rattle.std.specs.Prelude.{Result, Ok, Err}
use Rattle.iol_types.specs.DataSet.{SetValue}
use Rattle.iol_core.specs.declared.permit.UploadGrant.{UploadGrant}
use Rattle.iol_core.specs.declared.upload.FinishFault.{FinishFault}
use Rattle.iol_core.specs.declared.upload.FinishFault.TheVariants as finish
use Rattle.iol_port.specs.Calls.{IsUnder, HandsBack, IsHandedBack}
use Rattle.iol_port.specs.Heard.{Fits}
use Rattle.iol_port.specs.History.{ComesOf, is_at_hand}
use Rattle.iol_port.specs.Stage.{Stage, Settled, Paging, Attending, BeginningUpload, BeginningDownload, Exchanging, Uploading, Filing}
use Rattle.iol_port.specs.Stage.{Filed, Storing, Downloading, Breaking, Returning, Returned, IsStage}
use Rattle.iol_port.specs.Wanted.{wanted, after_action}
use Rattle.iol_port.specs.declared.action.Input.{Input}
use Rattle.iol_port.specs.declared.action.Input.TheVariants as input
use Rattle.iol_port.specs.declared.call.Reply.TheVariants as reply
use Rattle.iol_port.specs.declared.stage.Held.TheVariants as held

started-back : (grant permit : UploadGrant) (set back : SetValue) → IsUnder grant set → permit ≡ grant → back ≡ set → IsUnder permit back
started-back grant permit set back is same all = subst (λ p. IsUnder p back) (sym same) (subst (λ s. IsUnder grant s) (sym all) is)

hands_back : (grant : UploadGrant) (set : SetValue) (finished : Result ℕ FinishFault) → IsUnder grant set
    → IsHandedBack grant set finished → HandsBack finished
hands_back grant set (Ok number) is back = tt
hands_back grant set (Err finish.Stopped) is back = tt
hands_back grant set (Err finish.ConfigChanged) is back = tt
hands_back grant set (Err (finish.QueueFull permit own)) is back = started-back grant permit set own.value is back.0 back.1
hands_back grant set (Err (finish.Exhausted permit own)) is back = tt
hands_back grant set (Err (finish.Memory permit own)) is back = tt

-- any outcome of what a stage wants is what it awaits
pub fits : (port : ℕ) (stage : Stage) (heard : Input) → IsStage stage → is_at_hand stage ≡ true → ComesOf (wanted port stage) heard
    → Fits (after_action stage) heard
fits port (Settled own) input.Wake holds hand comes = refl
fits port (Settled own) heard holds hand comes = absurd comes
fits port (Paging what) (input.Page connection octets) holds hand comes = refl
fits port (Paging what) input.Lost holds hand comes = refl
fits port (Paging what) heard holds hand comes = absurd comes
fits port (Attending what) (input.Reply (reply.Attended work)) holds hand comes = refl
fits port (Attending what) heard holds hand comes = absurd comes
fits port (BeginningUpload found) (input.Reply (reply.BegunUpload begun)) holds hand comes = refl
fits port (BeginningUpload found) heard holds hand comes = absurd comes
fits port (BeginningDownload found checksum) (input.Reply (reply.BegunDownload begun)) holds hand comes = refl
fits port (BeginningDownload found checksum) heard holds hand comes = absurd comes
fits port (Exchanging what) (input.Octets octets) holds hand comes = refl
fits port (Exchanging what) input.Lost holds hand comes = refl
fits port (Exchanging what) heard holds hand comes = absurd comes
fits port (Uploading grant page upload) (input.Octets octets) holds hand comes = refl
fits port (Uploading grant page upload) input.Lost holds hand comes = refl
fits port (Uploading grant page upload) heard holds hand comes = absurd comes
fits port (Filing grant page set) (input.Reply (reply.FinishedUpload finished)) holds hand comes =
    (refl, hands_back grant set finished holds comes)
fits port (Filing grant page set) heard holds hand comes = absurd comes
fits port (Filed page) heard holds hand comes = absurd cc
fits port (Storing number page) (input.Reply (reply.Ticket state)) holds hand comes = refl
fits port (Storing number page) heard holds hand comes = absurd comes
fits port (Downloading permit page download) (input.Octets octets) holds hand comes = refl
fits port (Downloading permit page download) input.Lost holds hand comes = refl
fits port (Downloading permit page download) heard holds hand comes = absurd comes
fits port (Breaking holder why) (input.Octets octets) holds hand comes = refl
fits port (Breaking holder why) input.Lost holds hand comes = refl
fits port (Breaking holder why) heard holds hand comes = absurd comes
fits port (Returning (held.Upload permit) own) (input.Reply reply.AbandonedUpload) holds hand comes = refl
fits port (Returning (held.Upload permit) own) heard holds hand comes = absurd comes
fits port (Returning (held.Download permit) own) (input.Reply reply.EndedDownload) holds hand comes = refl
fits port (Returning (held.Download permit) own) heard holds hand comes = absurd comes
fits port (Returned transfer own) heard holds hand comes = absurd cc
