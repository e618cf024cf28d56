-- The equality of statuses: a test, with the proof that it is true exactly if two are equal.
use Rattle.std.specs.Prelude.{◌≡◌, ◌==◌, ℕ, zero, suc, Bool, List, [], ◌∷◌, find, refl}
use Rattle.std.specs.Option.{unwrap_or}
use Rattle.std.specs.Bool.{Decides}
use Rattle.std.specs.Str.{bytes_eq}
use Rattle.std.specs.Cmp.{IsEquivalence, decided}
use Rattle.std.proofs.Common.{ap, sym, ◌∙◌}
use Rattle.std.proofs.lemmas.Slice.Eq.{bytes_eq-Decides}
use Rattle.iol_link.specs.declared.validation.IdentFault.{IdentFault}
use Rattle.iol_link.specs.declared.validation.IdentFault.TheVariants as ident
use Rattle.iol_link.specs.declared.faults.IsduFault.{IsduFault}
use Rattle.iol_link.specs.declared.faults.IsduFault.TheVariants as isdu
use Rattle.iol_transfer.specs.declared.fault.TransferFault.{TransferFault}
use Rattle.iol_transfer.specs.declared.fault.TransferFault.TheVariants as transfer
use Rattle.iol_core.specs.declared.upload.PermitFault.{PermitFault}
use Rattle.iol_core.specs.declared.upload.PermitFault.TheVariants as permit
use Rattle.iol_core.specs.declared.download.DownloadFault.{DownloadFault}
use Rattle.iol_core.specs.declared.download.DownloadFault.TheVariants as download
use Rattle.iol_port.specs.declared.fault.StoringFault.{StoringFault}
use Rattle.iol_port.specs.declared.fault.StoringFault.TheVariants as unstored
use Rattle.iol_port.specs.declared.fault.PortFault.{PortFault}
use Rattle.iol_port.specs.declared.fault.PortFault.TheVariants as fault
use Rattle.iol_port.specs.declared.status.PortStatus.{PortStatus}
use Rattle.iol_port.specs.declared.status.PortStatus.TheVariants as status

-- a mismatch as a number (own)
abbrev pub mismatch_number : IdentFault → ℕ
mismatch_number ident.Vendor = 0
mismatch_number ident.Device = 1
mismatch_number ident.Revision = 2
mismatch_number ident.NoIsdu = 3

-- a fault of a transfer as numbers: its place, and its codes (own)
abbrev pub transfer_numbers : TransferFault → List ℕ
transfer_numbers (transfer.Refused error additional) = 0 ∷ error ∷ additional ∷ []
transfer_numbers transfer.Unexpected = 1 ∷ []
transfer_numbers transfer.Size = 2 ∷ []
transfer_numbers transfer.List = 3 ∷ []
transfer_numbers transfer.Busy = 4 ∷ []
transfer_numbers transfer.Memory = 5 ∷ []

-- a fault of octets that are no answer, as a number (own)
abbrev pub isdu_number : IsduFault → ℕ
isdu_number isdu.Empty = 0
isdu_number isdu.Reserved = 1
isdu_number isdu.WrongService = 2
isdu_number isdu.Length = 3
isdu_number isdu.Check = 4

-- the reason why no permit to upload is given, as a number (own)
abbrev pub permit_number : PermitFault → ℕ
permit_number permit.Stopped = 0
permit_number permit.NotAllowed = 1
permit_number permit.WrongDevice = 2
permit_number permit.Taken = 3

-- the reason why no permit to download is given, as a number (own)
abbrev pub download_number : DownloadFault → ℕ
download_number download.NotAllowed = 0
download_number download.Empty = 1
download_number download.WrongDevice = 2
download_number download.Taken = 3
download_number download.Same = 4
download_number download.Memory = 5

-- the reason why a set is not stored, as a number (own)
abbrev pub storing_number : StoringFault → ℕ
storing_number unstored.Stopped = 0
storing_number unstored.Exhausted = 1

-- a fault as numbers: its source, and its numbers there (own)
abbrev pub fault_numbers : PortFault → List ℕ
fault_numbers (fault.Transfer why) = 0 ∷ transfer_numbers why
fault_numbers (fault.Isdu why) = 1 ∷ isdu_number why ∷ []
fault_numbers (fault.Permit why) = 2 ∷ permit_number why ∷ []
fault_numbers (fault.Download why) = 3 ∷ download_number why ∷ []
fault_numbers (fault.Storing why) = 4 ∷ storing_number why ∷ []

-- a status as numbers: its place, and its fault (own)
abbrev pub status_numbers : PortStatus → List ℕ
status_numbers (status.Failed why) = 0 ∷ fault_numbers why
status_numbers (status.Mismatch why) = 1 ∷ mismatch_number why ∷ []
status_numbers status.Off = 2 ∷ []
status_numbers status.Lost = 3 ∷ []
status_numbers status.Starting = 4 ∷ []
status_numbers status.Ready = 5 ∷ []
status_numbers status.ReadyLocked = 6 ∷ []
status_numbers status.ReadyEmpty = 7 ∷ []
status_numbers status.Uploading = 8 ∷ []
status_numbers status.Storing = 9 ∷ []
status_numbers status.Downloading = 10 ∷ []

-- two statuses are equal if their numbers are (own)
abbrev pub same_status : PortStatus → PortStatus → Bool
same_status one two = bytes_eq (status_numbers one) (status_numbers two)

-- ---- numbers of two statuses differ

mismatch_at : ℕ → IdentFault
mismatch_at number =
    unwrap_or (find (λ why. mismatch_number why == number) (ident.Vendor ∷ ident.Device ∷ ident.Revision ∷ ident.NoIsdu ∷ [])) ident.Vendor

transfer_at : List ℕ → TransferFault
transfer_at (zero ∷ error ∷ additional ∷ []) = transfer.Refused error additional
transfer_at numbers = unwrap_or
    (find (λ why. bytes_eq (transfer_numbers why) numbers) (transfer.Unexpected ∷ transfer.Size ∷ transfer.List ∷ transfer.Busy
    ∷ transfer.Memory ∷ [])) transfer.Unexpected

isdu_at : ℕ → IsduFault
isdu_at number = unwrap_or
    (find (λ why. isdu_number why == number) (isdu.Empty ∷ isdu.Reserved ∷ isdu.WrongService ∷ isdu.Length ∷ isdu.Check ∷ [])) isdu.Empty

permit_at : ℕ → PermitFault
permit_at number = unwrap_or
    (find (λ why. permit_number why == number) (permit.Stopped ∷ permit.NotAllowed ∷ permit.WrongDevice ∷ permit.Taken ∷ []))
    permit.Stopped

download_at : ℕ → DownloadFault
download_at number = unwrap_or
    (find (λ why. download_number why == number) (download.NotAllowed ∷ download.Empty ∷ download.WrongDevice ∷ download.Taken
    ∷ download.Same ∷ download.Memory ∷ [])) download.NotAllowed

storing_at : ℕ → StoringFault
storing_at number =
    unwrap_or (find (λ why. storing_number why == number) (unstored.Stopped ∷ unstored.Exhausted ∷ [])) unstored.Stopped

fault_at : List ℕ → PortFault
fault_at (zero ∷ why) = fault.Transfer (transfer_at why)
fault_at (suc zero ∷ why ∷ []) = fault.Isdu (isdu_at why)
fault_at (suc (suc zero) ∷ why ∷ []) = fault.Permit (permit_at why)
fault_at (suc (suc (suc zero)) ∷ why ∷ []) = fault.Download (download_at why)
fault_at (suc (suc (suc (suc zero))) ∷ why ∷ []) = fault.Storing (storing_at why)
fault_at numbers = fault.Storing unstored.Stopped

status_at : List ℕ → PortStatus
status_at (zero ∷ why) = status.Failed (fault_at why)
status_at (suc zero ∷ why ∷ []) = status.Mismatch (mismatch_at why)
status_at numbers = unwrap_or
    (find (λ one. bytes_eq (status_numbers one) numbers) (status.Off ∷ status.Lost ∷ status.Starting ∷ status.Ready ∷ status.ReadyLocked
    ∷ status.ReadyEmpty ∷ status.Uploading ∷ status.Storing ∷ status.Downloading ∷ [])) status.Off

mismatch_back : (why : IdentFault) → mismatch_at (mismatch_number why) ≡ why
unfolding mismatch_at
mismatch_back ident.Vendor = refl
mismatch_back ident.Device = refl
mismatch_back ident.Revision = refl
mismatch_back ident.NoIsdu = refl

transfer_back : (why : TransferFault) → transfer_at (transfer_numbers why) ≡ why
unfolding transfer_at
transfer_back (transfer.Refused error additional) = refl
transfer_back transfer.Unexpected = refl
transfer_back transfer.Size = refl
transfer_back transfer.List = refl
transfer_back transfer.Busy = refl
transfer_back transfer.Memory = refl

isdu_back : (why : IsduFault) → isdu_at (isdu_number why) ≡ why
unfolding isdu_at
isdu_back isdu.Empty = refl
isdu_back isdu.Reserved = refl
isdu_back isdu.WrongService = refl
isdu_back isdu.Length = refl
isdu_back isdu.Check = refl

permit_back : (why : PermitFault) → permit_at (permit_number why) ≡ why
unfolding permit_at
permit_back permit.Stopped = refl
permit_back permit.NotAllowed = refl
permit_back permit.WrongDevice = refl
permit_back permit.Taken = refl

download_back : (why : DownloadFault) → download_at (download_number why) ≡ why
unfolding download_at
download_back download.NotAllowed = refl
download_back download.Empty = refl
download_back download.WrongDevice = refl
download_back download.Taken = refl
download_back download.Same = refl
download_back download.Memory = refl

storing_back : (why : StoringFault) → storing_at (storing_number why) ≡ why
unfolding storing_at
storing_back unstored.Stopped = refl
storing_back unstored.Exhausted = refl

fault_back : (why : PortFault) → fault_at (fault_numbers why) ≡ why
unfolding fault_at
fault_back (fault.Transfer why) = ap fault.Transfer (transfer_back why)
fault_back (fault.Isdu why) = ap fault.Isdu (isdu_back why)
fault_back (fault.Permit why) = ap fault.Permit (permit_back why)
fault_back (fault.Download why) = ap fault.Download (download_back why)
fault_back (fault.Storing why) = ap fault.Storing (storing_back why)

status_back : (one : PortStatus) → status_at (status_numbers one) ≡ one
unfolding status_at
status_back (status.Failed why) = ap status.Failed (fault_back why)
status_back (status.Mismatch why) = ap status.Mismatch (mismatch_back why)
status_back status.Off = refl
status_back status.Lost = refl
status_back status.Starting = refl
status_back status.Ready = refl
status_back status.ReadyLocked = refl
status_back status.ReadyEmpty = refl
status_back status.Uploading = refl
status_back status.Storing = refl
status_back status.Downloading = refl

pub same_status-Decides : (one two : PortStatus) → Decides (same_status one two) (one ≡ two)
same_status-Decides one two =
    let numbers = bytes_eq-Decides (status_numbers one) (status_numbers two) in (
      λ same. sym (status_back one) ∙ ap status_at (numbers.0 same) ∙ status_back two,
      λ is. numbers.1 (ap status_numbers is),
    )

pub same_status-laws : IsEquivalence same_status
same_status-laws = decided same_status same_status-Decides
