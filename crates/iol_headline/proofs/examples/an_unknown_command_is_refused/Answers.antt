use Rattle.std.proofs.Common.{◌≡◌, refl, ℕ, List, [], ◌∷◌, ap, arith, lit≤}
use Rattle.std.specs.Prelude.{slice_index}
use Rattle.iol_transfer.specs.Command.{ds_command_octet, commanded}
use Rattle.iol_transfer.specs.declared.command.DsCommand.{DsCommand}
use Rattle.iol_transfer.specs.declared.command.DsCommand.TheVariants.{UploadStart, UploadEnd, DownloadStart, DownloadEnd, Break}
use Rattle.iol_link.proofs.Lengths.{shortest_write}
use Rattle.iol_link.proofs.Spelled.{short_isdu}
use Rattle.iol_link.specs.Isdu.{IsShortestRequest}
use Rattle.iol_link.specs.declared.messages.Request.{Request}
use Rattle.iol_link.specs.declared.messages.Request.TheVariants.{Read, Write}
use Rattle.iol_transfer.specs.Exchanges.{carried}
use Rattle.iol_headline.proofs.examples.an_unknown_command_is_refused.Goals as goal

-- the request that is sent
abbrev wrong : Request
wrong = Write 3 1 (carried (0x06 ∷ []))

writes_wrong : IsShortestRequest (0x25 ∷ 0x03 ∷ 0x01 ∷ 0x06 ∷ 0x21 ∷ []) wrong
writes_wrong =
    shortest_write _ 3 1 (carried (0x06 ∷ [])) (lit≤ tt)
    (short_isdu _ (0x03 ∷ 0x01 ∷ 0x06 ∷ []) 0x21 (lit≤ tt) refl)

abbrev octets_of : Request → List ℕ
octets_of (Read index subindex) = []
octets_of (Write index subindex values) = values.items

-- no command has that octet
no_octet : (command : DsCommand) → 6 ≡ ds_command_octet command → ⊥
no_octet UploadStart same = omega (arith, same)
no_octet UploadEnd same = omega (arith, same)
no_octet DownloadStart same = omega (arith, same)
no_octet DownloadEnd same = omega (arith, same)
no_octet Break same = omega (arith, same)

no_command : (command : DsCommand) → wrong ≡ commanded command → ⊥
no_command command same = no_octet command (ap (λ (r : Request). slice_index (octets_of r) 0) same)

pub returns : goal.returns
returns c law = let told = law 1 0 1 (carried (0x06 ∷ [])) (refl, refl, writes_wrong) in no_command told.0 told.1
