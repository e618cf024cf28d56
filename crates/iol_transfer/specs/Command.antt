-- Commands to the Data Storage of a device, by their octets.
use Rattle.std.specs.Prelude.{ℕ, ◌==◌, [], ◌∷◌, Option, find}
use Rattle.iol_types.specs.declared.key.TheConstants.{DATA_STORAGE}
use Rattle.iol_link.specs.declared.messages.Request.{Request}
use Rattle.iol_link.specs.declared.messages.Request.TheVariants.{Write}
use Rattle.iol_transfer.specs.declared.command.DsCommand.{DsCommand}
use Rattle.iol_transfer.specs.declared.command.DsCommand.TheVariants.{UploadStart, UploadEnd, DownloadStart, DownloadEnd, Break}
use Rattle.iol_transfer.specs.declared.object.TheConstants.{DS_COMMAND}

-- the octet of a command (standard, Data Storage object)
abbrev pub ds_command_octet : DsCommand → ℕ
ds_command_octet UploadStart = 1
ds_command_octet UploadEnd = 2
ds_command_octet DownloadStart = 3
ds_command_octet DownloadEnd = 4
ds_command_octet Break = 5

-- the command with this octet, if there is one (standard, Data Storage object)
abbrev pub ds_command_of : ℕ → Option DsCommand
ds_command_of octet =
    find (λ command. ds_command_octet command == octet) (UploadStart ∷ UploadEnd ∷ DownloadStart ∷ DownloadEnd ∷ Break ∷ [])

-- the request that writes one octet, a command, to DS_Command (standard, Data Storage object)
abbrev pub commanded : DsCommand → Request
commanded command = Write DATA_STORAGE DS_COMMAND (record { items = ds_command_octet command ∷ [] })
