-- Permits that are out, and permits that are returned.
use Rattle.std.specs.Prelude.{ℕ, ◌==◌, Bool, true, false, ◌&&◌, if◌then◌else◌, Option, Some, None, is_some}
use Rattle.iol_core.specs.Core.{CoreView, permit_at, with_permit}
use Rattle.iol_core.specs.declared.permit.Grant.{Grant}
use Rattle.iol_core.specs.declared.permit.Grant.TheVariants.{Upload, Download}
use Rattle.iol_core.specs.declared.permit.UploadGrant.{UploadGrant}

-- a permit of this port is out (own)
abbrev pub is_taken : CoreView → ℕ → Bool
is_taken core port = is_some (permit_at core port)

-- two upload grants are equal (own)
abbrev pub same_grant : UploadGrant → UploadGrant → Bool
same_grant one two =
    (one.port == two.port) && (one.revision == two.revision) && (one.vendor == two.vendor) && (one.device == two.device)
    && (one.connection == two.connection)

-- the permit that is out is a permit to upload with this grant, or is a permit to download (own)
abbrev pub is_upload : Option Grant → UploadGrant → Bool
is_upload (Some (Upload out)) grant = same_grant out grant
is_upload _ grant = false

abbrev pub is_download : Option Grant → Bool
is_download (Some Download) = true
is_download _ = false

-- this permit to upload is out (own)
abbrev pub is_out : CoreView → UploadGrant → Bool
is_out core grant = is_upload (permit_at core grant.port) grant

-- the core without this permit to upload; unchanged if the permit is not out (own)
abbrev pub without_upload : CoreView → UploadGrant → CoreView
without_upload core grant = if is_out core grant then with_permit core grant.port None else core

-- the core without the port's permit to download; unchanged if none is out (own)
abbrev pub without_download : CoreView → ℕ → CoreView
without_download core port = if is_download (permit_at core port) then with_permit core port None else core
