-- The trace of the worked examples: a sensor is backed up and breaks, and its replacement gets its parameters.
use Rattle.std.specs.Prelude.{ℕ, List, [], ◌∷◌, ◌++◌, Option, Some, None}
use Rattle.iol_types.specs.Command.{Configure, Store}
use Rattle.iol_types.specs.DataSet.{SetValue}
use Rattle.iol_types.specs.State.{Stored}
use Rattle.iol_types.specs.declared.config.PortConfig.{PortConfig}
use Rattle.iol_types.specs.declared.config.PortMode.TheVariants.{IolManual}
use Rattle.iol_types.specs.declared.config.Validation.TheVariants.{BackupAndRestore, Restore}
use Rattle.iol_core.specs.Events.{Event, Accepted, Page, Exchange, Lost, Attended, Changed, Acknowledged}
use Rattle.iol_core.specs.Statuses as status
use Rattle.iol_core.specs.Statuses.{Work, Starting, Uploading, Storing, Ready, Downloading}

-- for worked examples: a port is IOL_MANUAL with Backup and Restore, for the device 43981 of vendor 500 (own)
abbrev pub example_config : PortConfig
example_config = record { mode = IolManual; validation = BackupAndRestore; vendor = 500; device = 43981; label = [] }

-- for worked examples: what the port is to work with, at its first revision, with the checksum of its durable set (own)
abbrev pub example_work : Option ℕ → Work
example_work checksum = record { config = example_config; revision = 1; checksum = checksum }

-- for worked examples: a set of two parameters, where 0041.01 has this value (own)
abbrev pub example_set : ℕ → SetValue
example_set value = record {
  entries = (record { index = 0x0040; subindex = 0x00 }, 0x0A ∷ 0x64 ∷ []) ∷ (record { index = 0x0041; subindex = 0x01 }, value ∷ []) ∷ [];
  vendor = 500;
  device = 43981;
  checksum = 0x024F;
}

-- for worked examples: the page of the device (own)
abbrev pub example_page : List ℕ
example_page =
    0x00 ∷ 0x00 ∷ 0x17 ∷ 0x01 ∷ 0x11 ∷ 0x00 ∷ 0x00 ∷ 0x01 ∷ 0xF4 ∷ 0x00 ∷ 0xAB ∷ 0xCD ∷ 0x00 ∷ 0x00 ∷ 0x00 ∷ 0x00 ∷ []

-- for worked examples: port 1 gets its work, reads the page on a connection, and then State_Property and Parameter_Checksum,
-- with these answers; then it gets its work again (own)
abbrev pub examined : ℕ → List ℕ → List ℕ → Option ℕ → List Event
examined connection state sum checksum =
    Attended 1 (example_work checksum) ∷ Changed 1 Starting ∷ Page 1 connection example_page
    ∷ Exchange 1 connection (0xA4 ∷ 0x03 ∷ 0x02 ∷ 0xA5 ∷ []) state ∷ Exchange 1 connection (0xA4 ∷ 0x03 ∷ 0x04 ∷ 0xA3 ∷ []) sum
    ∷ Attended 1 (example_work checksum) ∷ []

-- for worked examples: port 1 is configured, and that is acknowledged; then its sensor, which has set DS_UPLOAD_FLAG, is examined
-- (own)
abbrev pub configured : List Event
configured = Accepted 1 (Configure 1 example_config) ∷ Acknowledged 1 ∷ []

abbrev pub flagged : List Event
flagged =
    configured ++ examined 0 (0xD3 ∷ 0x80 ∷ 0x53 ∷ []) (0xD6 ∷ 0x00 ∷ 0x00 ∷ 0x02 ∷ 0x4F ∷ 0x9B ∷ []) None

-- for worked examples: the exchanges of the upload of that set, up to its checksum (own)
abbrev pub upload : List Event
upload =
    Exchange 1 0 (0x25 ∷ 0x03 ∷ 0x01 ∷ 0x01 ∷ 0x26 ∷ []) (0x52 ∷ 0x52 ∷ [])
    ∷ Exchange 1 0 (0xA4 ∷ 0x03 ∷ 0x03 ∷ 0xA4 ∷ []) (0xD6 ∷ 0x00 ∷ 0x00 ∷ 0x00 ∷ 0x0B ∷ 0xDD ∷ [])
    ∷ Exchange 1 0 (0xA4 ∷ 0x03 ∷ 0x05 ∷ 0xA2 ∷ [])
    (0xDA ∷ 0x00 ∷ 0x40 ∷ 0x00 ∷ 0x00 ∷ 0x41 ∷ 0x01 ∷ 0x00 ∷ 0x00 ∷ 0xDA ∷ [])
    ∷ Exchange 1 0 (0x93 ∷ 0x40 ∷ 0xD3 ∷ []) (0xD4 ∷ 0x0A ∷ 0x64 ∷ 0xBA ∷ [])
    ∷ Exchange 1 0 (0xA4 ∷ 0x41 ∷ 0x01 ∷ 0xE4 ∷ []) (0xD3 ∷ 0x7F ∷ 0xAC ∷ [])
    ∷ Exchange 1 0 (0xA4 ∷ 0x03 ∷ 0x04 ∷ 0xA3 ∷ []) (0xD6 ∷ 0x00 ∷ 0x00 ∷ 0x02 ∷ 0x4F ∷ 0x9B ∷ []) ∷ []

-- for worked examples: the trace up to the end of the upload, up to the stored set, up to its acknowledgement, up to DS_UploadEnd,
-- and up to the settled port (own)
abbrev pub uploaded : List Event
uploaded = flagged ++ Changed 1 Uploading ∷ upload

abbrev pub filed : List Event
filed = uploaded ++ Accepted 2 (Store 1 1 (example_set 0x7F)) ∷ Changed 1 Storing ∷ []

abbrev pub stored : List Event
stored = filed ++ Acknowledged 2 ∷ []

abbrev pub ended : List Event
ended = stored ++ Exchange 1 0 (0x25 ∷ 0x03 ∷ 0x01 ∷ 0x02 ∷ 0x25 ∷ []) (0x52 ∷ 0x52 ∷ []) ∷ []

-- for worked examples: the trace up to the replacement, which has another checksum and no flag, up to the begin of its download,
-- and up to the first written parameter (own)
abbrev pub replaced : List Event
replaced =
    ended ++ Changed 1 Ready ∷ Lost 1 0 None ∷ Changed 1 status.Lost
    ∷ examined 1 (0xD3 ∷ 0x00 ∷ 0xD3 ∷ []) (0xD6 ∷ 0x00 ∷ 0x00 ∷ 0x00 ∷ 0x00 ∷ 0xD6 ∷ []) (Some 0x024F)

abbrev pub restoring : List Event
restoring = replaced ++ Changed 1 Downloading ∷ Exchange 1 1 (0x25 ∷ 0x03 ∷ 0x01 ∷ 0x03 ∷ 0x24 ∷ []) (0x52 ∷ 0x52 ∷ []) ∷ []

abbrev pub half_restored : List Event
half_restored = restoring ++ Exchange 1 1 (0x15 ∷ 0x40 ∷ 0x0A ∷ 0x64 ∷ 0x3B ∷ []) (0x52 ∷ 0x52 ∷ []) ∷ []

abbrev pub restored : List Event
restored =
    half_restored ++ Exchange 1 1 (0x25 ∷ 0x41 ∷ 0x01 ∷ 0x7F ∷ 0x1A ∷ []) (0x52 ∷ 0x52 ∷ [])
    ∷ Exchange 1 1 (0x25 ∷ 0x03 ∷ 0x01 ∷ 0x04 ∷ 0x23 ∷ []) (0x52 ∷ 0x52 ∷ []) ∷ []

-- for worked examples: port 1 is configured again, as it was (own)
abbrev pub reconfigured : List Event
reconfigured = configured ++ Accepted 2 (Configure 1 example_config) ∷ []

-- for worked examples: the page of another device of that vendor, 43982, and port 1, which gets its work and reads that page
-- (own)
abbrev pub other_page : List ℕ
other_page =
    0x00 ∷ 0x00 ∷ 0x17 ∷ 0x01 ∷ 0x11 ∷ 0x00 ∷ 0x00 ∷ 0x01 ∷ 0xF4 ∷ 0x00 ∷ 0xAB ∷ 0xCE ∷ 0x00 ∷ 0x00 ∷ 0x00 ∷ 0x00 ∷ []

abbrev pub other_device : List Event
other_device = configured ++ Attended 1 (example_work None) ∷ Changed 1 Starting ∷ Page 1 0 other_page ∷ []

-- for worked examples: the same configuration with Restore alone, and the set as if it had been taken under that (own)
abbrev pub restore_config : PortConfig
restore_config = record example_config { validation = Restore }

abbrev pub recorded_later : Stored
recorded_later = record { set = example_set 0x7F; recorded = restore_config }
