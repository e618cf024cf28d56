-- The geometry, bodies and standings of the worked examples.
use Rattle.std.specs.Prelude.{ℕ, List, [], ◌∷◌, ◌++◌, Some, replicate}
use Rattle.iol_types.specs.State.{State, empty_state}
use Rattle.iol_layout.specs.Geometry.{Geometry}
use Rattle.iol_layout.specs.Layout.{laid_out, layout_of}
use Rattle.iol_layout.specs.Meaning.{Standing}
use Rattle.iol_layout.specs.declared.area.Area.TheVariants.{A}
use Rattle.iol_layout.specs.declared.header.Header.{Header}
use Rattle.iol_record.specs.declared.version.Version.{Version}
use Rattle.iol_record.specs.declared.version.Version.TheVariants.{One}

-- for worked examples: 2 ports and 4 slots (format, Disk layout)
abbrev pub two_by_four : Geometry
two_by_four = record { ports = 2; slots = 4 }

-- for worked examples: the header of an area of this version (format, Headers)
abbrev pub header_with : Version → ℕ → ℕ → Header
header_with version epoch base = record { epoch = epoch; base = base; version = Some version }

-- for worked examples: epoch 1, number 1, one command, 11 octets; Configure port 1: IOL_MANUAL, Backup and Restore,
-- vendor 500, device 43981; zeros (format, Slots)
abbrev pub first_body : List ℕ
first_body =
    (0 ∷ 0 ∷ 0 ∷ 0 ∷ 0 ∷ 0 ∷ 0 ∷ 1 ∷ 0 ∷ 0 ∷ 0 ∷ 0 ∷ 0 ∷ 0 ∷ 0 ∷ 1 ∷ 0 ∷ 1 ∷ 0 ∷ 0 ∷ 0 ∷ 11 ∷ [])
    ++ (0x01 ∷ 0x01 ∷ 0x01 ∷ 0x03 ∷ 0x01 ∷ 0xF4 ∷ 0x00 ∷ 0x00 ∷ 0xAB ∷ 0xCD ∷ 0x00 ∷ []) ++ replicate 479 0

-- for worked examples: the same in version 1, whose record has 10 octets (format, Slots)
abbrev pub first_body_of_one : List ℕ
first_body_of_one =
    (0 ∷ 0 ∷ 0 ∷ 0 ∷ 0 ∷ 0 ∷ 0 ∷ 1 ∷ 0 ∷ 0 ∷ 0 ∷ 0 ∷ 0 ∷ 0 ∷ 0 ∷ 1 ∷ 0 ∷ 1 ∷ 0 ∷ 0 ∷ 0 ∷ 10 ∷ [])
    ++ (0x01 ∷ 0x01 ∷ 0x01 ∷ 0x03 ∷ 0x01 ∷ 0xF4 ∷ 0x00 ∷ 0x00 ∷ 0xAB ∷ 0xCD ∷ []) ++ replicate 480 0

-- for worked examples: the standing of a journal of 2 ports and 4 slots that was just formatted (own)
abbrev pub first_standing : State → Standing
first_standing state = record { layout = layout_of two_by_four; area = A; epoch = 1; used = 0; number = 0; state = state }

-- for worked examples: that of such a journal after a number of slots and commands, its ports never configured (own)
abbrev pub standing_of : ℕ → ℕ → Standing
standing_of used number =
    record { layout = layout_of two_by_four; area = A; epoch = 1; used = used; number = number; state = empty_state 2 }

-- for worked examples: that of such a journal in version 1 (own)
abbrev pub older_standing_of : ℕ → ℕ → Standing
older_standing_of used number =
    record { layout = laid_out One two_by_four; area = A; epoch = 1; used = used; number = number; state = empty_state 2 }
