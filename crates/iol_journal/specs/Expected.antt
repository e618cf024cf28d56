-- The disk calls of checkpoints in worked examples.
use Rattle.std.specs.Prelude.{ℕ, List, [], ◌∷◌, ◌++◌, replicate}
use Rattle.iol_record.specs.declared.examples.TheConstants.{BLANK_RECORD_OF_TWO}
use Rattle.iol_record.specs.declared.version.Version.TheVariants.{Two}
use Rattle.iol_disk.specs.Calls.{Call, write, sync}
use Rattle.iol_disk.specs.Gate.{open_gate, closed_gate}
use Rattle.iol_layout.specs.Header.{header_octets}
use Rattle.iol_layout.specs.Octets.{padded}

-- for worked examples: the disk calls of a checkpoint into area B, with 2 ports that were never configured and 3 slots, under
-- epoch 2 and after 4 commands (format, Orders of disk calls)
abbrev pub checkpoint_of_two_by_four : List Call
checkpoint_of_two_by_four =
    write 90 closed_gate ∷ sync ∷ write 126 closed_gate ∷ write 143 closed_gate ∷ write 160 closed_gate ∷ sync
    ∷ write 91 (header_octets Two 2 4) ∷ write 92 (padded BLANK_RECORD_OF_TWO) ∷ write 109 (padded BLANK_RECORD_OF_TWO) ∷ sync
    ∷ write 90 open_gate ∷ sync
    ∷ []

-- for worked examples: the body of first_body under epoch 2, at number 5 (format, Slots)
abbrev pub carried_body : List ℕ
carried_body =
    (0 ∷ 0 ∷ 0 ∷ 0 ∷ 0 ∷ 0 ∷ 0 ∷ 2 ∷ 0 ∷ 0 ∷ 0 ∷ 0 ∷ 0 ∷ 0 ∷ 0 ∷ 5 ∷ 0 ∷ 1 ∷ 0 ∷ 0 ∷ 0 ∷ 11 ∷ [])
    ++ (0x01 ∷ 0x01 ∷ 0x01 ∷ 0x03 ∷ 0x01 ∷ 0xF4 ∷ 0x00 ∷ 0x00 ∷ 0xAB ∷ 0xCD ∷ 0x00 ∷ []) ++ replicate 479 0

-- for worked examples: the disk calls of that checkpoint if this batch was written while it was paused: the batch is carried
-- after the records, before the gate of the area is opened (format, Orders of disk calls)
abbrev pub carrying_checkpoint : List Call
carrying_checkpoint =
    write 90 closed_gate ∷ sync ∷ write 126 closed_gate ∷ write 143 closed_gate ∷ write 160 closed_gate ∷ sync
    ∷ write 91 (header_octets Two 2 4) ∷ write 92 (padded BLANK_RECORD_OF_TWO) ∷ write 109 (padded BLANK_RECORD_OF_TWO) ∷ sync
    ∷ write 127 carried_body ∷ sync ∷ write 126 open_gate ∷ sync ∷ write 90 open_gate ∷ sync ∷ []
