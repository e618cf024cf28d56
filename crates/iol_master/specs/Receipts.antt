-- The claims of a receipt and of a notice.
use Rattle.std.specs.Prelude.{◌≡◌, ℕ, ◌+◌, ◌-◌, ◌<◌, ◌≤◌, List, length, Some, slice_get}
use mathlib.Core.List.{IsPrefix}
use Rattle.iol_types.specs.Command.{CommandValue, command_of}
use Rattle.iol_types.specs.declared.command.Change.{Change}
use Rattle.iol_front.specs.Fronts.{Start}
use Rattle.iol_master.specs.declared.client.Receipt.{Receipt}

-- a command has this number in a list, from a front's start on (own)
pub record StandsAt (start : Start) (seen : List CommandValue) (number : ℕ) (command : CommandValue) : Type 0 where
  pub above : start.number < number
  pub there : slice_get seen (number - start.number - 1) ≡ Some command

-- a notice, as contracts see it: a number, the change that is durable under it, and the list that its pass has seen (own)
pub record NoticeView : Type 0 where
  pub number : ℕ
  pub change : Change
  pub seen : List CommandValue

-- a receipt for a change that a client requested, with the client's list before and after the call: the change has the receipt's number in
-- the list that its pass has seen. The number is above all that the client had seen, and the client has then seen all that the pass has
-- (own)
pub record IsReceiptFor {F : Type 0} (start : Start) (change : Change) (before after : List CommandValue) (receipt : Receipt F) : Type 0
  where
    pub command : receipt.command ≡ change
    pub stands : StandsAt start receipt.pass receipt.number (command_of change)
    pub above : start.number + length before < receipt.number
    pub within : receipt.number ≤ start.number + length after
    pub met : IsPrefix receipt.pass after
