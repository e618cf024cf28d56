-- The result of a call, from the answer to its change.
use Rattle.std.specs.Prelude.{◌≡◌, Option, Some, None, Result, Ok, Err}
use Rattle.iol_master.specs.declared.caller.CallerAnswer.{CallerAnswer}
use Rattle.iol_master.specs.declared.caller.CallerAnswer.TheVariants as answer
use Rattle.iol_master.specs.declared.client.CallFault.{CallFault}
use Rattle.iol_master.specs.declared.client.CallFault.TheVariants as call
use Rattle.iol_master.specs.Receipts.{NoticeView}

-- the result of a call: the notice if the change is durable, the fault `Unwritten` if it is not written, and `Unsure` if no answer comes
-- (own)
abbrev pub IsToldBy : {F : Type 0} → Option (CallerAnswer F) → Result NoticeView CallFault → Type 0
IsToldBy (Some (answer.Durable notice)) told = told ≡ Ok notice
IsToldBy (Some answer.Unwritten) told = told ≡ Err call.Unwritten
IsToldBy None told = told ≡ Err call.Unsure
