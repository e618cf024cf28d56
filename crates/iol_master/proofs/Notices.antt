-- The numbers of commands in lists, and the receipt that a notice gives.
use Rattle.std.proofs.Common.{◌≡◌, ◌<◌, ◌≤◌, ℕ, ◌+◌, ◌-◌, zero, suc, List, [], ◌∷◌, ◌++◌, length, Some, slice_get, sym, ap, ◌∙◌}
use Rattle.std.proofs.Common.{arith, zero-add, suc-add, subst}
use Rattle.std.proofs.lemmas.List.{append-nil}
use Rattle.std.proofs.lemmas.Option.{slice_get_within}
use mathlib.Core.List.{IsPrefix}
use Rattle.iol_types.specs.Command.{CommandValue, command_of}
use Rattle.iol_types.specs.declared.command.Change.{Change}
use Rattle.iol_front.specs.Fronts.{Start}
use Rattle.iol_master.specs.Faults.{IsCallFault, IsUntold}
use Rattle.iol_master.specs.declared.client.CallFault.{CallFault}
use Rattle.iol_master.specs.declared.client.CallFault.TheVariants as call
use Rattle.iol_master.specs.Receipts.{IsReceiptFor, StandsAt}

module _ {A : Type 0} where
  got_after : (xs ys : List A) (i : ℕ) → slice_get (xs ++ ys) (length xs + i) ≡ slice_get ys i
  got_after [] ys i = ap (slice_get ys) (zero-add i)
  got_after (x ∷ xs) ys i = rw suc-add (got_after xs ys i)

  got_before : (xs ys : List A) (i : ℕ) (x : A) → slice_get xs i ≡ Some x → slice_get (xs ++ ys) i ≡ Some x
  got_before [] ys i x is = absurd cc
  got_before (a ∷ xs) ys zero x is = is
  got_before (a ∷ xs) ys (suc i) x is = got_before xs ys i x is

  -- an item of a prefix is at the same place in the whole list
  got_in : (xs zs : List A) (i : ℕ) (x : A) → IsPrefix xs zs → slice_get xs i ≡ Some x → slice_get zs i ≡ Some x
  got_in xs zs i x (rest, whole) is = ap (λ (l : List A). slice_get l i) (sym whole) ∙ got_before xs rest i x is

-- a list is a prefix of a list that is equal to it
pub unmoved : {A : Type 0} (before after : List A) → after ≡ before → IsPrefix before after
unmoved before after same = ([], append-nil before ∙ sym same)

-- the fault by which a command is not known to be durable is a fault of the call
pub untold : (start : Start) (seen : ℕ) (command : CommandValue) (fault : CallFault) → IsUntold fault
    → IsCallFault start seen command fault
untold start seen command call.Memory is = absurd is
untold start seen command (call.Submit cause) is = absurd is
untold start seen command call.Unsure is = tt
untold start seen command call.Unwritten is = tt

-- a command of a batch has its number in each list that has seen the batch
pub stands_at : (start : Start) (before commands seen : List CommandValue) (number place : ℕ) (command : CommandValue)
    → IsPrefix (before ++ commands) seen → slice_get commands place ≡ Some command → number ≡ start.number + length before + 1 + place
    → StandsAt start seen number command
stands_at start before commands seen number place command shown at is =
    let here : number - start.number - 1 ≡ length before + place = omega (arith, is) in
    record {
      above = omega (arith, is);
      there =
          ap (slice_get seen) here
          ∙ got_in (before ++ commands) seen (length before + place) command shown (got_after before commands place ∙ at);
    }

-- the number of a command is not above that of the last command of its list
pub stands_within : (start : Start) (seen : List CommandValue) (number : ℕ) (command : CommandValue) → StandsAt start seen number command
    → number ≤ start.number + length seen
stands_within start seen number command at =
    omega (arith, slice_get_within seen (number - start.number - 1) command at.there, at.above)

-- a command has the same number in each list of which its list is a prefix
pub stands_later : (start : Start) (seen later : List CommandValue) (number : ℕ) (command : CommandValue)
    → StandsAt start seen number command → IsPrefix seen later → StandsAt start later number command
stands_later start seen later number command at longer = record {
  above = at.above;
  there = got_in seen later (number - start.number - 1) command longer at.there;
}

-- a notice gives a receipt, once the client has met its pass
pub has_receipt : {F : Type 0} (start : Start) (change said : Change) (before after shown seen : List CommandValue) (number at count : ℕ)
    → said ≡ change → at ≡ number → StandsAt start shown at (command_of said) → count ≡ start.number + length before → count < number
    → IsPrefix shown seen → IsPrefix seen after
    → IsReceiptFor {F = F} start change before after (record { number = number; command = said; pass = seen })
has_receipt start change said before after shown seen number at count same here stands counts above given met =
    let there = subst (λ (n : ℕ). StandsAt start shown n (command_of said)) here stands in
    let stands_so = subst (λ (c : Change). StandsAt start shown number (command_of c)) same there in
    let shows = stands_later start shown seen number (command_of change) stands_so given in
    record {
      command = same;
      stands = shows;
      above = omega (arith, counts, above);
      within = stands_within start after number (command_of change)
          (stands_later start seen after number (command_of change) shows met);
      met = met;
    }
