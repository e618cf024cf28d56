-- What holds of a machine after an exchange outside a transfer, by its history.
use Rattle.std.proofs.Common.{◌≡◌, ℕ, Bool, true, false, if◌then◌else◌, nat_lt, List, [], ◌∷◌, refl, sym, ap, ◌∙◌}
use Rattle.std.specs.Prelude.{Result, Ok, ◌==◌, length, slice_index}
use Rattle.iol_link.specs.Reading.{answer_of}
use Rattle.iol_link.specs.declared.messages.Answer.{Answer}
use Rattle.iol_link.specs.declared.messages.Answer.TheVariants as answer
use Rattle.iol_link.specs.declared.faults.IsduFault.{IsduFault}
use Rattle.iol_link.specs.Page.{PageValue}
use Rattle.arrayvec.specs.ArrayVec.{ArrayVec}
use Rattle.iol_transfer.specs.declared.fault.TransferFault.TheVariants as transfer
use Rattle.iol_port.specs.declared.fault.PortFault.TheVariants as fault
use Rattle.iol_port.specs.Answers.{failed, state_read, checksum_read, upload_ended, exchanged}
use Rattle.iol_port.specs.History.{Happening, Did}
use Rattle.iol_port.specs.Stage.{Attending, Exchanging}
use Rattle.iol_port.specs.Wanted.{AnswerTo, wanted, request_for}
use Rattle.iol_port.specs.declared.action.Input.TheVariants as input
use Rattle.iol_port.specs.declared.stage.FoundDevice.{FoundDevice}
use Rattle.iol_port.specs.declared.stage.AttendFor.TheVariants as attend
use Rattle.iol_port.specs.declared.stage.ExchangeFor.{ExchangeFor}
use Rattle.iol_port.specs.declared.stage.ExchangeFor.TheVariants as exchange
use Rattle.iol_transfer.specs.Property.{PropertyValue}
use Rattle.std.proofs.Common.{◌++◌, ◌+◌, ◌-◌, ◌<◌, arith, lit<, append_assoc}
use Rattle.std.proofs.lemmas.Bool.{ltb-true}
use Rattle.std.proofs.lemmas.Bool.Decides.{nat_tests}
use Rattle.std.proofs.lemmas.List.{replicate_more, append-nil}
use Rattle.iol_types.specs.declared.key.TheConstants.{DATA_STORAGE}
use Rattle.iol_transfer.specs.Property.{property_of}
use Rattle.iol_transfer.specs.declared.object.TheConstants.{STATE_PROPERTY, PARAMETER_CHECKSUM}
use Rattle.iol_transfer.specs.Exchanges.{busy_times, read_of}
use Rattle.iol_transfer.specs.Upload.{number_of}
use Rattle.iol_transfer.specs.declared.repeats.TheConstants.{MOST_REQUESTS}
use Rattle.iol_transfer.proofs.Order.{follows-more}
use Rattle.iol_port.specs.Laws.{IsDurable}
use Rattle.iol_link.specs.declared.messages.Answer.TheVariants.{ReadOk, Busy}
use Rattle.iol_transfer.specs.declared.command.DsCommand.TheVariants as command
use Rattle.iol_transfer.specs.Command.{commanded}
use Rattle.iol_port.proofs.Stages.{state_request, checksum_request, AsksState, AsksChecksum}
use Rattle.iol_port.proofs.Stages.{ExchangingIs, StageIs}

is_length : (octets : List ℕ) (count : ℕ) → (length octets == count) ≡ true → length octets ≡ count
is_length octets count test = grind (arith, nat_tests, test)

-- ---- reads

state_told : (port : ℕ) (found : FoundDevice) (left : ℕ) (before : List Happening) (octets : ArrayVec ℕ) (heard : Result Answer IsduFault)
    → AsksState found left before → answer_of octets.items ≡ heard
    → StageIs port (Did (AnswerTo state_request) (input.Octets octets) ∷ before) (state_read found left heard)
state_told port found left before octets (Ok (answer.ReadOk values)) is read = by (length values.items == 1) refl
  where
    few : is.times < MOST_REQUESTS
    few = let count = is.count in let more = is.more in omega (arith, count, more)

    by : (test : Bool) → (length values.items == 1) ≡ test
        → StageIs port (Did (AnswerTo state_request) (input.Octets octets) ∷ before)
        (if test then Exchanging (exchange.ReadingChecksum found (property_of (slice_index values.items 0)) MOST_REQUESTS)
        else failed (fault.Transfer transfer.Unexpected))
    by true one = record {
      front = busy_times is.times state_request ++ read_of DATA_STORAGE STATE_PROPERTY values.items ∷ [];
      state = values.items;
      times = 0;
      found_is = record {
        shown = (busy_times is.times state_request, ReadOk values, is.found_is.shown, read, append-nil _);
        said = is.found_is.said;
        wanted = is.found_is.wanted;
      };
      reads = follows-more [] [] is.times (read_of DATA_STORAGE STATE_PROPERTY values.items) refl few;
      one = is_length values.items 1 one;
      property_is = refl;
      count = omega arith;
      more = lit< tt;
    }
    by false one = tt
state_told port found left before octets (Ok answer.Busy) is read = by (nat_lt 1 left) refl
  where
    by : (test : Bool) → nat_lt 1 left ≡ test
        → StageIs port (Did (AnswerTo state_request) (input.Octets octets) ∷ before)
        (if test then Exchanging (exchange.ReadingState found (left - 1)) else failed (fault.Transfer transfer.Busy))
    by true below = record {
      times = is.times + 1;
      found_is = record {
        shown = (busy_times is.times state_request, Busy, is.found_is.shown, read, sym (replicate_more is.times _));
        said = is.found_is.said;
        wanted = is.found_is.wanted;
      };
      count = let count = is.count in let more : 1 < left = ltb-true 1 left below in omega (arith, count, more);
      more = let more : 1 < left = ltb-true 1 left below in omega (arith, more);
    }
    by false below = tt
state_told port found left before octets other is read = tt

checksum_told : (port : ℕ) (found : FoundDevice) (property : PropertyValue) (left : ℕ) (before : List Happening) (octets : ArrayVec ℕ)
    (heard : Result Answer IsduFault)
    → AsksChecksum found property left before → answer_of octets.items ≡ heard
    → StageIs port (Did (AnswerTo checksum_request) (input.Octets octets) ∷ before) (checksum_read found property left heard)
checksum_told port found property left before octets (Ok (answer.ReadOk values)) is read = by (length values.items == 4) refl
  where
    few : is.times < MOST_REQUESTS
    few = let count = is.count in let more = is.more in omega (arith, count, more)

    by : (test : Bool) → (length values.items == 4) ≡ test
        → StageIs port (Did (AnswerTo checksum_request) (input.Octets octets) ∷ before)
        (if test then Attending (attend.Confirming found property (number_of values.items))
        else failed (fault.Transfer transfer.Unexpected))
    by true four = record {
      conversation = is.front ++ busy_times is.times checksum_request ++ read_of DATA_STORAGE PARAMETER_CHECKSUM values.items ∷ [];
      state = is.state;
      sum = values.items;
      found_is = record {
        shown = (is.front ++ busy_times is.times checksum_request, ReadOk values, is.found_is.shown, read, refl);
        said = is.found_is.said;
        wanted = is.found_is.wanted;
      };
      reads = follows-more is.front (read_of DATA_STORAGE STATE_PROPERTY is.state ∷ []) is.times
          (read_of DATA_STORAGE PARAMETER_CHECKSUM values.items) is.reads few;
      one = is.one;
      property_is = is.property_is;
      four = is_length values.items 4 four;
      checksum_is = refl;
    }
    by false four = tt
checksum_told port found property left before octets (Ok answer.Busy) is read = by (nat_lt 1 left) refl
  where
    by : (test : Bool) → nat_lt 1 left ≡ test
        → StageIs port (Did (AnswerTo checksum_request) (input.Octets octets) ∷ before)
        (if test then Exchanging (exchange.ReadingChecksum found property (left - 1)) else failed (fault.Transfer transfer.Busy))
    by true below = record {
      front = is.front;
      state = is.state;
      times = is.times + 1;
      found_is = record {
        shown = (
          is.front ++ busy_times is.times checksum_request,
          Busy,
          is.found_is.shown,
          read,
          sym (append_assoc is.front (busy_times is.times checksum_request) _ ∙ ap (λ b. is.front ++ b) (replicate_more is.times _)),
        );
        said = is.found_is.said;
        wanted = is.found_is.wanted;
      };
      reads = is.reads;
      one = is.one;
      property_is = is.property_is;
      count = let count = is.count in let more : 1 < left = ltb-true 1 left below in omega (arith, count, more);
      more = let more : 1 < left = ltb-true 1 left below in omega (arith, more);
    }
    by false below = tt
checksum_told port found property left before octets other is read = tt

ended_told : (port : ℕ) (page : PageValue) (left : ℕ) (before : List Happening) (octets : ArrayVec ℕ) (heard : Result Answer IsduFault)
    → IsDurable port before → answer_of octets.items ≡ heard
    → StageIs port (Did (AnswerTo (commanded command.UploadEnd)) (input.Octets octets) ∷ before) (upload_ended page left heard)
ended_told port page left before octets (Ok answer.Busy) is read = by (nat_lt 1 left)
  where
    by : (test : Bool) → StageIs port (Did (AnswerTo (commanded command.UploadEnd)) (input.Octets octets) ∷ before)
        (if test then Exchanging (exchange.EndingUpload page (left - 1)) else failed (fault.Transfer transfer.Busy))
    by true = (refl, read, is)
    by false = tt
ended_told port page left before octets other is read = tt

pub exchanged_told : (port : ℕ) (what : ExchangeFor) (before : List Happening) (octets : ArrayVec ℕ) → ExchangingIs port before what
    → StageIs port (Did (AnswerTo (request_for what)) (input.Octets octets) ∷ before) (exchanged what (answer_of octets.items))
exchanged_told port (exchange.ReadingState found left) before octets is = state_told port found left before octets _ is refl
exchanged_told port (exchange.ReadingChecksum found property left) before octets is =
    checksum_told port found property left before octets _ is refl
exchanged_told port (exchange.EndingUpload page left) before octets is = ended_told port page left before octets _ is refl
exchanged_told port (exchange.Stopping storing) before octets is = tt
exchanged_told port exchange.Yielding before octets is = tt
