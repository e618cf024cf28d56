-- Queues of commands: with one more command, their first commands, and the remaining ones.
use Rattle.std.proofs.Common.{◌≡◌, ◌<◌, ◌&&◌, ℕ, zero, suc, ◌+◌, true, List, [], ◌∷◌, ◌++◌, length, map, take, drop, None, Some, is_none}
use Rattle.std.proofs.Common.{Bool, not, nat_eq, arith}
use Rattle.std.proofs.Common.{get_or, replicate, slice_get, refl, sym, ap, ◌∙◌, length-append, append-nil, add-one}
use Rattle.std.proofs.lemmas.Bool.{and_parts}
use Rattle.std.proofs.lemmas.List.{length-map, map_more, take_more, take-map, take-append-drop}
use Rattle.std.proofs.lemmas.Option.{slice_get_within, get_or_from_slice_get}
use Rattle.std.proofs.lemmas.List.Sums.{fold-append}
use Rattle.std.specs.List.{flat_map}
use Rattle.std.proofs.lemmas.Grind.{flat_map-append}
use Rattle.iol_types.specs.declared.command.Command.{Command}
use Rattle.iol_record.specs.Record.{command_octets, newest}
use Rattle.iol_journal.specs.Body.{records_of, values}
use Rattle.iol_core.specs.Core.{CoreView, out_at}
use Rattle.iol_core.specs.Batches.{has_batch}
use Rattle.iol_core.specs.Submit.{writes_no_more}
use Rattle.iol_types.specs.Command.{CommandValue, value_of}
use Rattle.iol_types.specs.State.{State, check, apply, after, legal}
use Rattle.iol_types.proofs.StateLemmas.{legal-append}

pub after_push : (state : State) (queue : List CommandValue) (command : CommandValue) → after state (queue ++ command ∷ [])
    ≡ apply (after state queue) command
after_push state queue command = fold-append apply state queue (command ∷ [])

pub legal_push : (state : State) (queue : List CommandValue) (command : CommandValue)
    → legal state queue ≡ true → check (after state queue) command ≡ None → legal state (queue ++ command ∷ []) ≡ true
legal_push state queue command before passes =
    legal-append state queue (command ∷ [])
    ∙ ap (λ b. b && (is_none (check (after state queue) command) && true)) before
    ∙ ap (λ fault. true && (is_none fault && true)) passes

-- the first commands of a queue, and one more
pub values_more : (queue : List Command) (i : ℕ) (command : Command) → i < length queue → get_or queue i command ≡ command
    → take (i + 1) (values queue) ≡ take i (values queue) ++ value_of command ∷ []
values_more queue i command within is =
    take-map value_of (i + 1) queue
    ∙ (map_more value_of queue i command within
    ∙ ap (λ (x : Command). map value_of (take i queue) ++ value_of x ∷ []) is
    ∙ ap (λ (front : List CommandValue). front ++ value_of command ∷ []) (sym (take-map value_of i queue)))

-- the octets of the records of commands, and of one more
records_more : (commands : List CommandValue) (command : CommandValue)
    → length (records_of (commands ++ command ∷ [])) ≡ length (records_of commands) + length (command_octets newest command)
records_more commands command =
    ap length (flat_map-append (command_octets newest) commands (command ∷ []))
    ∙ (length-append (flat_map (command_octets newest) commands) (flat_map (command_octets newest) (command ∷ []))
    ∙ ap (λ (octets : List ℕ). length (flat_map (command_octets newest) commands) + length octets)
    (append-nil (command_octets newest command)))

-- the octets of the records of a queue's first commands, and of one more
pub records_next : (queue : List Command) (i : ℕ) (command : Command) → i < length queue → get_or queue i command ≡ command
    → length (records_of (take (i + 1) (values queue))) ≡ length (records_of (take i (values queue)))
    + length (command_octets newest (value_of command))
records_next queue i command within is =
    ap (λ (commands : List CommandValue). length (records_of commands)) (values_more queue i command within is)
    ∙ records_more (take i (values queue)) (value_of command)

-- the first commands of a queue pass, and then the others
pub legal_parts : (state : State) (queue : List CommandValue) (count : ℕ) → legal state queue ≡ true
    → (legal state (take count queue) ≡ true) × (legal (after state (take count queue)) (drop count queue) ≡ true)
legal_parts state queue count passes =
    and_parts (legal state (take count queue)) (legal (after state (take count queue)) (drop count queue))
    (sym (legal-append state (take count queue) (drop count queue)) ∙ (ap (legal state) (take-append-drop count queue) ∙ passes))

-- applying the first commands and then the others gives the state after all
pub after_parts : (state : State) (queue : List CommandValue) (count : ℕ) → after (after state (take count queue)) (drop count queue)
    ≡ after state queue
after_parts state queue count = sym (fold-append apply state (take count queue) (drop count queue))
    ∙ ap (after state) (take-append-drop count queue)

-- if no permit is out, none is out at any place
pub none_out : (ports i : ℕ) → out_at (slice_get (replicate ports None) i) ≡ None
none_out zero i = refl
none_out (suc n) zero = refl
none_out (suc n) (suc i) = none_out n i

pub length-values : (commands : List Command) → length (values commands) ≡ length commands
length-values commands = length-map commands value_of

-- the first items of a list, and the item found after them
pub take_found : {A : Type 0} (xs : List A) (i : ℕ) (x : A) → slice_get xs i ≡ Some x → take (i + 1) xs ≡ take i xs ++ x ∷ []
take_found {A = A} xs i x found = take_more xs i x (slice_get_within xs i x found)
    ∙ ap (λ (last : A). take i xs ++ last ∷ []) (get_or_from_slice_get xs i x x found)

-- the first of the remaining items of a list follows the items before it
pub first_left : {A : Type 0} (xs : List A) (i : ℕ) (x : A) (rest : List A) → drop i xs ≡ x ∷ rest
    → (take (i + 1) xs ≡ take i xs ++ x ∷ []) × (drop (i + 1) xs ≡ rest)
first_left {A = A} xs i x rest is = rw add-one (behind xs i is)
  where
    behind : (ys : List A) (n : ℕ) → drop n ys ≡ x ∷ rest → (take (suc n) ys ≡ take n ys ++ x ∷ []) × (drop (suc n) ys ≡ rest)
    behind [] zero e = absurd cc
    behind [] (suc n) e = absurd cc
    behind (y ∷ ys) zero e = let head : y ≡ x = cc in let tail : ys ≡ rest = cc in (ap (λ (one : A). one ∷ []) head, tail)
    behind (y ∷ ys) (suc n) e = let next = behind ys n e in (ap (λ (front : List A). y ∷ front) next.0, next.1)

not_none : (count : ℕ) (idle fails : Bool) → (not (nat_eq count 0) && idle && fails) ≡ true → 0 < count
not_none zero idle fails e = absurd cc
not_none (suc n) idle fails e = omega arith

-- a command waits if a batch may be taken
pub some_waits : (core : CoreView) → has_batch core ≡ true → 0 < length core.queue
some_waits core there = not_none (length core.queue) (nat_eq core.flight 0) (not (writes_no_more core.stopped)) there
