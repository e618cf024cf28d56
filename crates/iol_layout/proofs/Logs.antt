-- The slots of an image, read up to the first closed gate at which a batch could begin.
use Rattle.std.proofs.Common.{◌≡◌, ◌≤◌, ◌<◌, ℕ, zero, suc, ◌+◌, ◌-◌, true, false, if◌then◌else◌, List, length, Option, Some, Result, Ok}
use Rattle.std.proofs.Common.{refl, sym, ◌∙◌, ap, subst, arith}
use Rattle.iol_types.specs.Command.{CommandValue}
use Rattle.iol_types.specs.State.{State, after, legal}
use Rattle.iol_disk.specs.Content.{Image}
use Rattle.iol_record.specs.Reading.{◌>>=◌}
use Rattle.iol_disk.specs.Gate.{is_open}
use Rattle.iol_layout.specs.Layout.{Layout, slot_at, body_at}
use Rattle.iol_layout.specs.Body.{head_of, batch_of}
use Rattle.iol_layout.specs.Meaning.{Cause, if_sound, or_damaged, Log, body_in, span_in, batch_in, log_from}
use Rattle.iol_layout.specs.declared.area.Area.{Area}
use Rattle.iol_layout.proofs.Chains.{ok, by_test, bind_ok, bind_same, if_sound-ok, or_damaged-ok}
use Rattle.iol_layout.proofs.Spans.{slots_of-some, body_in-same, span_in-same, batch_in-within, batch_in-there, batch_in-same}

-- the first slot is open: its commands, which pass, and what is read after it
pub record IsOpened (layout : Layout) (a : Area) (epoch : ℕ) (image : Image) (k left number : ℕ) (state : State) (log : Log) : Type 0 where
  pub commands : List CommandValue
  pub batch : batch_in layout a epoch image k (suc left) (number + 1) ≡ Some commands
  pub passes : legal state commands ≡ true
  pub behind : log_from layout a epoch image (k + 1) (span_in layout a image k - 1) left (number + length commands) (after state commands)
      ≡ Ok log

pub opened : (layout : Layout) (a : Area) (epoch : ℕ) (image : Image) (k left number : ℕ) (state : State) (log : Log)
    → is_open (image (slot_at layout a k)) ≡ true → log_from layout a epoch image k 0 (suc left) number state ≡ Ok log
    → IsOpened layout a epoch image k left number state log
opened layout a epoch image k left number state log open_gate is =
    let is' = rw open_gate at is in
    let f = bind_ok (or_damaged (batch_in layout a epoch image k (suc left) (number + 1)) (body_at layout a k 0)) _ log is' in
    let l = bind_ok (if_sound (legal state f.0) (body_at layout a k 0) f.0) _ log f.2 in
    let p = if_sound-ok (legal state f.0) (body_at layout a k 0) f.0 l.0 l.1 in
    record {
      commands = f.0;
      batch = or_damaged-ok _ _ f.0 f.1;
      passes = p.0;
      behind = subst (λ (commands : List CommandValue).
          log_from layout a epoch image (k + 1) (span_in layout a image k - 1) left (number + length commands) (after state commands)
          ≡ Ok log) (sym p.1) l.2;
    }

pub goes_on : (layout : Layout) (a : Area) (epoch : ℕ) (image : Image) (k left number : ℕ) (state : State) (log : Log)
    → is_open (image (slot_at layout a k)) ≡ true → IsOpened layout a epoch image k left number state log
    → log_from layout a epoch image k 0 (suc left) number state ≡ Ok log
goes_on layout a epoch image k left number state log open_gate is =
    rw (
      open_gate,
      ap (λ (found : Option (List CommandValue)). or_damaged found (body_at layout a k 0)) is.batch,
      is.passes,
    )
    is.behind

same_log : (x y : Log) → ok x ≡ Ok y → x ≡ y
same_log x y is = cc

-- slots that belong to the batch before are skipped
pub log-skipped : (layout : Layout) (a : Area) (epoch : ℕ) (image : Image) (k n left number : ℕ) (state : State) → n ≤ left
    → log_from layout a epoch image k n left number state ≡ log_from layout a epoch image (k + n) 0 (left - n) number state
log-skipped layout a epoch image k zero left number state within =
    let place : k + 0 ≡ k = omega arith in
    let count : left - 0 ≡ left = omega arith in
    ap (λ (i : ℕ). log_from layout a epoch image i 0 left number state) (sym place)
    ∙ ap (λ (i : ℕ). log_from layout a epoch image (k + 0) 0 i number state) (sym count)
log-skipped layout a epoch image k (suc n) zero number state within = absurd (omega (arith, within))
log-skipped layout a epoch image k (suc n) (suc left) number state within =
    let place : k + 1 + n ≡ k + suc n = omega arith in
    let count : left - n ≡ suc left - suc n = omega arith in
    log-skipped layout a epoch image (k + 1) n left number state (omega (arith, within))
    ∙ ap (λ (i : ℕ). log_from layout a epoch image i 0 (left - n) number state) place
    ∙ ap (λ (i : ℕ). log_from layout a epoch image (k + suc n) 0 i number state) count

-- the slots of the first batch exist
first_within : (layout : Layout) (a : Area) (epoch : ℕ) (image : Image) (k left number : ℕ) (state : State) (log : Log)
    → IsOpened layout a epoch image k left number state log → span_in layout a image k ≤ suc left
first_within layout a epoch image k left number state log o =
    (batch_in-within layout a epoch image k (suc left) (number + 1) o.commands o.batch).0

-- at least the slots that were passed are used
pub used_from : (layout : Layout) (a : Area) (epoch : ℕ) (image : Image) (k skipped left number : ℕ) (state : State) (log : Log)
    → skipped ≤ left
    → log_from layout a epoch image k skipped left number state ≡ Ok log → (k + skipped ≤ log.used) × (log.used ≤ k + left)
used_from layout a epoch image k skipped zero number state log within is =
    let e : k ≡ log.used = ap (λ (l : Log). l.used) (same_log _ log is) in (omega (arith, within), omega arith)
used_from layout a epoch image k (suc skipped) (suc left) number state log within is =
    let r = used_from layout a epoch image (k + 1) skipped left number state log (omega (arith, within)) is in
    (omega (arith, r.0), omega (arith, r.1))
used_from layout a epoch image k zero (suc left) number state log within is = by_test (is_open (image (slot_at layout a k))) _
    (λ at.
    let o = opened layout a epoch image k left number state log at is in
    let span = first_within layout a epoch image k left number state log o in
    let r = used_from layout a epoch image (k + 1) (span_in layout a image k - 1) left (number + length o.commands) (after state o.commands)
    log (omega (arith, span)) o.behind in
    (omega (arith, r.0), omega (arith, r.1)))
    (λ at.
    let is' : ok (record { used = k; number = number; state = state }) ≡ Ok log = rw at at is in
    let e : k ≡ log.used = ap (λ (l : Log). l.used) (same_log _ log is') in (omega arith, omega arith))

-- if two images are the same in the used slots, an open slot leads equally far in both
open-same : (layout : Layout) (a : Area) (epoch : ℕ) (old new : Image) (k left number : ℕ) (state : State) (log end : Log)
    → is_open (old (slot_at layout a k)) ≡ true → (o : IsOpened layout a epoch old k left number state log)
    → ((i : ℕ) → slot_at layout a k ≤ i → i < slot_at layout a log.used → new i ≡ old i)
    → log_from layout a epoch new (k + 1) (span_in layout a old k - 1) left (number + length o.commands) (after state o.commands) ≡ Ok end
    → log_from layout a epoch new k 0 (suc left) number state ≡ Ok end
open-same layout a epoch old new k left number state log end at o same leads =
    let b = batch_in-within layout a epoch old k (suc left) (number + 1) o.commands o.batch in
    let some = slots_of-some (head_of (old (body_at layout a k 0))).octets in
    let r = used_from layout a epoch old (k + 1) (span_in layout a old k - 1) left (number + length o.commands) (after state o.commands) log
    (omega (arith, b.0)) o.behind in
    let more : k + span_in layout a old k ≤ log.used = omega (arith, r.0, some) in
    let gate : is_open (new (slot_at layout a k)) ≡ true =
    ap is_open (same (slot_at layout a k) (omega arith) (omega (arith, more, some))) ∙ at in
    let span = span_in-same layout a old new k (same (body_at layout a k 0) (omega arith) (omega (arith, more, some))) in
    let body = body_in-same layout a old new k (span_in layout a old k) (λ i above below. same i above (omega (arith, below, more))) in
    goes_on layout a epoch new k left number state end gate
    (record {
      commands = o.commands;
      batch = batch_in-there layout a epoch new k (span_in layout a old k) (suc left) (number + 1) (Some o.commands) span b.0
          (ap (batch_of layout.version epoch (number + 1)) body ∙ b.1);
      passes = o.passes;
      behind = ap (λ (n : ℕ). log_from layout a epoch new (k + 1) (n - 1) left (number + length o.commands) (after state o.commands)) span
          ∙ leads;
    })

-- images that are the same in the used slots, with a closed gate after them, have the same log
pub log-same : (layout : Layout) (a : Area) (epoch : ℕ) (old new : Image) (k skipped left number : ℕ) (state : State) (log : Log)
    → skipped ≤ left
    → log_from layout a epoch old k skipped left number state ≡ Ok log
    → ((i : ℕ) → slot_at layout a k ≤ i → i < slot_at layout a log.used → new i ≡ old i)
    → (log.used < k + left → is_open (new (slot_at layout a log.used)) ≡ false)
    → log_from layout a epoch new k skipped left number state ≡ Ok log
log-same layout a epoch old new k skipped zero number state log within is same shut = is
log-same layout a epoch old new k (suc skipped) (suc left) number state log within is same shut =
    log-same layout a epoch old new (k + 1) skipped left number state log (omega (arith, within)) is
    (λ i above below. same i (omega (arith, above)) below) (λ less. shut (omega (arith, less)))
log-same layout a epoch old new k zero (suc left) number state log within is same shut = by_test (is_open (old (slot_at layout a k))) _
    (λ at.
    let o = opened layout a epoch old k left number state log at is in
    let span = first_within layout a epoch old k left number state log o in
    open-same layout a epoch old new k left number state log log at o same
    (log-same layout a epoch old new (k + 1) (span_in layout a old k - 1) left (number + length o.commands) (after state o.commands) log
    (omega (arith, span)) o.behind
    (λ i above below. same i (omega (arith, above)) below) (λ less. shut (omega (arith, less)))))
    (λ at.
    let is' : ok (record { used = k; number = number; state = state }) ≡ Ok log = rw at at is in
    let e : k ≡ log.used = ap (λ (l : Log). l.used) (same_log _ log is') in
    let closed : is_open (new (slot_at layout a k)) ≡ false = rw e (shut (omega arith)) in
    rw closed is')

-- the batch at the end of a log, and a closed gate after it
at_end : (layout : Layout) (a : Area) (epoch : ℕ) (new : Image) (n left : ℕ) (log : Log) (commands : List CommandValue)
    → is_open (new (slot_at layout a log.used)) ≡ true
    → span_in layout a new log.used ≡ n → n ≤ suc left
    → batch_of layout.version epoch (log.number + 1) (body_in layout a new log.used n) ≡ Some commands
    → legal log.state commands ≡ true
    → (log.used + n < log.used + suc left → is_open (new (slot_at layout a (log.used + n))) ≡ false)
    → log_from layout a epoch new log.used 0 (suc left) log.number log.state
    ≡ Ok (record { used = log.used + n; number = log.number + length commands; state = after log.state commands })
at_end layout a epoch new n left log commands open_gate span within batch passes shut =
    goes_on layout a epoch new log.used left log.number log.state _ open_gate
    (record {
      commands = commands;
      batch = batch_in-there layout a epoch new log.used n (suc left) (log.number + 1) (Some commands) span within batch;
      passes = passes;
      behind = ap (λ (i : ℕ).
          log_from layout a epoch new (log.used + 1) (i - 1) left (log.number + length commands) (after log.state commands)) span
          ∙ log-skipped layout a epoch new (log.used + 1) (n - 1) left (log.number + length commands) (after log.state commands)
          (omega (arith, within))
          ∙ ap (λ (i : ℕ). log_from layout a epoch new i 0 (left - (n - 1)) (log.number + length commands) (after log.state commands)) place
          ∙ last (left - (n - 1)) (λ less. shut (omega (arith, less)));
    })
  where
    some : 1 ≤ n
    some = subst (λ (i : ℕ). 1 ≤ i) span (slots_of-some (head_of (new (body_at layout a log.used 0))).octets)

    place : log.used + 1 + (n - 1) ≡ log.used + n
    place = omega (arith, some)

    last : (left : ℕ) → (0 < left → is_open (new (slot_at layout a (log.used + n))) ≡ false)
        → log_from layout a epoch new (log.used + n) 0 left (log.number + length commands) (after log.state commands)
        ≡ Ok (record { used = log.used + n; number = log.number + length commands; state = after log.state commands })
    last zero closed = refl
    last (suc rest) closed = let shut' : is_open (new (slot_at layout a (log.used + n))) ≡ false = closed (omega arith) in rw shut' refl

-- if the gate of the first free slot is open before a batch, the log has the batch
pub log-more : (layout : Layout) (a : Area) (epoch : ℕ) (old new : Image) (k skipped left number n : ℕ) (state : State) (log : Log)
    (commands : List CommandValue) → skipped ≤ left
    → log_from layout a epoch old k skipped left number state ≡ Ok log
    → ((i : ℕ) → slot_at layout a k ≤ i → i < slot_at layout a log.used → new i ≡ old i)
    → log.used + n ≤ k + left
    → is_open (new (slot_at layout a log.used)) ≡ true
    → span_in layout a new log.used ≡ n
    → batch_of layout.version epoch (log.number + 1) (body_in layout a new log.used n) ≡ Some commands
    → legal log.state commands ≡ true
    → (log.used + n < k + left → is_open (new (slot_at layout a (log.used + n))) ≡ false)
    → log_from layout a epoch new k skipped left number state
    ≡ Ok (record { used = log.used + n; number = log.number + length commands; state = after log.state commands })
log-more layout a epoch old new k skipped zero number n state log commands within is same room open_gate span batch passes shut =
    let r = used_from layout a epoch old k skipped zero number state log within is in
    let some = subst (λ (i : ℕ). 1 ≤ i) span (slots_of-some (head_of (new (body_at layout a log.used 0))).octets) in
    absurd (omega (arith, r.0, room, some))
log-more layout a epoch old new k (suc skipped) (suc left) number n state log commands within is same room open_gate span batch passes
    shut =
    log-more layout a epoch old new (k + 1) skipped left number n state log commands (omega (arith, within)) is
    (λ i above below. same i (omega (arith, above)) below) (omega (arith, room)) open_gate span batch passes
    (λ less. shut (omega (arith, less)))
log-more layout a epoch old new k zero (suc left) number n state log commands within is same room open_gate span batch passes shut =
    by_test (is_open (old (slot_at layout a k))) _
    (λ at.
    let o = opened layout a epoch old k left number state log at is in
    let first = first_within layout a epoch old k left number state log o in
    open-same layout a epoch old new k left number state log _ at o same
    (log-more layout a epoch old new (k + 1) (span_in layout a old k - 1) left (number + length o.commands) n (after state o.commands) log
    commands (omega (arith, first)) o.behind
    (λ i above below. same i (omega (arith, above)) below) (omega (arith, room)) open_gate span batch passes
    (λ less. shut (omega (arith, less)))))
    (λ at.
    let is' : ok (record { used = k; number = number; state = state }) ≡ Ok log = rw at at is in
    let ends = same_log _ log is' in
    let e : k ≡ log.used = ap (λ (l : Log). l.used) ends in
    subst (λ (l : Log). log_from layout a epoch new l.used 0 (suc left) l.number l.state
    ≡ Ok (record { used = log.used + n; number = log.number + length commands; state = after log.state commands })) (sym ends)
    (at_end layout a epoch new n left log commands open_gate span (omega (arith, room, e)) batch passes
    (λ less. shut (omega (arith, less, e)))))

-- images that are the same in all slots have the same log
pub log_from-same : (layout : Layout) (a : Area) (epoch : ℕ) (old new : Image) (k skipped left number : ℕ) (state : State)
    → ((i : ℕ) → slot_at layout a k ≤ i → i < slot_at layout a (k + left) → new i ≡ old i)
    → log_from layout a epoch new k skipped left number state ≡ log_from layout a epoch old k skipped left number state
log_from-same layout a epoch old new k skipped zero number state same = refl
log_from-same layout a epoch old new k (suc skipped) (suc left) number state same =
    log_from-same layout a epoch old new (k + 1) skipped left number state
    (λ i above below. same i (omega (arith, above)) (omega (arith, below)))
log_from-same layout a epoch old new k zero (suc left) number state same =
    let gate : new (slot_at layout a k) ≡ old (slot_at layout a k) = same (slot_at layout a k) (omega arith) (omega arith) in
    let span = span_in-same layout a old new k (same (body_at layout a k 0) (omega arith) (omega arith)) in
    let batch = batch_in-same layout a epoch old new k (suc left) (number + 1) (omega arith) same in
    ap (λ (octets : List ℕ).
    if is_open octets then read new (span_in layout a new k) (batch_in layout a epoch new k (suc left) (number + 1)) else ends) gate
    ∙ ap (λ (found : Option (List CommandValue)).
    if is_open (old (slot_at layout a k)) then read new (span_in layout a new k) found else ends) batch
    ∙ ap (λ (n : ℕ).
    if is_open (old (slot_at layout a k)) then read new n (batch_in layout a epoch old k (suc left) (number + 1)) else ends) span
    ∙ ap (λ (rest : Result Log Cause). if is_open (old (slot_at layout a k)) then rest else ends)
    (bind_same (or_damaged (batch_in layout a epoch old k (suc left) (number + 1)) (body_at layout a k 0)) _ _
    (λ commands. bind_same (if_sound (legal state commands) (body_at layout a k 0) commands) _ _
    (λ passed. log_from-same layout a epoch old new (k + 1) (span_in layout a old k - 1) left (number + length passed) (after state passed)
    (λ i above below. same i (omega (arith, above)) (omega (arith, below))))))
  where
    ends : Result Log Cause
    ends = Ok (record { used = k; number = number; state = state })

    read : Image → ℕ → Option (List CommandValue) → Result Log Cause
    read image n found =
        or_damaged found (body_at layout a k 0) >>= λ commands. if_sound (legal state commands) (body_at layout a k 0) commands
        >>= λ passed. log_from layout a epoch image (k + 1) (n - 1) left (number + length passed) (after state passed)
