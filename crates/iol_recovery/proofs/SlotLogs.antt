-- A log that is read slot by slot.
use Rattle.std.proofs.Common.{◌≡◌, ◌≤◌, ◌<◌, ℕ, suc, ◌+◌, ◌-◌, ◌*◌, Bool, true, false, if◌then◌else◌, List, length, Option, Some, None}
use Rattle.std.proofs.Common.{Result, Ok, Err, refl, sym, ◌∙◌, ap, subst, arith, add-one}
use Rattle.iol_types.specs.Command.{CommandValue}
use Rattle.iol_types.specs.State.{State, after, legal}
use Rattle.iol_disk.specs.Content.{Image, reads}
use Rattle.iol_disk.specs.Disk.{Disk, Same, Shows}
use Rattle.iol_disk.specs.Gate.{is_open, body_sector}
use Rattle.iol_layout.specs.Layout.{Layout, slot_at, body_at}
use Rattle.iol_layout.specs.Octets.{octets_at}
use Rattle.iol_record.specs.declared.version.Version.{Version}
use Rattle.iol_layout.specs.Body.{head_of, slots_of, batch_of}
use Rattle.iol_record.specs.Reading.{◌>>=◌}
use Rattle.iol_layout.specs.Meaning.{Cause, damaged, or_damaged, if_sound, Meaning, Log, body_in, span_in, batch_in, log_from}
use Rattle.iol_recovery.specs.Replay.{reached}
use Rattle.iol_disk.proofs.Unchanged.{same-honest, same-reads}
use Rattle.iol_layout.proofs.Logs.{log-skipped}
use Rattle.iol_layout.proofs.Spans.{body_in-placed, batch_in-there, batch_in-past}
use Rattle.iol_layout.specs.declared.area.Area.{Area}
use Rattle.iol_disk.specs.declared.slot.TheConstants.{BODY_SECTORS}

-- reading continues after legal commands
goes_on : (sector number : ℕ) (state : State) (next : Meaning) (rest : ℕ → State → Result Log Cause) (commands : Option (List CommandValue))
    → reached number state commands ≡ Some next
    → (or_damaged commands sector >>= λ cs. if_sound (legal state cs) sector cs >>= λ all. rest (number + length all) (after state all))
    ≡ rest next.number next.state
goes_on sector number state next rest None is = cc
goes_on sector number state next rest (Some commands) is = by_test (legal state commands) is
  where
    by_test : (passes : Bool) → (if passes then Some (record { number = number + length commands; state = after state commands }) else None)
        ≡ Some next
        → (if_sound passes sector commands >>= λ all. rest (number + length all) (after state all)) ≡ rest next.number next.state
    by_test true is =
        let ends : Meaning = record { number = number + length commands; state = after state commands } in
        let same : ends ≡ next = cc in
        ap (λ (m : Meaning). rest m.number m.state) same
    by_test false is = cc

stops_at : (sector number : ℕ) (state : State) (rest : ℕ → State → Result Log Cause) (commands : Option (List CommandValue))
    → reached number state commands ≡ None
    → (or_damaged commands sector >>= λ cs. if_sound (legal state cs) sector cs >>= λ all. rest (number + length all) (after state all))
    ≡ Err (damaged sector)
stops_at sector number state rest None is = refl
stops_at sector number state rest (Some commands) is = by_test (legal state commands) is
  where
    by_test : (passes : Bool)
        → if◌then◌else◌ {A = Option Meaning} passes (Some (record { number = number + length commands; state = after state commands })) None
        ≡ None
        → (if_sound passes sector commands >>= λ all. rest (number + length all) (after state all)) ≡ Err (damaged sector)
    by_test true is = cc
    by_test false is = refl

-- an open slot after whose batch reading continues
pub log-open : (layout : Layout) (a : Area) (epoch : ℕ) (image : Image) (k left number : ℕ) (state : State) (next : Meaning)
    → is_open (image (slot_at layout a k)) ≡ true
    → reached number state (batch_in layout a epoch image k (left + 1) (number + 1)) ≡ Some next
    → log_from layout a epoch image k 0 (left + 1) number state
    ≡ log_from layout a epoch image (k + 1) (span_in layout a image k - 1) left next.number next.state
log-open layout a epoch image k left number state next opened is =
    let count : left + 1 ≡ suc left = omega arith in
    rw (count, opened) (goes_on (body_at layout a k 0) number state next
    (λ n s. log_from layout a epoch image (k + 1) (span_in layout a image k - 1) left n s)
    (batch_in layout a epoch image k (suc left) (number + 1))
    (subst (λ (n : ℕ). reached number state (batch_in layout a epoch image k n (number + 1)) ≡ Some next) count is))

-- an open slot without a batch
pub log-damaged : (layout : Layout) (a : Area) (epoch : ℕ) (image : Image) (k left number : ℕ) (state : State)
    → is_open (image (slot_at layout a k)) ≡ true
    → reached number state (batch_in layout a epoch image k (left + 1) (number + 1)) ≡ None
    → log_from layout a epoch image k 0 (left + 1) number state ≡ Err (damaged (body_at layout a k 0))
log-damaged layout a epoch image k left number state opened is =
    let count : left + 1 ≡ suc left = omega arith in
    rw (count, opened) (stops_at (body_at layout a k 0) number state
    (λ n s. log_from layout a epoch image (k + 1) (span_in layout a image k - 1) left n s)
    (batch_in layout a epoch image k (suc left) (number + 1))
    (subst (λ (n : ℕ). reached number state (batch_in layout a epoch image k n (number + 1)) ≡ None) count is))

-- a closed slot
pub log-closed : (layout : Layout) (a : Area) (epoch : ℕ) (image : Image) (k left number : ℕ) (state : State)
    → is_open (image (slot_at layout a k)) ≡ false
    → log_from layout a epoch image k 0 (left + 1) number state ≡ Ok (record { used = k; number = number; state = state })
log-closed layout a epoch image k left number state closed = rw (add-one, closed) refl

-- the gate of a slot, on a disk that calls left unchanged
pub gate_read : (old now : Disk) (place gate : ℕ) (answer expected : Bool) → Same old now → gate ≡ place
    → Shows now (λ image. answer ≡ is_open (image gate)) → answer ≡ expected
    → Shows old (λ image. is_open (image place) ≡ expected)
gate_read old now place gate answer expected same here told is h =
    ap (λ (image : Image). is_open (image place)) (sym (same-reads old now same h))
    ∙ ap (λ (sector : ℕ). is_open (reads now.content sector)) (sym here)
    ∙ sym (told (same-honest old now same h)) ∙ is

-- an open slot whose batch leads to the slot after it
pub log-span : (layout : Layout) (a : Area) (epoch : ℕ) (image : Image) (k n left number : ℕ) (state : State) (next : Meaning)
    → is_open (image (slot_at layout a k)) ≡ true → 1 ≤ n → span_in layout a image k ≡ n
    → reached number state (batch_of layout.version epoch (number + 1) (body_in layout a image k n)) ≡ Some next
    → log_from layout a epoch image k 0 (left + n) number state ≡ log_from layout a epoch image (k + n) 0 left next.number next.state
log-span layout a epoch image k n left number state next opened some span is =
    let m = left + n - 1 in
    let all : left + n ≡ m + 1 = omega (arith, some) in
    let place : k + 1 + (n - 1) ≡ k + n = omega (arith, some) in
    let rest : m - (n - 1) ≡ left = omega (arith, some) in
    let batch : batch_in layout a epoch image k (m + 1) (number + 1)
    ≡ batch_of layout.version epoch (number + 1) (body_in layout a image k n) =
    batch_in-there layout a epoch image k n (m + 1) (number + 1) _ span (omega (arith, some)) refl in
    ap (λ (i : ℕ). log_from layout a epoch image k 0 i number state) all
    ∙ log-open layout a epoch image k m number state next opened (ap (reached number state) batch ∙ is)
    ∙ ap (λ (i : ℕ). log_from layout a epoch image (k + 1) (i - 1) m next.number next.state) span
    ∙ log-skipped layout a epoch image (k + 1) (n - 1) m next.number next.state (omega (arith, some))
    ∙ ap (λ (i : ℕ). log_from layout a epoch image i 0 (m - (n - 1)) next.number next.state) place
    ∙ ap (λ (i : ℕ). log_from layout a epoch image (k + n) 0 i next.number next.state) rest

-- an open slot at whose batch reading ends
pub log-stuck : (layout : Layout) (a : Area) (epoch : ℕ) (image : Image) (k n left number : ℕ) (state : State)
    → is_open (image (slot_at layout a k)) ≡ true → 1 ≤ n → span_in layout a image k ≡ n
    → reached number state (batch_of layout.version epoch (number + 1) (body_in layout a image k n)) ≡ None
    → log_from layout a epoch image k 0 (left + n) number state ≡ Err (damaged (body_at layout a k 0))
log-stuck layout a epoch image k n left number state opened some span is =
    let m = left + n - 1 in
    let all : left + n ≡ m + 1 = omega (arith, some) in
    let batch : batch_in layout a epoch image k (m + 1) (number + 1)
    ≡ batch_of layout.version epoch (number + 1) (body_in layout a image k n) =
    batch_in-there layout a epoch image k n (m + 1) (number + 1) _ span (omega (arith, some)) refl in
    ap (λ (i : ℕ). log_from layout a epoch image k 0 i number state) all
    ∙ log-damaged layout a epoch image k m number state opened (ap (reached number state) batch ∙ is)

-- an open slot whose batch extends past the last slot
pub log-past : (layout : Layout) (a : Area) (epoch : ℕ) (image : Image) (k n left number : ℕ) (state : State)
    → is_open (image (slot_at layout a k)) ≡ true → span_in layout a image k ≡ n → left + 1 < n
    → log_from layout a epoch image k 0 (left + 1) number state ≡ Err (damaged (body_at layout a k 0))
log-past layout a epoch image k n left number state opened span past =
    log-damaged layout a epoch image k left number state opened
    (ap (reached number state) (batch_in-past layout a epoch image k n (left + 1) (number + 1) span past))

-- the batch of its body
pub batch_read : (old now : Disk) (layout : Layout) (a : Area) (k sector n : ℕ) (body : List ℕ) → Same old now
    → sector ≡ body_at layout a k 0
    → Shows now (λ image. (version : Version) (epoch first : ℕ)
    → batch_of version epoch first body ≡ batch_of version epoch first (octets_at (λ j. image (body_sector sector j)) 0 (BODY_SECTORS * n)))
    → Shows old (λ image. (version : Version) (epoch first : ℕ) → batch_of version epoch first (body_in layout a image k n)
    ≡ batch_of version epoch first body)
batch_read old now layout a k sector n body same here read h version epoch first =
    ap (λ (image : Image). batch_of version epoch first (body_in layout a image k n)) (sym (same-reads old now same h))
    ∙ ap (batch_of version epoch first) (sym (body_in-placed layout a (reads now.content) k n sector here))
    ∙ sym (read (same-honest old now same h) version epoch first)

-- the number of slots that it takes
pub span_read : (old now : Disk) (layout : Layout) (a : Area) (k sector n : ℕ) (head : List ℕ) → Same old now
    → sector ≡ body_at layout a k 0
    → Shows now (λ image. head ≡ image sector) → n ≡ slots_of (head_of head).octets
    → Shows old (λ image. span_in layout a image k ≡ n)
span_read old now layout a k sector n head same here read span h =
    ap (λ (image : Image). span_in layout a image k) (sym (same-reads old now same h))
    ∙ ap (λ (i : ℕ). slots_of (head_of (reads now.content i)).octets) (sym here)
    ∙ ap (λ (octets : List ℕ). slots_of (head_of octets).octets) (sym (read (same-honest old now same h)))
    ∙ sym span
