-- Calls that were made in their order, or up to one that failed, joined together.
use Rattle.std.proofs.Common.{◌≡◌, ◌<◌, ℕ, zero, suc, ◌+◌, ◌-◌, List, [], ◌∷◌, ◌++◌, map, take, drop, slice_get, Some, Result, Ok, Err}
use Rattle.std.proofs.Common.{OnOk, OnErr, refl, sym, ◌∙◌, ap, subst, arith}
use Rattle.std.specs.List.{range_with_len}
use Rattle.std.proofs.lemmas.Result.{err_from_is_err_and}
use Rattle.std.specs.Result.{IsErrAnd}
use Rattle.std.proofs.lemmas.List.FromFn.{map-range_with_len_more}
use Rattle.std.proofs.lemmas.List.{take_more, take-append-drop}
use Rattle.std.proofs.lemmas.Option.{slice_get_within, get_or_from_slice_get}
use Rattle.iol_disk.specs.Content.{wrote, synced}
use Rattle.iol_disk.specs.Disk.{Disk, After, Same, WroteSome, FailsOnlyAs}
use Rattle.iol_disk.specs.Calls.{Call, write, sync, Made, FailedIn, Makes}
use Rattle.iol_disk.specs.declared.fault.DiskFault.{DiskFault}
use Rattle.iol_disk.specs.declared.fault.DiskFault.TheVariants.{Write, Sync}
use Rattle.iol_disk.proofs.DiskLaws.{made_one, made_append, failed_one, failed_first, failed_later}

-- a sync, whether or not it failed
pub makes_sync : (result : Result Unit DiskFault) (old new : Disk) → OnOk result (After synced old new) → OnErr result (Same old new)
    → FailsOnlyAs Sync old new result → Makes (sync ∷ []) old new result
makes_sync (Ok done) old new synced_is same fault = made_one sync old new synced_is fault
makes_sync (Err told) old new synced_is same fault =
    failed_one sync told old new fault.0 same fault.1

-- a write, whether or not it failed
pub makes_write : (result : Result Unit DiskFault) {here : ℕ} (sector : ℕ) {written : List ℕ} (octets : List ℕ) (old new : Disk) → here
    ≡ sector → written ≡ octets
    → OnOk result (After (wrote here written) old new) → OnErr result (WroteSome here old new) → FailsOnlyAs Write old new result
    → Makes (write sector octets ∷ []) old new result
makes_write (Ok done) {here = here} sector {written = written} octets old new at same wrote_is some fault =
    subst (λ (i : ℕ). Made (write i octets ∷ []) old new) at
    (subst (λ (os : List ℕ). Made (write here os ∷ []) old new) same (made_one (write here written) old new wrote_is fault))
makes_write (Err told) {here = here} sector {written = written} octets old new at same wrote_is some fault =
    failed_one (write sector octets) told old new fault.0 (subst (λ (i : ℕ). WroteSome i old new) at some) fault.1

-- further calls after those that succeeded
pub makes_then : (first second : List Call) (result : Result Unit DiskFault) {old between : Disk} (new : Disk) → Made first old between
    → Makes second between new result → Makes (first ++ second) old new result
makes_then first second (Ok done) {old = old} {between = between} new made then = made_append first second old between new made then
makes_then first second (Err told) {old = old} {between = between} new made then = failed_later first second told old between new made then

-- a call that succeeded, and one that failed, as a `?` distinguishes them
pub made_of : (calls : List Call) {result : Result Unit DiskFault} {done : Unit} {old new : Disk} → result ≡ Ok done
    → Makes calls old new result → Made calls old new
made_of calls {old = old} {new = new} is makes = subst (λ (r : Result Unit DiskFault). Makes calls old new r) is makes

pub failed_of : (calls : List Call) {result : Result Unit DiskFault} {told : DiskFault} {old new : Disk} → result ≡ Err told
    → Makes calls old new result
    → FailedIn calls told old new
failed_of calls {old = old} {new = new} is makes = subst (λ (r : Result Unit DiskFault). Makes calls old new r) is makes

-- the fault that a `?` passes on
pub hands_on : (calls : List Call) (result : Result Unit DiskFault) {told : DiskFault} {old new : Disk}
    → IsErrAnd result (λ fault. fault ≡ told)
    → FailedIn calls told old new → Makes calls old new result
hands_on calls result is failed = let p = err_from_is_err_and result is in rw (p.1, p.2) failed

-- calls, and parts after them
abbrev pub followed : List Call → List (List Call) → List Call
followed calls [] = calls
followed calls (part ∷ parts) = followed (calls ++ part) parts

-- after calls that failed, no part is made
pub fails_early : (calls : List Call) (parts : List (List Call)) {told : DiskFault} {old new : Disk} → FailedIn calls told old new
    → FailedIn (followed calls parts) told old new
fails_early calls [] failed = failed
fails_early calls (part ∷ parts) {told = told} {old = old} {new = new} failed =
    fails_early (calls ++ part) parts (failed_first calls part told old new failed)

-- a part failed after calls that were made
pub fails_after : (calls part : List Call) (parts : List (List Call)) {told : DiskFault} {old between new : Disk} → Made calls old between
    → FailedIn part told between new → FailedIn (followed (calls ++ part) parts) told old new
fails_after calls part parts {told = told} {old = old} {between = between} {new = new} made failed =
    fails_early (calls ++ part) parts (failed_later calls part told old between new made failed)

-- a row of calls, and those after it
row_append : (f : ℕ → Call) (s m n : ℕ) → map f (range_with_len s (m + n)) ≡ map f (range_with_len s m) ++ map f (range_with_len (s + m) n)
row_append f s zero n =
    let start : s + 0 ≡ s = omega arith in
    let count : 0 + n ≡ n = omega arith in
    rw (start, count) refl
row_append f s (suc m) n =
    let count : suc m + n ≡ suc (m + n) = omega arith in
    let start : s + suc m ≡ s + 1 + m = omega arith in
    rw (count, start) (ap (λ (calls : List Call). f s ∷ calls) (row_append f (s + 1) m n))

-- one more call of a row of calls
pub made_more : (f : ℕ → Call) (k : ℕ) {result : Result Unit DiskFault} {done : Unit} {old between new : Disk}
    → Made (map f (range_with_len 0 k)) old between
    → result ≡ Ok done → Makes (f k ∷ []) between new result → Made (map f (range_with_len 0 (k + 1))) old new
made_more f k {old = old} {between = between} {new = new} so_far is makes =
    subst (λ (calls : List Call). Made calls old new) (sym (map-range_with_len_more f 0 k k (omega arith)))
    (made_append _ _ old between new so_far (made_of (f k ∷ []) is makes))

-- a call of a row failed
pub failed_in_row : (f : ℕ → Call) (n k : ℕ) {result : Result Unit DiskFault} {told : DiskFault} {old between new : Disk} → k < n
    → Made (map f (range_with_len 0 k)) old between
    → result ≡ Err told → Makes (f k ∷ []) between new result → FailedIn (map f (range_with_len 0 n)) told old new
failed_in_row f n k {told = told} {old = old} {between = between} {new = new} below so_far is makes =
    let front : FailedIn (map f (range_with_len 0 (k + 1))) told old new =
    subst (λ (calls : List Call). FailedIn calls told old new) (sym (map-range_with_len_more f 0 k k (omega arith)))
    (failed_later _ _ told old between new so_far (failed_of (f k ∷ []) is makes)) in
    let split : k + 1 + (n - (k + 1)) ≡ n = omega arith in
    subst (λ (calls : List Call). FailedIn calls told old new)
    (sym (row_append f 0 (k + 1) (n - (k + 1))) ∙ ap (λ (m : ℕ). map f (range_with_len 0 m)) split)
    (failed_first _ _ told old new front)

-- the calls up to the next one
take_next : (calls : List Call) (i : ℕ) (call : Call) → slice_get calls i ≡ Some call → take (i + 1) calls ≡ take i calls ++ call ∷ []
take_next calls i call at =
    take_more calls i call (slice_get_within calls i call at)
    ∙ ap (λ (last : Call). take i calls ++ last ∷ []) (get_or_from_slice_get calls i call call at)

-- one more call of a list of calls
pub made_next : (calls : List Call) (i : ℕ) (call : Call) {result : Result Unit DiskFault} {done : Unit} {old between new : Disk}
    → slice_get calls i ≡ Some call
    → Made (take i calls) old between → result ≡ Ok done → Makes (call ∷ []) between new result → Made (take (i + 1) calls) old new
made_next calls i call {old = old} {between = between} {new = new} at so_far is makes =
    subst (λ (front : List Call). Made front old new) (sym (take_next calls i call at))
    (made_append _ _ old between new so_far (made_of (call ∷ []) is makes))

-- a call of a list failed
pub failed_next : (calls : List Call) (i : ℕ) (call : Call) {result : Result Unit DiskFault} {told : DiskFault} {old between new : Disk}
    → slice_get calls i ≡ Some call
    → Made (take i calls) old between → result ≡ Err told → Makes (call ∷ []) between new result → FailedIn calls told old new
failed_next calls i call {told = told} {old = old} {between = between} {new = new} at so_far is makes =
    let front : FailedIn (take (i + 1) calls) told old new =
    subst (λ (first : List Call). FailedIn first told old new) (sym (take_next calls i call at))
    (failed_later _ _ told old between new so_far (failed_of (call ∷ []) is makes)) in
    subst (λ (all : List Call). FailedIn all told old new) (take-append-drop (i + 1) calls)
    (failed_first _ (drop (i + 1) calls) told old new front)
