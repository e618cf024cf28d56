-- What each decision says of a validation, a device and a stored set; exactly one of them is true.
use Rattle.std.proofs.Common.{◌≡◌, ◌⊎◌, inl, inr, ℕ, Bool, true, false, if◌then◌else◌, refl, ap, subst, arith}
use Rattle.std.proofs.lemmas.Bool.Decides.{nat_tests}
use Rattle.std.specs.Prelude.{Option, Some, None, is_none, ◌==◌, ◌↔◌}
use Rattle.iol_types.specs.Config.{restores, backs_up}
use Rattle.iol_types.specs.declared.config.Validation.{Validation}
use Rattle.iol_types.specs.declared.config.Validation.TheVariants as validation
use Rattle.iol_transfer.specs.declared.property.State.{State}
use Rattle.iol_transfer.specs.declared.property.State.TheVariants as state
use Rattle.iol_port.specs.Decision.{is_locked, has_checksum, decide}
use Rattle.iol_port.specs.declared.decision.Decision.{Decision}
use Rattle.iol_port.specs.declared.decision.Decision.TheVariants as decision

-- what a decision says
abbrev pub Says : Validation → State → Bool → ℕ → Option ℕ → Decision → Type 0
Says kind at flag checksum stored decision.Upload = (backs_up kind ≡ true) × (at ≡ state.Locked → ⊥) × ((stored ≡ None) ⊎ (flag ≡ true))
Says kind at flag checksum stored decision.Download =
    (restores kind ≡ true) × (at ≡ state.Locked → ⊥) × (backs_up kind ≡ true → flag ≡ false)
    × ((other : ℕ) × (stored ≡ Some other) × (other ≡ checksum → ⊥))
Says kind at flag checksum stored decision.Ready =
    (restores kind ≡ false) ⊎ ((at ≡ state.Locked → ⊥) × (backs_up kind ≡ true → flag ≡ false) × (stored ≡ Some checksum))
Says kind at flag checksum stored decision.ReadyLocked = (restores kind ≡ true) × (at ≡ state.Locked)
Says kind at flag checksum stored decision.ReadyEmpty =
    (restores kind ≡ true) × (backs_up kind ≡ false) × (at ≡ state.Locked → ⊥) × (stored ≡ None)

locked_is : (at : State) → is_locked at ≡ true → at ≡ state.Locked
locked_is state.Locked is = refl
locked_is at is = absurd cc

open_is : (at : State) → is_locked at ≡ false → at ≡ state.Locked → ⊥
open_is at is locked = cc

equal_is : (one other : ℕ) → (one == other) ≡ true → one ≡ other
equal_is one other test = grind (arith, nat_tests, test)

other_is : (one other : ℕ) → (one == other) ≡ false → one ≡ other → ⊥
other_is one other test same = grind (arith, nat_tests, test, same)

-- ---- what is decided is true

backup_said : (at : State) (flag : Bool) (checksum : ℕ) (stored : Option ℕ) (locked : Bool) → is_locked at ≡ locked
    → Says validation.BackupAndRestore at flag checksum stored
    (if locked then decision.ReadyLocked
    else if is_none stored then decision.Upload
    else if flag then decision.Upload
    else if has_checksum stored checksum then decision.Ready
    else decision.Download)
backup_said at flag checksum stored true is = (refl, locked_is at is)
backup_said at flag checksum None false is = (refl, open_is at is, inl refl)
backup_said at true checksum (Some own) false is = (refl, open_is at is, inr refl)
backup_said at false checksum (Some own) false is = by (own == checksum) refl
  where
    by : (test : Bool) → (own == checksum) ≡ test
        → Says validation.BackupAndRestore at false checksum (Some own) (if test then decision.Ready else decision.Download)
    by true same = inr (open_is at is, (λ backs. refl), ap Some (equal_is own checksum same))
    by false other = (refl, open_is at is, (λ backs. refl), (own, refl, other_is own checksum other))

restore_said : (at : State) (flag : Bool) (checksum : ℕ) (stored : Option ℕ) (locked : Bool) → is_locked at ≡ locked
    → Says validation.Restore at flag checksum stored
    (if locked then decision.ReadyLocked
    else if is_none stored then decision.ReadyEmpty
    else if has_checksum stored checksum then decision.Ready
    else decision.Download)
restore_said at flag checksum stored true is = (refl, locked_is at is)
restore_said at flag checksum None false is = (refl, refl, open_is at is, refl)
restore_said at flag checksum (Some own) false is = by (own == checksum) refl
  where
    by : (test : Bool) → (own == checksum) ≡ test
        → Says validation.Restore at flag checksum (Some own) (if test then decision.Ready else decision.Download)
    by true same = inr (open_is at is, (λ backs. absurd cc), ap Some (equal_is own checksum same))
    by false other = (refl, open_is at is, (λ backs. absurd cc), (own, refl, other_is own checksum other))

said : (kind : Validation) (at : State) (flag : Bool) (checksum : ℕ) (stored : Option ℕ)
    → Says kind at flag checksum stored (decide kind at flag checksum stored)
said validation.BackupAndRestore at flag checksum stored = backup_said at flag checksum stored (is_locked at) refl
said validation.Restore at flag checksum stored = restore_said at flag checksum stored (is_locked at) refl
said kind at flag checksum stored = inl refl

-- ---- and no other decision is

backs_restores : (kind : Validation) → backs_up kind ≡ true → restores kind ≡ false → ⊥
backs_restores validation.BackupAndRestore backs nay = cc
backs_restores kind backs nay = cc

upload_download : (kind : Validation) (at : State) (flag : Bool) (checksum : ℕ) (stored : Option ℕ)
    → Says kind at flag checksum stored decision.Upload
    → Says kind at flag checksum stored decision.Download → ⊥
upload_download kind at flag checksum stored (backs, free, inl none) (does, frees, unless, (other, some, differs)) = cc
upload_download kind at flag checksum stored (backs, free, inr asks) (does, frees, unless, (other, some, differs)) =
    let nay = unless backs in cc

upload_ready : (kind : Validation) (at : State) (flag : Bool) (checksum : ℕ) (stored : Option ℕ)
    → Says kind at flag checksum stored decision.Upload
    → Says kind at flag checksum stored decision.Ready → ⊥
upload_ready kind at flag checksum stored (backs, free, why) (inl nay) = backs_restores kind backs nay
upload_ready kind at flag checksum stored (backs, free, inl none) (inr (frees, unless, some)) = cc
upload_ready kind at flag checksum stored (backs, free, inr asks) (inr (frees, unless, some)) = let nay = unless backs in cc

download_ready : (kind : Validation) (at : State) (flag : Bool) (checksum : ℕ) (stored : Option ℕ)
    → Says kind at flag checksum stored decision.Download
    → Says kind at flag checksum stored decision.Ready → ⊥
download_ready kind at flag checksum stored (does, free, unless, (other, some, differs)) (inl nay) = cc
download_ready kind at flag checksum stored (does, free, unless, (other, some, differs)) (inr (frees, unlessed, same)) = differs cc

ready_locked : (kind : Validation) (at : State) (flag : Bool) (checksum : ℕ) (stored : Option ℕ)
    → Says kind at flag checksum stored decision.Ready
    → Says kind at flag checksum stored decision.ReadyLocked → ⊥
ready_locked kind at flag checksum stored (inl nay) (does, locked) = cc
ready_locked kind at flag checksum stored (inr (free, unless, some)) (does, locked) = free locked

ready_empty : (kind : Validation) (at : State) (flag : Bool) (checksum : ℕ) (stored : Option ℕ)
    → Says kind at flag checksum stored decision.Ready
    → Says kind at flag checksum stored decision.ReadyEmpty → ⊥
ready_empty kind at flag checksum stored (inl nay) (does, backs, free, none) = cc
ready_empty kind at flag checksum stored (inr (frees, unless, some)) (does, backs, free, none) = cc

download_empty : (kind : Validation) (at : State) (flag : Bool) (checksum : ℕ) (stored : Option ℕ)
    → Says kind at flag checksum stored decision.Download
    → Says kind at flag checksum stored decision.ReadyEmpty → ⊥
download_empty kind at flag checksum stored (does, free, unless, (other, some, differs)) (doing, backs, frees, none) = cc

upload_empty : (kind : Validation) (at : State) (flag : Bool) (checksum : ℕ) (stored : Option ℕ)
    → Says kind at flag checksum stored decision.Upload
    → Says kind at flag checksum stored decision.ReadyEmpty → ⊥
upload_empty kind at flag checksum stored (backs, free, why) (does, nay, frees, none) = cc

one_alone : (kind : Validation) (at : State) (flag : Bool) (checksum : ℕ) (stored : Option ℕ) (one other : Decision)
    → Says kind at flag checksum stored one
    → Says kind at flag checksum stored other → one ≡ other
one_alone kind at flag checksum stored decision.Upload decision.Upload is also = refl
one_alone kind at flag checksum stored decision.Upload decision.Download is also =
    absurd (upload_download kind at flag checksum stored is also)
one_alone kind at flag checksum stored decision.Upload decision.Ready is also = absurd (upload_ready kind at flag checksum stored is also)
one_alone kind at flag checksum stored decision.Upload decision.ReadyLocked is also = absurd (is.1 also.1)
one_alone kind at flag checksum stored decision.Upload decision.ReadyEmpty is also =
    absurd (upload_empty kind at flag checksum stored is also)
one_alone kind at flag checksum stored decision.Download decision.Upload is also =
    absurd (upload_download kind at flag checksum stored also is)
one_alone kind at flag checksum stored decision.Download decision.Download is also = refl
one_alone kind at flag checksum stored decision.Download decision.Ready is also =
    absurd (download_ready kind at flag checksum stored is also)
one_alone kind at flag checksum stored decision.Download decision.ReadyLocked is also = absurd (is.1 also.1)
one_alone kind at flag checksum stored decision.Download decision.ReadyEmpty is also =
    absurd (download_empty kind at flag checksum stored is also)
one_alone kind at flag checksum stored decision.Ready decision.Upload is also = absurd (upload_ready kind at flag checksum stored also is)
one_alone kind at flag checksum stored decision.Ready decision.Download is also =
    absurd (download_ready kind at flag checksum stored also is)
one_alone kind at flag checksum stored decision.Ready decision.Ready is also = refl
one_alone kind at flag checksum stored decision.Ready decision.ReadyLocked is also =
    absurd (ready_locked kind at flag checksum stored is also)
one_alone kind at flag checksum stored decision.Ready decision.ReadyEmpty is also =
    absurd (ready_empty kind at flag checksum stored is also)
one_alone kind at flag checksum stored decision.ReadyLocked decision.Upload is also = absurd (also.1 is.1)
one_alone kind at flag checksum stored decision.ReadyLocked decision.Download is also = absurd (also.1 is.1)
one_alone kind at flag checksum stored decision.ReadyLocked decision.Ready is also =
    absurd (ready_locked kind at flag checksum stored also is)
one_alone kind at flag checksum stored decision.ReadyLocked decision.ReadyLocked is also = refl
one_alone kind at flag checksum stored decision.ReadyLocked decision.ReadyEmpty is also = absurd (also.2 is.1)
one_alone kind at flag checksum stored decision.ReadyEmpty decision.Upload is also =
    absurd (upload_empty kind at flag checksum stored also is)
one_alone kind at flag checksum stored decision.ReadyEmpty decision.Download is also =
    absurd (download_empty kind at flag checksum stored also is)
one_alone kind at flag checksum stored decision.ReadyEmpty decision.Ready is also =
    absurd (ready_empty kind at flag checksum stored also is)
one_alone kind at flag checksum stored decision.ReadyEmpty decision.ReadyLocked is also = absurd (is.2 also.1)
one_alone kind at flag checksum stored decision.ReadyEmpty decision.ReadyEmpty is also = refl

pub decided_as : (now : Decision) (kind : Validation) (at : State) (flag : Bool) (checksum : ℕ) (stored : Option ℕ)
    → (decide kind at flag checksum stored ≡ now) ↔ Says kind at flag checksum stored now
decided_as now kind at flag checksum stored = (
  (λ is. subst (Says kind at flag checksum stored) is (said kind at flag checksum stored)),
  one_alone kind at flag checksum stored (decide kind at flag checksum stored) now (said kind at flag checksum stored),
)
