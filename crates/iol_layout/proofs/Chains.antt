-- Readings that continue one after another.
use Rattle.std.proofs.Common.{◌≡◌, ℕ, Bool, true, false, Option, Some, None, Result, Ok, Err, refl}
use Rattle.iol_record.specs.Reading.{◌>>=◌}
use Rattle.iol_layout.specs.Meaning.{Cause, if_sound, or_damaged}

-- a reading that succeeded has continued from a value
pub bind_ok : {A B : Type 0} (first : Result A Cause) (next : A → Result B Cause) (y : B) → (first >>= next) ≡ Ok y → (x : A)
    × (first ≡ Ok x) × (next x ≡ Ok y)
bind_ok (Ok x) next y is = (x, refl, is)
bind_ok (Err cause) next y is = cc

-- readings that continue in the same way
pub bind_same : {A B : Type 0} (first : Result A Cause) (f g : A → Result B Cause) → ((x : A) → f x ≡ g x) → (first >>= f) ≡ (first >>= g)
bind_same (Ok x) f g same = same x
bind_same (Err cause) f g same = refl

pub if_sound-ok : {A : Type 0} (test : Bool) (sector : ℕ) (x y : A) → if_sound test sector x ≡ Ok y → (test ≡ true) × (x ≡ y)
if_sound-ok true sector x y is = (refl, cc)
if_sound-ok false sector x y is = cc

pub or_damaged-ok : {A : Type 0} (option : Option A) (sector : ℕ) (y : A) → or_damaged option sector ≡ Ok y → option ≡ Some y
or_damaged-ok (Some x) sector y is = cc
or_damaged-ok None sector y is = cc

abbrev pub ok : {A : Type 0} → A → Result A Cause
ok x = Ok x

-- both cases of a test
pub by_test : (test : Bool) (P : Type 0) → (test ≡ true → P) → (test ≡ false → P) → P
by_test true P yes_ no_ = yes_ refl
by_test false P yes_ no_ = no_ refl
