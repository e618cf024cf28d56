-- Steps that may fail, and tests, with the facts that follow of their parts.
use Rattle.std.proofs.Common.{◌≡◌, Bool, true, false, cond, ◌&&◌, ◌||◌, not, refl}
use Rattle.std.specs.Prelude.{Result, Ok, Err}
use Rattle.iol_link.specs.Reading.{◌>>=◌}
use Rattle.iol_link.specs.declared.faults.IsduFault.{IsduFault}

pub bind_ok : {A B : Type 0} (r : Result A IsduFault) (f : A → Result B IsduFault) (y : B)
    → (r >>= f) ≡ Ok y → (x : A) × (r ≡ Ok x) × (f x ≡ Ok y)
bind_ok (Ok x) f y h = (x, refl, h)
bind_ok (Err e) f y h = cc

-- if the result is a value, the fault of the test did not occur
pub passed : {A : Type 0} (b : Bool) (e : IsduFault) (r : Result A IsduFault) (y : A)
    → cond b (Err e) r ≡ Ok y → (b ≡ false) × (r ≡ Ok y)
passed true e r y h = cc
passed false e r y h = (refl, h)

pub not_false : (b : Bool) → not b ≡ false → b ≡ true
not_false true h = refl
not_false false h = cc

pub or_false : (a b : Bool) → (a || b) ≡ false → (a ≡ false) × (b ≡ false)
or_false true b h = cc
or_false false b h = (refl, h)

pub and_true : (a b : Bool) → (a && b) ≡ true → (a ≡ true) × (b ≡ true)
and_true true b h = (refl, h)
and_true false b h = cc

pub and_rest : (a b : Bool) → a ≡ true → (a && b) ≡ false → b ≡ false
and_rest true b is h = h
and_rest false b is h = cc

pub ok_is : {A : Type 0} (x y : A) → (let r : Result A IsduFault = Ok x in r ≡ Ok y) → x ≡ y
ok_is x y h = cc
