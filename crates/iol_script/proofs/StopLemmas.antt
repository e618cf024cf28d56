-- The values of a script's steps, and the stop that the last one may be.
use Rattle.std.proofs.Common.{◌≡◌, List, [], ◌∷◌, ◌++◌, length, Some, None, refl, arith}
use Rattle.toml.specs.View.{view, items_view}
use Rattle.toml.specs.declared.value.Value.{Value}
use Rattle.iol_disk.specs.declared.pick.Pick.{Pick}
use Rattle.iol_disk.specs.declared.pick.Pick.TheVariants.{New}
use Rattle.iol_script.specs.Stop.{stop_of}
use Rattle.iol_script.specs.Steps.{before_stop}

-- if the last value is a stop, the values before it are the steps
pub before_stop-last : (values : List Value) (last : Value) (keep : Pick) → stop_of (view last) ≡ Some keep
    → before_stop (items_view (values ++ last ∷ [])) ≡ (items_view values, keep)
before_stop-last [] last keep stop = rw stop
before_stop-last (value ∷ []) last keep stop = rw stop
before_stop-last (value ∷ next ∷ values) last keep stop = rw (before_stop-last (next ∷ values) last keep stop)

-- if the last value is not a stop, all values are the steps
pub before_stop-none : (values : List Value) (last : Value) → stop_of (view last) ≡ None
    → before_stop (items_view (values ++ last ∷ [])) ≡ (items_view (values ++ last ∷ []), New)
before_stop-none [] last none = rw none
before_stop-none (value ∷ []) last none = rw none
before_stop-none (value ∷ next ∷ values) last none = rw (before_stop-none (next ∷ values) last none)

-- without a value, there is no step
pub before_stop-empty : (values : List Value) → length values ≡ 0 → before_stop (items_view values) ≡ (items_view values, New)
before_stop-empty [] empty = refl
before_stop-empty (value ∷ values) empty = absurd (omega arith)
