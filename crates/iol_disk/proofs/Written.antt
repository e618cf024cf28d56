-- How writes and syncs change the list of the sectors that were written.
use Rattle.std.proofs.Common.{◌≡◌, ℕ, ◌<◌, ◌≤◌, ◌+◌, ◌==◌, ◌||◌, Bool, true, false, IsTrue, if◌then◌else◌, nat_eq, eqb, List, [], ◌∷◌, ◌++◌}
use Rattle.std.proofs.Common.{length, Option, Some, None, Vec, is_some, slice_get, get_or, take, sym, refl, ◌∙◌, ap, subst, arith}
use Rattle.std.specs.List.{list_any, IsDistinct}
use Rattle.std.specs.Vec.{vec_capacity}
use Rattle.std.specs.declared.alloc.Global.{Global}
use Rattle.std.proofs.lemmas.Bool.Decides.{nat_tests}
use Rattle.std.proofs.lemmas.Cmp.{nat_eq_equiv}
use Rattle.std.proofs.lemmas.List.Folds.{list_any-append, list_any_at, list_any_more}
use Rattle.std.proofs.lemmas.Map.Keys.{IsDistinct-push}
use Rattle.std.proofs.lemmas.Map.Steps.{length-le_from_distinct_below}
use Rattle.std.proofs.lemmas.Option.{slice_get_within}
use Rattle.std.proofs.lemmas.List.{length_push}
use Rattle.iol_disk.specs.Cells.{newest_in, written_of, is_listed, ListsWritten}
use Rattle.iol_disk.specs.declared.cell.Cell.{Cell}

pub is_listed-push : (listed : List ℕ) (n i : ℕ) → is_listed (listed ++ n ∷ []) i ≡ (is_listed listed i || (i == n))
is_listed-push listed n i = list_any-append (nat_eq i) listed (n ∷ []) ∙ ap (λ (b : Bool). is_listed listed i || b) (last (i == n))
  where
    last : (b : Bool) → (b || false) ≡ b
    last true = refl
    last false = refl

pub within_from_written : (cells : List Cell) (i : ℕ) → is_some (written_of cells i) ≡ true → i < length cells
within_from_written cells i was = at (slice_get cells i) refl was
  where
    at : (o : Option Cell) → slice_get cells i ≡ o → is_some (newest_in o) ≡ true → i < length cells
    at (Some cell) is was = slice_get_within cells i cell is
    at None is was = cc

-- a listed sector exists
pub within_from_listed : (cells : List Cell) (listed : Vec ℕ Global) → ListsWritten cells listed → (i : ℕ)
    → IsTrue (is_listed listed.items i) → i < length cells
within_from_listed cells listed lists i is = within_from_written cells i (sym (lists.exactly i) ∙ is)

-- an empty list is right if no sector was written
pub lists_none : (cells : List Cell) (listed : Vec ℕ Global) → listed.items ≡ [] → ((i : ℕ) → written_of cells i ≡ None)
    → length cells ≤ vec_capacity listed → ListsWritten cells listed
unfolding IsDistinct
lists_none cells listed is none room = record {
  exactly = λ i. ap (λ (xs : List ℕ). is_listed xs i) is ∙ sym (ap is_some (none i));
  once = subst (λ (xs : List ℕ). IsDistinct nat_eq xs) (sym is) distinct_none;
  room = room;
}
  where
    distinct_none : IsDistinct nat_eq []
    distinct_none = tt

pub same_sector : (i n : ℕ) → (i == n) ≡ true → i ≡ n
same_sector i n is = grind (arith, nat_tests)

or_cases : (a b : Bool) (P : Type 0) → (a || b) ≡ true → (a ≡ true → P) → (b ≡ true → P) → P
or_cases true b P is left right = left refl
or_cases false b P is left right = right is

-- the list has capacity for a sector that is not listed
pub room_for_one : (cells : List Cell) (listed : Vec ℕ Global) (n : ℕ) → ListsWritten cells listed → n < length cells
    → is_some (written_of cells n) ≡ false → length listed.items < vec_capacity listed
room_for_one cells listed n lists within clean = omega (arith, few, length_push listed.items n, lists.room)
  where
    below : (q : ℕ) → list_any (eqb q) (listed.items ++ n ∷ []) ≡ true → q < length cells
    below q among = or_cases (is_listed listed.items q) (q == n) (q < length cells) (sym (is_listed-push listed.items n q) ∙ among)
        (within_from_listed cells listed lists q) (λ is. subst (λ (k : ℕ). k < length cells) (sym (same_sector q n is)) within)

    few : length (listed.items ++ n ∷ []) ≤ length cells
    few = length-le_from_distinct_below (listed.items ++ n ∷ []) (length cells)
        (IsDistinct-push nat_eq_equiv listed.items n lists.once (lists.exactly n ∙ clean)) below

-- which sectors were written, after a write
wrote_also : (cells cells' : List Cell) (n : ℕ) (octets : List ℕ) (i : ℕ) → written_of cells' i
    ≡ (if i == n then Some octets else written_of cells i)
    → is_some (written_of cells' i) ≡ (is_some (written_of cells i) || (i == n))
wrote_also cells cells' n octets i writes = ap is_some writes ∙ either (i == n) (written_of cells i)
  where
    either : (here : Bool) (had : Option (List ℕ)) → is_some (if here then Some octets else had) ≡ (is_some had || here)
    either true (Some x) = refl
    either true None = refl
    either false (Some x) = refl
    either false None = refl

-- the list after a write to a sector that was not listed
pub lists_one_more : (cells cells' : List Cell) (listed listed' : Vec ℕ Global) (n : ℕ) (octets : List ℕ) → ListsWritten cells listed
    → is_some (written_of cells n) ≡ false → length cells' ≡ length cells
    → ((i : ℕ) → written_of cells' i ≡ (if i == n then Some octets else written_of cells i))
    → listed'.items ≡ listed.items ++ n ∷ [] → vec_capacity listed' ≡ vec_capacity listed → ListsWritten cells' listed'
lists_one_more cells cells' listed listed' n octets lists clean same writes is room = record {
  exactly = λ i. ap (λ (xs : List ℕ). is_listed xs i) is ∙ is_listed-push listed.items n i
      ∙ ap (λ (was : Bool). was || (i == n)) (lists.exactly i) ∙ sym (wrote_also cells cells' n octets i (writes i));
  once = subst (λ (xs : List ℕ). IsDistinct nat_eq xs) (sym is)
      (IsDistinct-push nat_eq_equiv listed.items n lists.once (lists.exactly n ∙ clean));
  room = omega (arith, same, room, lists.room);
}

pub listed_at : (listed : List ℕ) (k : ℕ) → k < length listed → IsTrue (is_listed listed (get_or listed k 0))
listed_at listed k within = list_any_at (nat_eq (get_or listed k 0)) listed k 0 within (nat_eq_equiv.refl (get_or listed k 0))

pub is_listed-take_more : (listed : List ℕ) (k i : ℕ) → k < length listed
    → is_listed (take (k + 1) listed) i ≡ (is_listed (take k listed) i || (i == get_or listed k 0))
is_listed-take_more listed k i within = list_any_more (nat_eq i) listed k 0 within
