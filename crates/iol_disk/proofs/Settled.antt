-- Sectors that are settled one after another.
use Rattle.std.proofs.Common.{◌≡◌, ℕ, ◌<◌, ◌==◌, ◌||◌, Bool, true≢false, true, false, if◌then◌else◌, List, [], ◌∷◌, Option, Some, None, Vec}
use Rattle.std.proofs.Common.{is_some, slice_get, slice_set, length, replicate, zero, suc, sym, refl, ◌∙◌, ap, arith}
use Rattle.std.specs.Option.{option_map}
use Rattle.std.specs.declared.alloc.Global.{Global}
use Rattle.std.proofs.lemmas.Bool.Decides.{nat_tests}
use Rattle.iol_disk.specs.Cells.{newest_in, written_of, settled, blank_cell, is_listed, ListsWritten}
use Rattle.iol_disk.proofs.Written.{same_sector}
use Rattle.iol_disk.specs.declared.cell.Cell.{Cell}

slice_get-slice_set : (cells : List Cell) (n : ℕ) (cell : Cell) (i : ℕ) → n < length cells
    → slice_get (slice_set cells n cell) i ≡ (if i == n then Some cell else slice_get cells i)
slice_get-slice_set [] n cell i within = absurd (omega arith)
slice_get-slice_set (c ∷ cells) zero cell zero within = refl
slice_get-slice_set (c ∷ cells) zero cell (suc i) within = grind (arith, nat_tests)
slice_get-slice_set (c ∷ cells) (suc n) cell zero within = grind (arith, nat_tests)
slice_get-slice_set (c ∷ cells) (suc n) cell (suc i) within = grind (arith, nat_tests, slice_get-slice_set cells n cell i (omega arith))

-- one more sector
pub settled_more : (old cells : List Cell) (n : ℕ) (cell : Cell) (i : ℕ) (listed : Bool) → n < length cells → slice_get cells n ≡ Some cell
    → slice_get cells i ≡ (if listed then option_map settled (slice_get old i) else slice_get old i)
    → slice_get (slice_set cells n (settled cell)) i
    ≡ (if listed || (i == n) then option_map settled (slice_get old i) else slice_get old i)
settled_more old cells n cell i listed within is so_far =
    slice_get-slice_set cells n (settled cell) i within ∙ at (i == n) refl listed so_far
  where
    settled_again : (o : Option Cell) → option_map settled (option_map settled o) ≡ option_map settled o
    settled_again (Some c) = refl
    settled_again None = refl

    here : (i == n) ≡ true → Some (settled cell) ≡ option_map settled (slice_get cells i)
    here same = sym (ap (option_map settled) (ap (slice_get cells) (same_sector i n same) ∙ is))

    at : (b : Bool) → (i == n) ≡ b → (l : Bool) → slice_get cells i ≡ (if l then option_map settled (slice_get old i) else slice_get old i)
        → (if b then Some (settled cell) else slice_get cells i)
        ≡ (if l || b then option_map settled (slice_get old i) else slice_get old i)
    at true same true so_far = here same ∙ ap (option_map settled) so_far ∙ settled_again (slice_get old i)
    at true same false so_far = here same ∙ ap (option_map settled) so_far
    at false same true so_far = so_far
    at false same false so_far = so_far

-- if exactly the sectors that were written are settled, all are
pub settled_all : (old new : List Cell) (listed : Vec ℕ Global) → ListsWritten old listed
    → ((i : ℕ) → slice_get new i ≡ (if is_listed listed.items i then option_map settled (slice_get old i) else slice_get old i))
    → (i : ℕ) → slice_get new i ≡ option_map settled (slice_get old i)
settled_all old new listed lists settles i = settles i ∙ at (is_listed listed.items i) (slice_get old i) (lists.exactly i)
  where
    clean : (durable : List ℕ) (newest : Option (List ℕ)) → is_some newest ≡ false
        → record { durable = durable; newest = newest } ≡ settled (record { durable = durable; newest = newest })
    clean durable None is = refl
    clean durable (Some octets) is = absurd (true≢false is)

    at : (l : Bool) (o : Option Cell) → l ≡ is_some (newest_in o) → (if l then option_map settled o else o) ≡ option_map settled o
    at true o is = refl
    at false None is = refl
    at false (Some cell) is = ap Some (clean cell.durable cell.newest (sym is))

pub settled_written : (o : Option Cell) → newest_in (option_map settled o) ≡ None
settled_written (Some cell) = refl
settled_written None = refl

pub never_written : (sectors i : ℕ) → written_of (replicate sectors blank_cell) i ≡ None
never_written zero i = refl
never_written (suc sectors) zero = refl
never_written (suc sectors) (suc i) = never_written sectors i
