-- What a disk in memory keeps of its syncs, step by step.
use Rattle.std.proofs.Common.{is_some, unwrap_or, slice_get, ◌≡◌, ℕ, ◌==◌, ◌||◌, Bool, true, false, if◌then◌else◌, List, [], ◌∷◌, ◌++◌}
use Rattle.std.proofs.Common.{Option, Some, None, sym, refl, ◌∙◌, ap}
use Rattle.std.specs.Option.{option_map}
use std.Path.{fun_ext, fun_ext⁻}
use Rattle.iol_disk.specs.Content.{Image, Interval, reads, now, synced}
use Rattle.iol_disk.specs.Cells.{durable_in, newest_in, durable_of, written_of, settled}
use Rattle.iol_disk.specs.Undo.{replaced_at, replaces, undo, undo_all, intervals, content_of}
use Rattle.iol_disk.specs.declared.cell.Cell.{Cell}
use Rattle.iol_disk.proofs.Written.{same_sector}
use Rattle.iol_disk.specs.declared.undo.Replaced.{Replaced}

replaced_at-push : (rs : List Replaced) (r : Replaced) (i : ℕ)
    → replaced_at (rs ++ r ∷ []) i
    ≡ (if is_some (replaced_at rs i) then replaced_at rs i else (if i == r.sector then Some r.octets else None))
replaced_at-push [] r i = refl
replaced_at-push (x ∷ rs) r i = at (i == x.sector) (replaced_at-push rs r i)
  where
    last : Option (List ℕ)
    last = if i == r.sector then Some r.octets else None

    at : (here : Bool) → replaced_at (rs ++ r ∷ []) i ≡ (if is_some (replaced_at rs i) then replaced_at rs i else last)
        → (if here then Some x.octets else replaced_at (rs ++ r ∷ []) i)
        ≡ (if is_some (if here then Some x.octets else replaced_at rs i) then (if here then Some x.octets else replaced_at rs i) else last)
    at true rest = refl
    at false rest = rest

-- one more listed sector
pub replaced_more : (cells : List Cell) (rs : List Replaced) (r : Replaced) (i : ℕ) (listed : Bool) → durable_of cells r.sector ≡ r.octets
    → replaced_at rs i ≡ (if listed then Some (durable_of cells i) else None)
    → replaced_at (rs ++ r ∷ []) i ≡ (if listed || (i == r.sector) then Some (durable_of cells i) else None)
replaced_more cells rs r i listed is so_far =
    replaced_at-push rs r i
    ∙ ap (λ (o : Option (List ℕ)). if is_some o then o else (if i == r.sector then Some r.octets else None)) so_far
    ∙ at listed (i == r.sector) (λ here. sym is ∙ ap (durable_of cells) (sym (same_sector i r.sector here)))
  where
    durable : Option (List ℕ)
    durable = Some (durable_of cells i)

    at : (l here : Bool) → (here ≡ true → r.octets ≡ durable_of cells i)
        → (if is_some (if l then durable else None) then (if l then durable else None) else (if here then Some r.octets else None))
        ≡ (if l || here then durable else None)
    at true here octets = refl
    at false true octets = ap Some (octets refl)
    at false false octets = refl

undo_all-push : (past : List (List Replaced)) (sync : List Replaced) (after : Image) → undo_all (past ++ sync ∷ []) after
    ≡ undo_all past (undo sync after)
undo_all-push [] sync after = refl
undo_all-push (p ∷ past) sync after = ap (undo p) (undo_all-push past sync after)

interval_of : List Replaced → Image → Interval
interval_of sync durable = record { durable = durable; pending = λ i. is_some (replaced_at sync i) }

intervals-push : (past : List (List Replaced)) (sync : List Replaced) (after : Image)
    → intervals (past ++ sync ∷ []) after ≡ intervals past (undo sync after) ++ interval_of sync (undo sync after) ∷ []
unfolding interval_of
intervals-push [] sync after = refl
intervals-push (p ∷ past) sync after =
    ap (λ (image : Image). interval_of p (undo p image) ∷ intervals (past ++ sync ∷ []) after) (undo_all-push past sync after)
    ∙ ap (λ (es : List Interval). interval_of p (undo p (undo_all past (undo sync after))) ∷ es) (intervals-push past sync after)

-- a sync that settles the cells and keeps what it replaced is the sync of the content
pub content-sync : (cells cells' : List Cell) (past past' : List (List Replaced)) (sync : List Replaced)
    → ((i : ℕ) → slice_get cells' i ≡ option_map settled (slice_get cells i))
    → past' ≡ past ++ sync ∷ []
    → ((i : ℕ) → replaced_at sync i ≡ replaces cells i)
    → content_of cells' past' ≡ synced (content_of cells past)
unfolding interval_of
content-sync cells cells' past past' sync settles is keeps = λ j. record { durable = durables j; written = writtens j; past = pasts j }
  where
    durable_at : (o : Option Cell) → durable_in (option_map settled o) ≡ unwrap_or (newest_in o) (durable_in o)
    durable_at (Some cell) = refl
    durable_at None = refl

    written_at : (o : Option Cell) → newest_in (option_map settled o) ≡ None
    written_at (Some cell) = refl
    written_at None = refl

    undone : (w : Option (List ℕ)) (d after : List ℕ) → unwrap_or w d ≡ after → unwrap_or (if is_some w then Some d else None) after ≡ d
    undone (Some x) d after same = refl
    undone None d after same = sym same

    told : (w : Option (List ℕ)) (d : List ℕ) → is_some (if is_some w then Some d else None) ≡ is_some w
    told (Some x) d = refl
    told None d = refl

    durables : durable_of cells' ≡ reads (content_of cells past)
    durables = fun_ext (λ i. ap durable_in (settles i) ∙ durable_at (slice_get cells i))

    writtens : written_of cells' ≡ (synced (content_of cells past)).written
    writtens = fun_ext (λ i. ap newest_in (settles i) ∙ written_at (slice_get cells i))

    back : undo sync (durable_of cells') ≡ durable_of cells
    back = fun_ext (λ i. ap (λ (o : Option (List ℕ)). unwrap_or o (durable_of cells' i)) (keeps i)
        ∙ undone (written_of cells i) (durable_of cells i) (durable_of cells' i) (sym (fun_ext⁻ durables i)))

    pendings : (interval_of sync (durable_of cells)).pending ≡ (now (content_of cells past)).pending
    pendings = fun_ext (λ i. ap is_some (keeps i) ∙ told (written_of cells i) (durable_of cells i))

    pasts : intervals past' (durable_of cells') ≡ intervals past (durable_of cells) ++ now (content_of cells past) ∷ []
    pasts = ap (λ (p : List (List Replaced)). intervals p (durable_of cells')) is ∙ intervals-push past sync (durable_of cells')
        ∙ ap (λ (image : Image). intervals past image ++ interval_of sync image ∷ []) back
        ∙ ap (λ (pending : ℕ → Bool). intervals past (durable_of cells) ++ record { durable = durable_of cells; pending = pending } ∷ [])
        pendings
