-- Keys that are kept one by one, each only if it is not among those before it.
use Rattle.std.proofs.Common.{◌≡◌, List, [], ◌∷◌, ◌++◌, fold, ap, sym, ◌∙◌}
use Rattle.std.proofs.lemmas.List.{append-nil}
use Rattle.std.proofs.lemmas.List.Sums.{fold-append}
use Rattle.iol_types.specs.declared.key.Key.{Key}
use Rattle.iol_transfer.specs.List.{first_places, kept_with}
use Rattle.iol_transfer.proofs.Readings.{without, without-none, kept_more}

fold-kept_with : (kept keys : List Key) → fold kept_with kept keys ≡ kept ++ without kept (first_places keys)
fold-kept_with kept [] = sym (append-nil kept)
fold-kept_with kept (key ∷ keys) = fold-kept_with (kept_with kept key) keys ∙ sym (kept_more kept key (first_places keys))

first_places-fold : (keys : List Key) → fold kept_with [] keys ≡ first_places keys
first_places-fold keys = fold-kept_with [] keys ∙ without-none (first_places keys)

-- keys that are kept after others are at their first places among all keys
pub first_places-more : (keys more : List Key) → fold kept_with (first_places keys) more ≡ first_places (keys ++ more)
first_places-more keys more =
    ap (λ kept. fold kept_with kept more) (sym (first_places-fold keys)) ∙ sym (fold-append kept_with [] keys more)
    ∙ first_places-fold (keys ++ more)
