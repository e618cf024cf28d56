-- The results of values, one after another.
use Rattle.std.proofs.Common.{◌≡◌, List, [], ◌∷◌, ◌++◌, map, Option, Some, None, option_map, refl, ap, append_assoc}

-- the result of the next value comes after those of the values before it, and before those of the remaining ones
in_order : {A B : Type 0} (f : A → B) (before : List A) (next : A) (left : List B)
    → map f before ++ (f next ∷ left) ≡ map f (before ++ next ∷ []) ++ left
in_order f [] next left = refl
in_order f (first ∷ before) next left = ap (λ others. f first ∷ others) (in_order f before next left)

pub said_in_order : {A B : Type 0} (f : A → B) (before : List A) (next : A) (left : Option (List B))
    → option_map (λ others. map f before ++ others) (option_map (λ others. f next ∷ others) left)
    ≡ option_map (λ others. map f (before ++ next ∷ []) ++ others) left
said_in_order f before next None = refl
said_in_order f before next (Some left) = ap Some (in_order f before next left)

-- the next value before the remaining ones is the last of those so far
pub appended_in_order : {A : Type 0} (before : List A) (next : A) (left : Option (List A))
    → option_map (λ others. before ++ others) (option_map (λ others. next ∷ others) left)
    ≡ option_map (λ others. (before ++ next ∷ []) ++ others) left
appended_in_order before next None = refl
appended_in_order before next (Some others) = rw append_assoc
