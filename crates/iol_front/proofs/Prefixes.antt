-- Lists that are prefixes of others.
use Rattle.std.proofs.Common.{◌∙◌, List, [], ◌++◌, refl, sym, ap, append-nil, append_assoc}
use mathlib.Core.List.{IsPrefix}

module _ {A : Type 0} where
  pub prefix_self : (l : List A) → IsPrefix l l
  prefix_self l = ([], append-nil l)

  pub prefix_nil : (l : List A) → IsPrefix [] l
  prefix_nil l = (l, refl)

  pub prefix_append : (a b : List A) → IsPrefix a (a ++ b)
  prefix_append a b = (b, refl)

  pub prefix_trans : (a b c : List A) → IsPrefix a b → IsPrefix b c → IsPrefix a c
  prefix_trans a b c p q = (p.0 ++ q.0, sym (append_assoc a p.0 q.0) ∙ (ap (λ l. l ++ q.0) p.1 ∙ q.1))
