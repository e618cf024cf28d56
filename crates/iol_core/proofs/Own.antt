-- A port's own events among more events.
use Rattle.std.proofs.Common.{◌≡◌, refl, ℕ, List, [], ◌∷◌, ◌++◌, ap, sym, ◌∙◌, append_assoc}
use Rattle.iol_core.specs.Events.{Event, Stamp}
use Rattle.iol_core.specs.Own.{own, own_in}

pub own-append : (port : ℕ) (events more : List Stamp) → own port (events ++ more) ≡ own port events ++ own port more
own-append port [] more = refl
own-append port (e ∷ events) more =
    ap (λ (es : List Event). own_in port e.event ++ es) (own-append port events more)
    ∙ sym (append_assoc (own_in port e.event) (own port events) (own port more))
