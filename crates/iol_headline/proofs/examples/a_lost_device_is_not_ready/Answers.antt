use Rattle.std.proofs.Common.{◌≡◌, ℕ, List, [], ◌∷◌, ◌++◌, sym}
use Rattle.std.specs.Prelude.{None}
use Rattle.iol_link.specs.Page.{PageValue}
use Rattle.iol_core.specs.Events.{Event, Page, Lost, stamped}
use Rattle.iol_core.specs.Own.{own}
use Rattle.iol_headline.proofs.LastTold.{rest_connected}
use Rattle.iol_headline.proofs.OnePlace.{Each, one_place}
use Rattle.iol_headline.proofs.examples.a_lost_device_is_not_ready.Goals as goal
use Rattle.iol_headline.specs.Conversations.{AreConnected, HasPage}
use Rattle.iol_headline.specs.Examples.{ended}
use Rattle.iol_headline.specs.Settled.{IsJudged}

-- an event reports a page or a loss
abbrev Parts : Event → Type 0
Parts e = AreConnected (e ∷ []) → ⊥

connected_first : (e : Event) (events : List Event) → AreConnected (e ∷ events) → AreConnected (e ∷ [])
connected_first (Page port connection octets) events connected = absurd connected
connected_first (Lost port connection request) events connected = absurd connected
connected_first e events connected = tt

none_parts : (events : List Event) → AreConnected events → Each (λ e. Parts e → ⊥) events
none_parts [] connected = tt
none_parts (e ∷ events) connected = (
  (λ parts. parts (connected_first e events connected)),
  none_parts events (rest_connected e events connected),
)

no_page : (connection : ℕ) (octets : List ℕ) → Page 1 connection octets ≡ Lost 1 0 None → ⊥
no_page connection octets same = cc

not_shown : (connection : ℕ) (page : PageValue) → HasPage 1 connection page (own 1 (stamped 7 ended) ++ Lost 1 0 None ∷ []) → ⊥
not_shown connection page shown =
    no_page connection shown.octets
    (one_place Parts shown.before (own 1 (stamped 7 ended)) (Page 1 connection shown.octets) (Lost 1 0 None) shown.since [] (λ none. none)
    (λ none. none) (none_parts shown.since shown.connected) tt (sym shown.split)).1

refused : IsJudged 1 None (own 1 (stamped 7 (ended ++ Lost 1 0 None ∷ []))) → ⊥
refused is = not_shown is.connection is.page is.shown

pub returns : goal.returns
returns c law = refused law
