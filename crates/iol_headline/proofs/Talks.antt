-- Conversations that continue, and a port's own events among more.
use Rattle.std.proofs.Common.{◌≡◌, refl, ℕ, nat_eq, Bool, if◌then◌else◌, List, [], ◌∷◌, ◌++◌, ap, sym, ◌∙◌, subst, append-nil}
use Rattle.std.specs.Prelude.{Ok}
use Rattle.std.proofs.lemmas.Bool.{eq-eqb}
use Rattle.iol_link.specs.Isdu.{IsShortestRequest}
use Rattle.iol_link.specs.Reading.{answer_of}
use Rattle.iol_link.specs.declared.messages.Answer.{Answer}
use Rattle.iol_link.specs.declared.messages.Request.{Request}
use Rattle.iol_transfer.specs.Exchanges.{Exchange}
use Rattle.iol_core.proofs.Own.{own-append}
use Rattle.iol_core.specs.Events as trace
use Rattle.iol_core.specs.Events.{Event, Stamp, stamped}
use Rattle.iol_core.specs.Own.{own, own_in}
use Rattle.iol_headline.specs.Conversations.{Converses, AreConnected}

-- one more exchange
pub talk_more : (port connection : ℕ) (told : List Event) (conversation : List Exchange) (request answer : List ℕ) (sent : Request)
    (heard : Answer)
    → IsShortestRequest request sent → answer_of answer ≡ Ok heard → Converses port connection told conversation
    → Converses port connection (told ++ trace.Exchange port connection request answer ∷ [])
    (conversation ++ record { request = sent; answer = heard } ∷ [])
talk_more port connection [] conversation request answer sent heard spelled said none = (
  record { request = sent; answer = heard },
  [],
  record { request = request; answer = answer; event = refl; sent = spelled; heard = said },
  ap (λ (c : List Exchange). c ++ record { request = sent; answer = heard } ∷ []) none,
  refl,
)
talk_more port connection (e ∷ told) conversation request answer sent heard spelled said talk = (
  talk.0,
  talk.1 ++ record { request = sent; answer = heard } ∷ [],
  talk.2,
  ap (λ (c : List Exchange). c ++ record { request = sent; answer = heard } ∷ []) talk.3,
  talk_more port connection told talk.1 request answer sent heard spelled said talk.4,
)

-- a conversation has no page and no loss
pub talk_connected : (port connection : ℕ) (told more : List Event) (conversation : List Exchange)
    → Converses port connection told conversation
    → AreConnected more → AreConnected (told ++ more)
talk_connected port connection [] more conversation talk rest = rest
talk_connected port connection (e ∷ told) more conversation talk rest =
    subst (λ (d : Event). AreConnected (d ∷ (told ++ more))) (sym talk.2.event)
    (talk_connected port connection told more talk.1 talk.4 rest)

-- an event that is a port's own, among more
pub own_one : (port clock : ℕ) (e : Event) → own_in port e ≡ e ∷ [] → own port (stamped clock (e ∷ [])) ≡ e ∷ []
own_one port clock e is = ap (λ (es : List Event). es ++ []) is

-- own events after others
pub own_more : (port : ℕ) (events more : List Stamp) (told : List Event) → own port more ≡ told
    → own port (events ++ more) ≡ own port events ++ told
own_more port events more told is = own-append port events more ∙ ap (λ (es : List Event). own port events ++ es) is

pub own_same : (port : ℕ) (events more : List Stamp) → own port more ≡ [] → own port (events ++ more) ≡ own port events
own_same port events more none = own_more port events more [] none ∙ append-nil (own port events)

pub at_own : (port : ℕ) (e : Event) → (if nat_eq port port then e ∷ [] else []) ≡ e ∷ []
at_own port e = ap (λ (same : Bool). if same then e ∷ [] else []) (eq-eqb port port refl)
