-- What a link answered to a call that was made outside the engine, as a link.
use Rattle.std.specs.Prelude.{◌≡◌, ℕ, List}
use Rattle.iol_link.specs.Link.{LinkCall, TakeEvent, ReadPage, Exchange, LinkAnswer, Octets, Gone, event_answer}
use Rattle.iol_engine.specs.Answered.{IsPage, IsAnswer}
use Rattle.iol_engine.specs.declared.handed.Handed.{Handed}

-- the number of the connection on which the link answered (own)
abbrev pub handed_number : Handed → ℕ
handed_number handed = handed.connection

-- this link gives its event and its answer, and it loses its device only if it has no such answer (own)
abbrev pub Hands : Handed → LinkCall → LinkAnswer → Handed → Type 0
Hands old TakeEvent answer new = (answer ≡ event_answer old.event) × (new.answer ≡ old.answer)
Hands old ReadPage (Octets octets) new = IsPage old.answer octets
Hands old ReadPage Gone new = (octets : List ℕ) → IsPage old.answer octets → ⊥
Hands old (Exchange request) (Octets octets) new = IsAnswer old.answer octets
Hands old (Exchange request) Gone new = (octets : List ℕ) → IsAnswer old.answer octets → ⊥
Hands _ _ _ _ = ⊥
