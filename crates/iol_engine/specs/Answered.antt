-- Answers of a link to what an engine wanted of it.
use Rattle.std.specs.Prelude.{◌≡◌, ℕ, Bool, true, false, List}
use Rattle.iol_port.specs.declared.action.Want.{Want}
use Rattle.iol_port.specs.declared.action.Want.TheVariants as want
use Rattle.iol_engine.specs.declared.handed.Answered.{Answered}
use Rattle.iol_engine.specs.declared.handed.Answered.TheVariants as answered

-- the answer has no octets (own)
abbrev pub is_silent : Answered → Bool
is_silent answered.Nothing = true
is_silent answered.Gone = true
is_silent _ = false

-- the answer without its octets: a device that is asked on the last connection is lost (own)
abbrev pub without_octets : Answered → Answered
without_octets answered.Nothing = answered.Nothing
without_octets _ = answered.Gone

-- the answer is a page of these octets, or a device's answer of these octets (own)
abbrev pub IsPage : Answered → List ℕ → Type 0
IsPage (answered.Page page) octets = octets ≡ page
IsPage _ octets = ⊥

abbrev pub IsAnswer : Answered → List ℕ → Type 0
IsAnswer (answered.Octets answer) octets = octets ≡ answer.items
IsAnswer _ octets = ⊥

-- the answer fits what was wanted: a page or a device's answer, unless the device was lost (own)
abbrev pub FitsWant : Want → Answered → Type 0
FitsWant want.Page (answered.Page page) = Unit {0}
FitsWant want.Page answered.Gone = Unit {0}
FitsWant (want.Answer request) (answered.Octets octets) = Unit {0}
FitsWant (want.Answer request) answered.Gone = Unit {0}
FitsWant want.Nothing answered.Nothing = Unit {0}
FitsWant _ _ = ⊥
