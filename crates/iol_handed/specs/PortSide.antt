-- What a port wants of its device, and the reports of it.
use Rattle.std.specs.Prelude.{◌≡◌, ◌-◌, ℕ, Bool, true, false, ◌||◌, ◌&&◌, is_none, List, [], Option, Some, None}
use Rattle.std.specs.Prelude.{slice_get, slice_set}
use Rattle.iol_link.specs.Isdu.{IsShortestRequest}
use Rattle.iol_link.specs.Link.{last_connection}
use Rattle.iol_port.specs.declared.action.Want.{Want}
use Rattle.iol_port.specs.declared.action.Want.TheVariants as want
use Rattle.iol_core.specs.Events.{Event}
use Rattle.iol_engine.specs.Answered.{without_octets}
use Rattle.iol_engine.specs.HandedSteps.{NeverFits, StepsHanded, settled_in, want_at}
use Rattle.iol_engine.specs.Waits.{waits_at}
use Rattle.iol_engine.specs.declared.handed.Answered.{Answered}
use Rattle.iol_engine.specs.declared.handed.Answered.TheVariants as answered
use Rattle.iol_engine.specs.declared.handed.Handed.{Handed}
use Rattle.iol_run.specs.HandedOnDisk.{engine_in}
use Rattle.iol_handed.specs.Master.{HandedMasterView}
use Rattle.iol_handed.specs.Notes.{noted_after}
use Rattle.iol_handed.specs.declared.notes.Attention.{Attention}
use Rattle.iol_handed.specs.declared.notes.Attention.TheVariants as attention
use Rattle.iol_handed.specs.declared.notes.PortNotes.{PortNotes}
use Rattle.iol_handed.specs.declared.port_answer.PortAnswer.{PortAnswer}
use Rattle.iol_handed.specs.declared.port_answer.PortAnswer.TheVariants as told

-- a link hands over its answer and the noted event, on its connection; on the last connection it hands over no octets and no event (own)
pub record IsHandedOver (connection : ℕ) (event : Option ℕ) (answer : Answered) (handed : Handed) : Type 0 where
  pub connection_is : handed.connection ≡ connection
  pub event_is : (connection ≡ last_connection → ⊥) → handed.event ≡ event
  pub answer_is : (connection ≡ last_connection → ⊥) → handed.answer ≡ answer
  pub last : connection ≡ last_connection → handed.answer ≡ without_octets answer

-- the device is gone (own)
abbrev pub is_gone : Answered → Bool
is_gone answered.Gone = true
is_gone _ = false

-- a port makes its step with this answer and the noted event of its device; nothing else changes (own)
pub record MakesStep (port : ℕ) (notes : PortNotes) (answer : Answered) (old new : HandedMasterView) : Type 0 where
  pub connection : ℕ
  pub handed : Handed
  pub told : List Event
  pub on : slice_get old.made.connections (port - 1) ≡ Some connection
  pub handed_is : IsHandedOver connection notes.event answer handed
  pub steps : StepsHanded port handed (engine_in old.made []) (engine_in new.made told) told
  pub flusher : new.made.master.flusher ≡ old.made.master.flusher
  pub committed : new.made.master.committed ≡ old.made.master.committed
  pub reports : new.reports ≡ old.reports
  pub notes_are : new.notes
      ≡ slice_set old.notes (port - 1)
      (noted_after notes.attention (is_gone answer) (settled_in (slice_get new.made.machines (port - 1))))

-- the answer does not count for the port, because it does not fit what the port wants (own)
abbrev pub DoesNotFit : ℕ → PortNotes → Answered → HandedMasterView → Type 0
DoesNotFit port notes answer master =
    (connection : ℕ) × (handed : Handed) × IsHandedOver connection notes.event answer handed
    × NeverFits port handed (engine_in master.made [])

-- a step was made; if there is no such port, the answer does not fit, or memory runs out, nothing changes (own)
abbrev pub StepsPort : ℕ → PortNotes → Answered → HandedMasterView → HandedMasterView → PortAnswer → Type 0
StepsPort port notes answer old new told.Again = MakesStep port notes answer old new
StepsPort port notes answer old new told.Absent = (slice_get old.made.connections (port - 1) ≡ None) × (new ≡ old)
StepsPort port notes answer old new told.Misfit = DoesNotFit port notes answer old × (new ≡ old)
StepsPort port notes answer old new told.Memory = new ≡ old
StepsPort port notes answer old new _ = ⊥

-- nothing calls a port (own)
abbrev pub is_uncalled : Attention → Bool
is_uncalled attention.None = true
is_uncalled _ = false

-- the next step of a port has no report to use (own)
abbrev pub is_quiet : PortNotes → Bool
is_quiet notes = is_none notes.event && is_uncalled notes.attention

-- a port that wants nothing of its device has nothing to do: it waits for the disk, or it is settled and nothing was reported of it (own)
abbrev pub rests : HandedMasterView → ℕ → PortNotes → Bool
rests master port notes =
    waits_at (engine_in master.made []) port || (is_quiet notes && settled_in (slice_get master.made.machines (port - 1)))

-- a port that wants nothing of its device rests, or makes a step (own)
abbrev pub AsksAtNothing : Bool → ℕ → PortNotes → HandedMasterView → HandedMasterView → PortAnswer → Type 0
AsksAtNothing true port notes old new answer = (answer ≡ told.Nothing) × (new ≡ old)
AsksAtNothing false port notes old new answer = StepsPort port notes answered.Nothing old new answer

-- the answer is what a port wants of its device; if the device is gone, the port learns this in a step (own)
abbrev pub AsksAt : Want → Attention → ℕ → PortNotes → HandedMasterView → HandedMasterView → PortAnswer → Type 0
AsksAt want.Nothing called port notes old new answer = AsksAtNothing (rests old port notes) port notes old new answer
AsksAt wanted attention.Gone port notes old new answer = StepsPort port notes answered.Gone old new answer
AsksAt want.Page called port notes old new answer = (answer ≡ told.Page) × (new ≡ old)
AsksAt (want.Answer request) called port notes old new (told.Request octets) = IsShortestRequest octets.items request × (new ≡ old)
AsksAt (want.Answer request) called port notes old new _ = ⊥

-- a fact holds of the notes of a port; a port that does not exist is absent, and nothing changes (own)
abbrev pub WithNotes : Option PortNotes → HandedMasterView → HandedMasterView → PortAnswer → (PortNotes → Type 0) → Type 0
WithNotes None old new answer fact = (answer ≡ told.Absent) × (new ≡ old)
WithNotes (Some notes) old new answer fact = fact notes

abbrev pub AsksPort : ℕ → HandedMasterView → HandedMasterView → PortAnswer → Type 0
AsksPort port old new answer =
    WithNotes (slice_get old.notes (port - 1)) old new answer
    (λ notes. AsksAt (want_at (engine_in old.made []) port) notes.attention port notes old new answer)

-- an answer of a port's device is handed in; nothing fits once the device is reported as gone (own)
abbrev pub HandsAt : Attention → ℕ → PortNotes → Answered → HandedMasterView → HandedMasterView → PortAnswer → Type 0
HandsAt attention.Gone port notes handed old new answer = (answer ≡ told.Misfit) × (new ≡ old)
HandsAt _ port notes handed old new answer = StepsPort port notes handed old new answer

abbrev pub HandsPort : ℕ → Answered → HandedMasterView → HandedMasterView → PortAnswer → Type 0
HandsPort port handed old new answer =
    WithNotes (slice_get old.notes (port - 1)) old new answer (λ notes. HandsAt notes.attention port notes handed old new answer)

-- what was reported of a port is noted (own)
abbrev pub noting : ℕ → PortNotes → HandedMasterView → HandedMasterView
noting port notes master = record master { notes = slice_set master.notes (port - 1) notes }

abbrev pub IsNoted : ℕ → (PortNotes → PortNotes) → HandedMasterView → HandedMasterView → PortAnswer → Type 0
IsNoted port change old new answer =
    WithNotes (slice_get old.notes (port - 1)) old new answer
    (λ notes. (answer ≡ told.Noted) × (new ≡ noting port (change notes) old))

-- a port that wants something of its device learns at once that the device is gone; for any other port it is noted (own)
abbrev pub LosesAt : Want → ℕ → PortNotes → HandedMasterView → HandedMasterView → PortAnswer → Type 0
LosesAt want.Nothing port notes old new answer =
    (answer ≡ told.Noted) × (new ≡ noting port (record notes { attention = attention.Gone }) old)
LosesAt wanted port notes old new answer = StepsPort port notes answered.Gone old new answer

abbrev pub Loses : ℕ → HandedMasterView → HandedMasterView → PortAnswer → Type 0
Loses port old new answer =
    WithNotes (slice_get old.notes (port - 1)) old new answer
    (λ notes. LosesAt (want_at (engine_in old.made []) port) port notes old new answer)

-- a port that nothing calls is called to look again (own)
abbrev pub woken_of : Attention → Attention
woken_of attention.None = attention.Woken
woken_of other = other

abbrev pub woken : PortNotes → PortNotes
woken notes = record notes { attention = woken_of notes.attention }
