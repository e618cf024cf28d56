-- The lines with one more event.
use Rattle.std.proofs.Common.{◌≡◌, refl, ℕ, ◌+◌, ◌<◌, List, [], ◌∷◌, ◌++◌, length, take, get_or, sym, ap, ◌∙◌, append_assoc}
use Rattle.std.proofs.Common.{append-nil}
use Rattle.std.specs.Prelude.{Option, None}
use Rattle.std.proofs.lemmas.List.{take_more, map-append}
use Rattle.iol_engine.specs.Events.{event_of}
use Rattle.iol_run.specs.declared.run.Stamped.{Stamped}
use Rattle.iol_core.specs.Events.{Event}
use Rattle.iol_commands.specs.Lines.{lost_in, lines_after, lines_from, lines_of, events_of}

-- the port whose device the last of the events reports as lost
abbrev pub lost_after : Option ℕ → List Event → Option ℕ
lost_after lost [] = lost
lost_after lost (event ∷ events) = lost_after (lost_in event) events

lines_more : (lost : Option ℕ) (events : List Event) (event : Event)
    → lines_from lost (events ++ event ∷ []) ≡ lines_from lost events ++ lines_after (lost_after lost events) event
lines_more lost [] event = append-nil (lines_after lost event)
lines_more lost (e ∷ events) event =
    ap (λ (rest : List ℕ). lines_after lost e ++ rest) (lines_more (lost_in e) events event)
    ∙ sym (append_assoc (lines_after lost e) (lines_from (lost_in e) events) (lines_after (lost_after (lost_in e) events) event))

after_more : (lost : Option ℕ) (events : List Event) (event : Event) → lost_after lost (events ++ event ∷ []) ≡ lost_in event
after_more lost [] event = refl
after_more lost (e ∷ events) event = after_more (lost_in e) events event

-- the events up to a place, and the event at it
pub next_events : (stamped : List Stamped) (i : ℕ) (item : Stamped) → i < length stamped → get_or stamped i item ≡ item
    → events_of (take (i + 1) stamped) ≡ events_of (take i stamped) ++ event_of item.event ∷ []
next_events stamped i item within is =
    ap events_of (take_more stamped i item within ∙ ap (λ (s : Stamped). take i stamped ++ s ∷ []) is)
    ∙ map-append (λ (s : Stamped). event_of s.event) (take i stamped) (item ∷ [])

pub lines_next : (stamped : List Stamped) (i : ℕ) (item : Stamped) (lost : Option ℕ) → i < length stamped → get_or stamped i item ≡ item
    → lost ≡ lost_after None (events_of (take i stamped))
    → lines_of (events_of (take i stamped)) ++ lines_after lost (event_of item.event) ≡ lines_of (events_of (take (i + 1) stamped))
lines_next stamped i item lost within is at =
    ap (λ (l : Option ℕ). lines_of (events_of (take i stamped)) ++ lines_after l (event_of item.event)) at
    ∙ sym (ap lines_of (next_events stamped i item within is) ∙ lines_more None (events_of (take i stamped)) (event_of item.event))

pub lost_next : (stamped : List Stamped) (i : ℕ) (item : Stamped) → i < length stamped → get_or stamped i item ≡ item
    → lost_in (event_of item.event) ≡ lost_after None (events_of (take (i + 1) stamped))
lost_next stamped i item within is =
    sym (ap (lost_after None) (next_events stamped i item within is) ∙ after_more None (events_of (take i stamped)) (event_of item.event))
