-- The lines of an explained run.
use Rattle.std.specs.Prelude.{ℕ, ◌+◌, if◌then◌else◌, List, [], ◌∷◌, ◌++◌, length, codes}
use Rattle.iol_types.specs.State.{State}
use Rattle.iol_journal.specs.Geometry.{Geometry}
use Rattle.iol_engine.specs.Events.{event_of}
use Rattle.iol_run.specs.declared.run.Stamped.{Stamped}
use Rattle.iol_core.specs.Events.{Event}
use Rattle.iol_commands.specs.Lines.{is_said}
use Rattle.iol_texts.specs.Recovered.{recovered_text}
use Rattle.iol_explain.specs.DiskLines.{between, call_lines, calls_before, of_run}
use Rattle.iol_explain.specs.EventLines.{event_lines}
use Rattle.iol_explain.specs.Telling.{after, first, known_for}
use Rattle.iol_explain.specs.declared.telling.Telling.{Telling}
use Rattle.iol_explain.specs.declared.told_disk.ToldCall.{ToldCall}

-- the lines of an event, or none if it is a loss that was just reported (format, Explained runs)
abbrev pub unsaid_lines : Telling → Event → List ℕ
unsaid_lines telling event = if is_said event telling.lost then [] else event_lines (known_for telling.ports event) event

-- the lines of the disk calls since the last event, and then those of an event, given what was reported before it (format, Explained runs)
abbrev pub told_text : Geometry → List ToldCall → Telling → Stamped → List ℕ
told_text geometry since telling stamped = call_lines geometry since ++ unsaid_lines telling (event_of stamped.event)

module _ (events_before : List ℕ) where
  -- what was reported up to the event at a place, this event and all disk calls before it included (own)
  abbrev pub next_telling : Telling → ℕ → Stamped → Telling
  next_telling telling place stamped = after telling (calls_before events_before telling.calls place) stamped

  -- what was reported up to the last of these events, the first of which is at a place (own)
  abbrev pub telling_after : Telling → ℕ → List Stamped → Telling
  telling_after telling place [] = telling
  telling_after telling place (stamped ∷ events) = telling_after (next_telling telling place stamped) (place + 1) events

  module _ (geometry : Geometry) (calls : List ToldCall) where
    -- the lines of the disk calls since the last event, and then those of the event at a place, given what was reported before it (format,
    -- Explained runs)
    abbrev pub next_text : Telling → ℕ → Stamped → List ℕ
    next_text telling place stamped =
        told_text geometry (between calls telling.calls (calls_before events_before telling.calls place)) telling stamped

    -- the lines of events, in order, with those of the disk calls before each; the first event is at a place (own)
    abbrev pub told_lines : Telling → ℕ → List Stamped → List ℕ
    told_lines telling place [] = []
    told_lines telling place (stamped ∷ events) =
        next_text telling place stamped ++ told_lines (next_telling telling place stamped) (place + 1) events

-- the lines of the events of a run and of its disk calls (format, Explained runs)
abbrev pub run_lines : Geometry → List ToldCall → List ℕ → List Stamped → List ℕ
run_lines geometry calls events_before events =
    told_lines events_before geometry calls first 0 events
    ++ call_lines geometry (between calls (telling_after events_before first 0 events).calls (length calls))

-- the text of an explained run: its lines, that the power stopped, and the state that was recovered (format, Explained runs)
abbrev pub explained_text : Geometry → List ToldCall → List ℕ → List Stamped → ℕ → State → List ℕ
explained_text geometry calls events_before events number state =
    run_lines geometry (of_run calls) events_before events
    ++ (codes "stopped  # the power stops, and what it leaves of the disk is recovered\n" ++ recovered_text number state)
