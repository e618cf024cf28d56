-- What a lawful list of commands leaves.
use Rattle.std.proofs.Common.{◌≡◌, inl, inr, ⊎_elim, ◌-◌, ℕ, List, [], ◌∷◌, ◌++◌, take, drop, Some, refl, sym, ap, ◌∙◌}
use Rattle.std.proofs.Common.{append_assoc}
use Rattle.std.proofs.lemmas.List.{take-append-drop}
use Rattle.iol_types.specs.Command.{CommandValue, Store}
use Rattle.iol_types.specs.State.{Port, after, port_numbered}
use Rattle.iol_front.specs.Fronts.{Start}
use Rattle.iol_engine.specs.Engine.{EngineView, IsEngine, trace_of}
use Rattle.iol_core.specs.Events as trace
use Rattle.iol_core.specs.Events.{Event, Accepted, Refused, Page, Lost, Attended, Changed, Acknowledged, DiskFailed, Stamp}
use Rattle.iol_core.specs.Words.{accepted, command_in}
use Rattle.iol_headline.proofs.Engines.{engine_lawful}
use Rattle.iol_headline.proofs.StoredSets.{sets_stored}
use Rattle.iol_headline.specs.Lists.{IsLawfulList, SetsWereUploaded, WasUploaded}
use Rattle.iol_headline.specs.StoredSets.{WasStored}
use Rattle.iol_headline.specs.WholeSets.{IsUploadedWhole}

-- the place where a trace accepts a command
record AcceptsAt (events : List Stamp) (command : CommandValue) : Type 0 where
  pub before : List Stamp
  pub given : ℕ
  pub clock : ℕ
  pub later : List Stamp
  pub split : events ≡ before ++ record { event = Accepted given command; clock = clock } ∷ later

later_at : (e : Stamp) (events : List Stamp) (command : CommandValue) → AcceptsAt events command → AcceptsAt (e ∷ events) command
later_at e events command at = record {
  before = e ∷ at.before;
  given = at.given;
  clock = at.clock;
  later = at.later;
  split = ap (λ (es : List Stamp). e ∷ es) at.split;
}

first_is : (c d : CommandValue) (cs ds : List CommandValue) → c ∷ cs ≡ d ∷ ds → (c ≡ d) × (cs ≡ ds)
first_is c d cs ds is = (cc, cc)

-- each command that is accepted is accepted somewhere
accepted_at : (events : List Stamp) (early late : List CommandValue) (command : CommandValue)
    → accepted events ≡ early ++ command ∷ late → AcceptsAt events command
accepted_at [] [] late command is = absurd cc
accepted_at [] (c ∷ early) late command is = absurd cc
accepted_at (e ∷ events) early late command is =
    by (λ (first : List CommandValue) (same : accepted events ≡ first ++ command ∷ late). accepted_at events first late command same)
    e.event refl early is
  where
    by : ((first : List CommandValue) → accepted events ≡ first ++ command ∷ late → AcceptsAt events command) → (told : Event)
        → e.event ≡ told → (first : List CommandValue) → command_in told ++ accepted events ≡ first ++ command ∷ late
        → AcceptsAt (e ∷ events) command
    by again (Accepted number own) told [] same = record {
      before = [];
      given = number;
      clock = e.clock;
      later = events;
      split = ap (λ (s : Event). record { event = s; clock = e.clock } ∷ events)
          (told ∙ ap (λ (c : CommandValue). Accepted number c) (first_is own command (accepted events) late same).0);
    }
    by again (Accepted number own) told (c ∷ first) same =
        later_at e events command (again first (first_is own c (accepted events) (first ++ command ∷ late) same).1)
    by again (Refused refusal) told first same = later_at e events command (again first same)
    by again (Page port connection octets) told first same = later_at e events command (again first same)
    by again (trace.Exchange port connection request answer) told first same =
        later_at e events command (again first same)
    by again (Lost port connection request) told first same = later_at e events command (again first same)
    by again (Attended port work) told first same = later_at e events command (again first same)
    by again (Changed port status) told first same = later_at e events command (again first same)
    by again (Acknowledged number) told first same = later_at e events command (again first same)
    by again DiskFailed told first same = later_at e events command (again first same)

-- each set that a port has after a lawful list was uploaded, or was there at the start
pub sets_uploaded : (start : Start) (number : ℕ) (commands : List CommandValue) (port : ℕ) (kept : Port)
    → (is : IsLawfulList start number commands) → port_numbered (after start.state commands) port ≡ Some kept
    → SetsWereUploaded start number commands port kept
sets_uploaded start number commands port kept is there stored has =
    ⊎_elim inl (λ was. inr (uploaded was)) (sets_stored commands start.state port kept stored there has)
  where
    uploaded : WasStored start.state commands port stored → WasUploaded start number commands port stored
    uploaded was =
        let rest = drop (number - start.number) (accepted is.events) in
        let all : accepted is.events ≡ was.early ++ Store port was.revision stored.set ∷ (was.late ++ rest) =
        sym (take-append-drop (number - start.number) (accepted is.events))
        ∙ (ap (λ (cs : List CommandValue). cs ++ rest) (is.accepted_first ∙ was.split)
        ∙ append_assoc was.early (Store port was.revision stored.set ∷ was.late) rest) in
        let at = accepted_at is.events was.early (was.late ++ rest) (Store port was.revision stored.set) all in
        let whole : (connection : ℕ) × IsUploadedWhole port connection stored.set at.before =
        is.lawful.whole_sets at.before at.later
        (record { event = Accepted at.given (Store port was.revision stored.set); clock = at.clock })
        at.split in
        record {
          trace = is;
          before = at.before;
          given = at.given;
          revision = was.revision;
          clock = at.clock;
          later = at.later;
          connection = whole.0;
          split = at.split;
          whole = whole.1;
        }

-- what an engine has acknowledged, its core's pass has seen
pub engine_list : (start : Start) (engine : EngineView) → IsEngine start engine
    → IsLawfulList start engine.core.number (take (engine.core.number - start.number) engine.core.seen)
engine_list start engine is = record {
  events = trace_of engine;
  lawful = engine_lawful start engine is;
  acked_is = is.stands.acked_is;
  accepted_first = sym is.known;
}
