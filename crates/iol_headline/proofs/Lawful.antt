-- One event of a trace is lawful.
use Rattle.std.proofs.Common.{◌≡◌, ◌≤◌, ℕ, List, [], ◌∷◌, ◌++◌, ap, ◌∙◌, subst, arith}
use Rattle.iol_types.specs.State.{State}
use Rattle.iol_transfer.specs.declared.command.DsCommand.TheVariants.{UploadEnd}
use Rattle.iol_link.specs.declared.messages.Request.{Request}
use Rattle.iol_transfer.specs.Command.{commanded}
use Rattle.iol_core.proofs.Words.{acked-append}
use Rattle.iol_core.specs.Events.{Event, Stamp}
use Rattle.iol_core.specs.Words.{acked, acked_by}
use Rattle.iol_engine.specs.Acknowledged.{AcksRise}
use Rattle.iol_headline.specs.Conversations.{Sends}
use Rattle.iol_headline.specs.Decisions.{DecidedFirst}
use Rattle.iol_headline.specs.Downloads.{DownloadsOnly, CommandsOnly}
use Rattle.iol_headline.specs.DurableEnds.{IsStored, DurableThenEnd}
use Rattle.iol_headline.specs.Settled.{SettledRight}
use Rattle.iol_headline.specs.WholeSets.{WholeSets}
use Rattle.iol_headline.specs.Works.{TellsWork}

-- ---- a set that is stored was acknowledged at some moment; as acknowledged numbers do not fall, it still is

-- the commands up to a number were acknowledged by then
pub record WasAcknowledged (first number : ℕ) (events : List Stamp) : Type 0 where
  pub upto : List Stamp
  pub more : List Stamp
  pub split : events ≡ upto ++ more
  pub enough : number ≤ acked first upto

-- the set of a port's last upload is stored, and was acknowledged
pub record WasStored (first port connection : ℕ) (events : List Stamp) : Type 0 where
  pub number : ℕ
  pub stored : IsStored port connection number events
  pub durable : WasAcknowledged first number events

-- DS_UploadEnd is sent only then
abbrev pub AckedThenEnd : ℕ → List Stamp → Event → Type 0
AckedThenEnd first before e =
    (port connection : ℕ) → Sends port connection (commanded UploadEnd) e → WasStored first port connection before

-- what is acknowledged after more events is not below
acked_rises : (last : ℕ) (events : List Stamp) → AcksRise last events → last ≤ acked last events
acked_rises last [] rise = omega arith
acked_rises last (e ∷ events) rise =
    let one = rise.0 in
    let rest = acked_rises (acked_by last e.event) events rise.1 in
    omega (arith, one, rest)

-- numbers do not fall in the second part of a trace, nor in its first
rise_after : (last : ℕ) (events more : List Stamp) → AcksRise last (events ++ more) → AcksRise (acked last events) more
rise_after last [] more rise = rise
rise_after last (e ∷ events) more rise = rise_after (acked_by last e.event) events more rise.1

rise_before : (last : ℕ) (events more : List Stamp) → AcksRise last (events ++ more) → AcksRise last events
rise_before last [] more rise = tt
rise_before last (e ∷ events) more rise = (rise.0, rise_before (acked_by last e.event) events more rise.1)

-- a number that was acknowledged is so still
still_acked : (first number : ℕ) (events : List Stamp) → AcksRise first events → WasAcknowledged first number events
    → number ≤ acked first events
still_acked first number events rise was =
    let more = acked_rises (acked first was.upto) was.more
    (rise_after first was.upto was.more (subst (λ (es : List Stamp). AcksRise first es) was.split rise)) in
    let same = ap (acked first) was.split ∙ acked-append first was.upto was.more in
    let enough = was.enough in
    omega (arith, more, same, enough)

-- so DS_UploadEnd follows the acknowledgement
pub durable_ends : (first : ℕ) (before behind : List Stamp) (e : Event) → AcksRise first (before ++ behind) → AckedThenEnd first before e
    → DurableThenEnd first before e
durable_ends first before behind e rise ends port connection sent =
    let was = ends port connection sent in
    (was.number, was.stored, still_acked first was.number before (rise_before first before behind rise) was.durable)

-- ---- all that is said of an event

-- the laws of one event after those before it
pub record IsLawfulAt (first : ℕ) (start : State) (before : List Stamp) (e : Event) : Type 0 where
  pub whole : WholeSets before e
  pub ends : AckedThenEnd first before e
  pub downloads : DownloadsOnly first start before e
  pub commands : CommandsOnly before e
  pub works : TellsWork first start before e
  pub decided : DecidedFirst before e
  pub settled : SettledRight before e

-- an event that reports no request that was sent
pub unsent_lawful : (first : ℕ) (start : State) (before : List Stamp) (e : Event)
    → ((port connection : ℕ) (request : Request) → Sends port connection request e → ⊥) → WholeSets before e
    → TellsWork first start before e → DecidedFirst before e → SettledRight before e → IsLawfulAt first start before e
unsent_lawful first start before e unsent whole works decided settled = record {
  whole = whole;
  ends = λ port connection sent. absurd (unsent port connection _ sent);
  downloads = λ port connection request sent writes. absurd (unsent port connection request sent);
  commands = λ port connection subindex octets sent. absurd (unsent port connection _ sent);
  works = works;
  decided = decided;
  settled = settled;
}
