-- The stage after a step of a port, and what the step reports.
use Rattle.std.proofs.Common.{◌≡◌, ◌⊎◌, inl, inr, refl, ℕ, List, [], ◌∷◌, ◌++◌, sym, ap, ◌∙◌, subst, append-nil}
use Rattle.std.specs.Prelude.{Option, Some, None}
use Rattle.std.proofs.lemmas.List.Sums.{fold-append}
use Rattle.iol_types.specs.State.{State, Port, after, apply, port_numbered}
use Rattle.iol_core.specs.Core.{CoreView, live}
use Rattle.iol_core.specs.Downloads.{durable_set}
use Rattle.iol_core.specs.Ports.{work_at, work_of}
use Rattle.iol_core.specs.declared.port.Work.{Work}
use Rattle.iol_port.specs.Stage.{Stage, PortValue, Next, To, Start, Settled, Paging}
use Rattle.iol_port.specs.Heard.{moved, started}
use Rattle.iol_port.specs.Status.{status_of, status_at_rest}
use Rattle.iol_port.specs.declared.status.PortStatus.TheVariants as status
use Rattle.iol_port.specs.declared.decision.Decision.TheVariants as decision
use Rattle.iol_port.specs.declared.stage.Rest.{Rest}
use Rattle.iol_core.specs.Own.{own}
use Rattle.iol_core.specs.Statuses as shows
use Rattle.iol_headline.specs.Decisions.{IsExamined}
use Rattle.iol_port.specs.Telling.{status_told}
use Rattle.iol_port.specs.declared.status.PortStatus.{PortStatus}
use Rattle.iol_core.proofs.Words.{accepted-append}
use Rattle.iol_core.specs.Events.{Event, Changed, Stamp, stamped}
use Rattle.iol_core.specs.Words.{accepted}
use Rattle.iol_engine.specs.PortRuns.{IsCoreAfter}
use Rattle.iol_types.specs.Config.{is_manual}
use Rattle.std.proofs.Common.{Bool, true, false, if◌then◌else◌}
use Rattle.iol_port.specs.declared.stage.PageFor.TheVariants as page_for
use Rattle.iol_port.specs.declared.stage.Rest.TheVariants as rest
use Rattle.iol_headline.proofs.Revisions.{Holds, holds, stays_there}
use Rattle.iol_headline.proofs.Stages.{WasSaid, Told, said_later}
use Rattle.std.proofs.Common.{option_map}

-- a status is reported if it has changed
abbrev pub StatusTold : ℕ → PortStatus → PortStatus → List Event → Type 0
StatusTold port was now told = ((told ≡ []) × (now ≡ was)) ⊎ ((told ≡ Changed port (status_told now) ∷ []) × (now ≡ was → ⊥))

-- neither `uploading` nor `downloading`
abbrev pub IsPlain : PortStatus → Type 0
IsPlain status.Uploading = ⊥
IsPlain status.Downloading = ⊥
IsPlain now = Unit {0}

-- a settled port makes no transfer
pub rest_plain : (own : Rest) → IsPlain (status_at_rest own)
rest_plain rest.Off = tt
rest_plain rest.Lost = tt
rest_plain (rest.Failed why) = tt
rest_plain (rest.Ready page) = tt
rest_plain (rest.ReadyLocked page) = tt
rest_plain (rest.ReadyEmpty page) = tt
rest_plain (rest.Mismatch why page) = tt

-- a transfer that begins was decided
abbrev pub Began : ℕ → List Stamp → List Event → Type 0
Began port events told =
    (told ≡ Changed port shows.Uploading ∷ [] → IsExamined decision.Upload port (own port events))
    × (told ≡ Changed port shows.Downloading ∷ [] → IsExamined decision.Download port (own port events))

-- lists and statuses that differ, or are the same
pub nil_one : (e : Event) → (let none : List Event = [] in none ≡ e ∷ []) → ⊥
nil_one e same = cc

pub status_is : (port : ℕ) (one other : shows.Status) → Changed port one ∷ [] ≡ Changed port other ∷ [] → one ≡ other
status_is port one other same = cc

-- no other status is reported as these
plain_uploads : (now : PortStatus) → IsPlain now → status_told now ≡ shows.Uploading → ⊥
plain_uploads status.Uploading plain same = plain
plain_uploads status.Downloading plain same = plain
plain_uploads now plain same = absurd cc

plain_downloads : (now : PortStatus) → IsPlain now → status_told now ≡ shows.Downloading → ⊥
plain_downloads status.Uploading plain same = plain
plain_downloads status.Downloading plain same = plain
plain_downloads now plain same = absurd cc

-- no transfer begins if nothing is reported, or another status
pub none_began : (port : ℕ) (events : List Stamp) (told : List Event) → told ≡ [] → Began port events told
none_began port events told none = ((λ one. absurd (nil_one _ (sym none ∙ one))), (λ one. absurd (nil_one _ (sym none ∙ one))))

pub plain_began : (port : ℕ) (events : List Stamp) (was now : PortStatus) (told : List Event) → IsPlain now → StatusTold port was now told
    → Began port events told
plain_began port events was now told plain (inl none) = none_began port events told none.0
plain_began port events was now told plain (inr other) = (
  (λ one. absurd (plain_uploads now plain (status_is port _ _ (sym other.0 ∙ one)))),
  (λ one. absurd (plain_downloads now plain (status_is port _ _ (sym other.0 ∙ one)))),
)

module _ (first : ℕ) (start : State) (port connection : ℕ) where
  -- whatever a step reports of the status after it, what holds at a stage holds after it
  abbrev pub Goes : List Stamp → ℕ → List Event → PortStatus → Stage → Type 0
  Goes events clock called was stage =
      (told : List Event) → StatusTold port was (status_of stage) told
      → Told first start port connection (events ++ stamped clock (called ++ told)) stage × Began port (events ++ stamped clock called) told

  abbrev pub NextGoes : List Stamp → ℕ → List Event → PortStatus → Next → Type 0
  NextGoes events clock called was (To stage) = Goes events clock called was stage
  NextGoes events clock called was (Start work) = WasSaid first start port connection work events

  -- the status stays
  pub still : (events : List Stamp) (clock : ℕ) (called : List Event) (stage : Stage)
      → Told first start port connection (events ++ stamped clock called) stage
      → Goes events clock called (status_of stage) stage
  still events clock called stage is told (inl none) = (
    subst (λ (es : List Event). Told first start port connection (events ++ stamped clock es) stage)
        (sym (ap (λ (ts : List Event). called ++ ts) none.0 ∙ append-nil called)) is,
    none_began port (events ++ stamped clock called) told none.0,
  )
  still events clock called stage is told (inr other) = absurd (other.1 refl)

  -- the port settles
  pub settles : (events : List Stamp) (clock : ℕ) (called : List Event) (was : PortStatus) (own : Rest)
      → Goes events clock called was (Settled own)
  settles events clock called was own told shown =
      (tt, plain_began port (events ++ stamped clock called) was (status_at_rest own) told (rest_plain own) shown)

  -- the machine starts
  start_goes : (events : List Stamp) (clock : ℕ) (called : List Event) (was : PortStatus) (value : PortValue) (work : Work)
      → WasSaid first start port connection work events
      → Goes events clock called was (started value work).stage
  start_goes events clock called was value work said = by (is_manual work.config.mode)
    where
      by : (test : Bool) → Goes events clock called was (if test then Paging (page_for.Identifying work) else Settled rest.Off)
      by true = λ told shown. (
        said_later first start port connection work events (stamped clock (called ++ told)) said,
        plain_began port (events ++ stamped clock called) was status.Starting told tt shown,
      )
      by false = settles events clock called was rest.Off

  -- the machine continues, or starts
  pub moved_goes : (events : List Stamp) (clock : ℕ) (called : List Event) (was : PortStatus) (value : PortValue) (next : Next)
      → NextGoes events clock called was next → Goes events clock called was (moved value next).stage
  moved_goes events clock called was value (To stage) goes = goes
  moved_goes events clock called was value (Start work) said = start_goes events clock called was value work said

  -- ---- what the core says

  after-more : (upto more : List Stamp) → after start (accepted (upto ++ more)) ≡ after (after start (accepted upto)) (accepted more)
  after-more upto more = ap (after start) (accepted-append upto more) ∙ fold-append apply start (accepted upto) (accepted more)

  -- a port after some of the events, and after all of them
  pub holds_since : (events upto more : List Stamp) (p q : Port) → events ≡ upto ++ more
      → port_numbered (after start (accepted upto)) port ≡ Some p
      → port_numbered (after start (accepted events)) port ≡ Some q → Holds port p q (accepted more)
  holds_since events upto more p q split at later =
      holds (accepted more) (after start (accepted upto)) port p q at
      (ap (λ (s : State). port_numbered s port) (sym (ap (λ (es : List Stamp). after start (accepted es)) split ∙ after-more upto more))
      ∙ later)

  -- what is found is one
  some_same : (x y : Work) → Some x ≡ Some y → x ≡ y
  some_same x y same = cc

  none_not : (x : Work) → Some x ≡ None → ⊥
  none_not x same = cc

  -- the port, as the core knows it
  pub record IsSaid (work : Work) (old : CoreView) (events : List Stamp) : Type 0 where
    pub kept : Port
    pub there : port_numbered (after start (accepted events)) port ≡ Some kept
    pub work_is : work ≡ work_of kept (durable_set old port)

  -- what the core answers is what it knows
  pub is_said : (events : List Stamp) (old : CoreView) (work : Work) → IsCoreAfter first start events old → Some work ≡ work_at old port
      → IsSaid work old events
  is_said events old work core at = by (port_numbered (live old) port) refl at
    where
      by : (found : Option Port) → port_numbered (live old) port ≡ found
          → Some work ≡ option_map (λ p. work_of p (durable_set old port)) found → IsSaid work old events
      by None there is = absurd (none_not work is)
      by (Some kept) there is = record {
        kept = kept;
        there = ap (λ (s : State). port_numbered s port) (sym core.live) ∙ there;
        work_is = some_same work _ is;
      }

  -- the core has just said it
  pub was_said : (events : List Stamp) (old : CoreView) (work : Work) → IsSaid work old events
      → WasSaid first start port connection work events
  was_said events old work is = record {
    upto = events;
    more = [];
    split = sym (append-nil events);
    kept = is.kept;
    there = is.there;
    config = ap (λ (w : Work). w.config) is.work_is;
    revision = ap (λ (w : Work). w.revision) is.work_is;
  }

  -- a port that was there is there still
  pub stays_since : (events upto more : List Stamp) (p : Port) → events ≡ upto ++ more
      → port_numbered (after start (accepted upto)) port ≡ Some p
      → (q : Port) × (port_numbered (after start (accepted events)) port ≡ Some q)
  stays_since events upto more p split at =
      let later = stays_there (accepted more) (after start (accepted upto)) port p at in (
        later.0,
        ap (λ (s : State). port_numbered s port) (ap (λ (es : List Stamp). after start (accepted es)) split ∙ after-more upto more)
            ∙ later.1,
      )
