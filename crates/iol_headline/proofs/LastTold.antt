-- The work that a port got last, and the page that its device showed last, leave no choice.
use Rattle.std.proofs.Common.{◌≡◌, refl, ℕ, List, [], ◌∷◌, sym, ap, ◌∙◌, subst}
use Rattle.std.specs.Prelude.{true, false, Option}
use Rattle.iol_types.specs.Config.{is_manual}
use Rattle.iol_link.specs.Page.{PageValue, page_of}
use Rattle.iol_link.specs.Validation.{ident_fault}
use Rattle.iol_link.specs.declared.validation.IdentFault.{IdentFault}
use Rattle.iol_core.specs.Events.{Event, Page, Lost, Attended}
use Rattle.iol_core.specs.Statuses.{Work}
use Rattle.iol_headline.proofs.OnePlace.{Each, TellsPage, one_place}
use Rattle.iol_headline.specs.Conversations.{AreConnected, HasPage}
use Rattle.iol_headline.specs.Settled.{IsUnsettled, AreUnsettled, WasToldLast, IsOff, IsJudged}

-- a port gets its work
abbrev TellsWorkTo : ℕ → Event → Type 0
TellsWorkTo port e = (work : Work) × (e ≡ Attended port work)

-- a port that has not settled did not get its work
none_told : (port : ℕ) (events : List Event) → AreUnsettled events → Each (λ e. TellsWorkTo port e → ⊥) events
none_told port [] unsettled = tt
none_told port (e ∷ events) unsettled = ((λ is. subst IsUnsettled is.1 unsettled.0), none_told port events unsettled.1)

work_is : (port : ℕ) (one other : Work) → Attended port one ≡ Attended port other → one ≡ other
work_is port one other same = cc

-- the work that a port got last is one
pub one_work : (port : ℕ) (one other : Work) (events : List Event) → WasToldLast port one events → WasToldLast port other events
    → one ≡ other
one_work port one other events last same =
    work_is port one other
    (one_place (TellsWorkTo port) last.older same.older (Attended port one) (Attended port other) last.since same.since (one, refl)
    (other, refl) (none_told port last.since last.unsettled) (none_told port same.since same.unsettled) (sym last.split ∙ same.split)).1

-- a device that is not lost shows no page
pub rest_connected : (e : Event) (events : List Event) → AreConnected (e ∷ events) → AreConnected events
rest_connected (Page port connection octets) events connected = absurd connected
rest_connected (Lost port connection request) events connected = absurd connected
rest_connected e events connected = connected

none_shown : (events : List Event) → AreConnected events → Each (λ e. TellsPage e → ⊥) events
none_shown [] connected = tt
none_shown (e ∷ events) connected = (
  (λ is. subst (λ (d : Event). AreConnected (d ∷ events)) is.3 connected),
  none_shown events (rest_connected e events connected),
)

octets_are : (port on connection : ℕ) (octets others : List ℕ) → Page port on octets ≡ Page port connection others → octets ≡ others
octets_are port on connection octets others same = cc

-- it showed one page last
pub one_page : (port on connection : ℕ) (page other : PageValue) (events : List Event) → HasPage port on page events
    → HasPage port connection other events → page ≡ other
one_page port on connection page other events shown same =
    shown.page_is
    ∙ (ap page_of (octets_are port on connection shown.octets same.octets
    (one_place TellsPage shown.before same.before (Page port on shown.octets) (Page port connection same.octets) shown.since same.since
    (port, on, shown.octets, refl) (port, connection, same.octets, refl) (none_shown shown.since shown.connected)
    (none_shown same.since same.connected) (sym shown.split ∙ same.split)).1) ∙ sym same.page_is)

-- it is judged by one work and one page
pub one_judgement : (port : ℕ) (fault other : Option IdentFault) (events : List Event) → IsJudged port fault events
    → IsJudged port other events
    → fault ≡ other
one_judgement port fault other events is same =
    sym is.judged
    ∙ (ap (λ (w : Work). ident_fault w.config is.page) (one_work port is.work same.work events is.last same.last)
    ∙ (ap (ident_fault same.work.config) (one_page port is.connection same.connection is.page same.page events is.shown same.shown)
    ∙ same.judged))

-- a port that is judged by its page is not off
true_false : true ≡ false → ⊥
true_false same = cc

pub judged_not_off : (port : ℕ) (fault : Option IdentFault) (events : List Event) → IsJudged port fault events → IsOff port events → ⊥
judged_not_off port fault events is off =
    true_false (sym is.manual ∙ (ap (λ (w : Work). is_manual w.config.mode) (one_work port is.work off.work events is.last off.last)
    ∙ off.manual))
