-- A port that is settled after a page keeps that page.
use Rattle.std.proofs.Common.{◌≡◌, ◌⊎◌, inl, inr, ℕ, Bool, true, false, if◌then◌else◌, List, refl, sym, ap, ◌∙◌, subst, arith}
use Rattle.std.proofs.lemmas.Bool.Decides.{nat_tests}
use Rattle.std.specs.Prelude.{Option, Some, None, ◌==◌, ◌&&◌}
use Rattle.iol_types.specs.Config.{is_manual, restores}
use Rattle.iol_link.specs.Page.{PageValue, page_of}
use Rattle.iol_link.specs.Validation.{ident_fault}
use Rattle.iol_link.specs.declared.validation.IdentFault.{IdentFault}
use Rattle.iol_core.specs.declared.port.Work.{Work}
use Rattle.iol_transfer.specs.declared.repeats.TheConstants.{MOST_REQUESTS}
use Rattle.iol_port.specs.Heard.{same_flag, same_page, settled_with, found_by, judged, page_heard, fed, moved}
use Rattle.iol_port.specs.History.{Did, Happens}
use Rattle.iol_port.specs.Laws.{page_at}
use Rattle.iol_port.specs.Stage.{Stage, Settled, Paging, Exchanging, Returning, PortValue, Next, To, Start, machine_at}
use Rattle.iol_port.specs.Wanted.{ThePage, wanted, after_action}
use Rattle.iol_port.specs.declared.action.Input.TheVariants as input
use Rattle.iol_port.specs.declared.stage.ExchangeFor.TheVariants as exchange
use Rattle.iol_port.specs.declared.stage.Held.TheVariants as held
use Rattle.iol_port.specs.declared.stage.PageFor.{PageFor}
use Rattle.iol_port.specs.declared.stage.PageFor.TheVariants as page_for
use Rattle.iol_port.specs.declared.stage.Rest.{Rest}
use Rattle.iol_port.specs.declared.stage.Rest.TheVariants as rest

-- both of two tests
both : (one other : Bool) → (one && other) ≡ true → (one ≡ true) × (other ≡ true)
both true other is = (refl, is)
both false other is = absurd cc

equal_is : (one other : ℕ) → (one == other) ≡ true → one ≡ other
equal_is one other test = grind (arith, nat_tests, test)

flag_is : (one other : Bool) → same_flag one other ≡ true → one ≡ other
flag_is true true is = refl
flag_is true false is = absurd cc
flag_is false true is = absurd cc
flag_is false false is = refl

abbrev page_with : ℕ → ℕ → ℕ → ℕ → Bool → PageValue
page_with vendor device revision cycle isdu =
    record { vendor = vendor; device = device; revision = revision; min_cycle_time = cycle; has_isdu = isdu }

fields_are : (vendor vendors device devices revision revisions cycle cycles : ℕ) (isdu isdus : Bool) → vendor ≡ vendors → device ≡ devices
    → revision ≡ revisions → cycle ≡ cycles → isdu ≡ isdus
    → page_with vendor device revision cycle isdu ≡ page_with vendors devices revisions cycles isdus
fields_are vendor vendors device devices revision revisions cycle cycles isdu isdus first second third fourth fifth = cc

-- pages that are the same in every field are one page
pages_are : (one other : PageValue) → same_page one other ≡ true → one ≡ other
pages_are one other is =
    let fourth = both _ (same_flag one.has_isdu other.has_isdu) is in
    let third = both _ (one.min_cycle_time == other.min_cycle_time) fourth.0 in
    let second = both _ (one.revision == other.revision) third.0 in
    let first = both (one.vendor == other.vendor) (one.device == other.device) second.0 in
    let vendor = equal_is one.vendor other.vendor first.0 in
    let device = equal_is one.device other.device first.1 in
    let revision = equal_is one.revision other.revision second.1 in
    let cycle = equal_is one.min_cycle_time other.min_cycle_time third.1 in
    let isdu = flag_is one.has_isdu other.has_isdu fourth.1 in
    fields_are one.vendor other.vendor one.device other.device one.revision other.revision one.min_cycle_time other.min_cycle_time
    one.has_isdu other.has_isdu
    vendor device revision cycle isdu

kept_is : (own : Rest) (page : PageValue) → settled_with own page ≡ true → page_at own ≡ Some page
kept_is (rest.Ready own) page is = ap Some (pages_are own page is)
kept_is (rest.ReadyLocked own) page is = ap Some (pages_are own page is)
kept_is (rest.ReadyEmpty own) page is = ap Some (pages_are own page is)
kept_is (rest.Mismatch why own) page is = ap Some (pages_are own page is)
kept_is rest.Off page is = absurd cc
kept_is rest.Lost page is = absurd cc
kept_is (rest.Failed why) page is = absurd cc

-- a port that is settled is off, or keeps this page
abbrev Keeps : PageValue → Stage → Type 0
Keeps page (Settled own) = (own ≡ rest.Off) ⊎ (page_at own ≡ Some page)
Keeps page stage = Unit {0}

keeps_of : (page : PageValue) (stage : Stage) (own : Rest) → stage ≡ Settled own → Keeps page stage
    → (own ≡ rest.Off) ⊎ (page_at own ≡ Some page)
keeps_of page stage own settles keeps = subst (Keeps page) settles keeps

abbrev GoesKeeping : PageValue → Next → Type 0
GoesKeeping page (To stage) = Keeps page stage
GoesKeeping page (Start work) = Unit {0}

found_keeps : (work : Work) (connection : ℕ) (page : PageValue) → Keeps page (found_by work connection page)
found_keeps work connection page = by (restores work.config.validation)
  where
    by : (test : Bool) → Keeps page
        (if test then Exchanging (exchange.ReadingState (record { work = work; page = page; connection = connection }) MOST_REQUESTS)
        else Settled (rest.Ready page))
    by true = tt
    by false = inr refl

judged_keeps : (work : Work) (connection : ℕ) (page : PageValue) (why : Option IdentFault) → Keeps page (judged work connection page why)
judged_keeps work connection page None = found_keeps work connection page
judged_keeps work connection page (Some why) = inr refl

heard_keeps : (what : PageFor) (connection : ℕ) (page : PageValue) → GoesKeeping page (page_heard what connection page)
heard_keeps (page_for.Comparing work own) connection page = by (settled_with own page) refl
  where
    by : (test : Bool) → settled_with own page ≡ test → GoesKeeping page (if test then To (Settled own) else Start work)
    by true same = inr (kept_is own page same)
    by false same = tt
heard_keeps (page_for.Identifying work) connection page = judged_keeps work connection page (ident_fault work.config page)

moved_keeps : (page : PageValue) (value : PortValue) (next : Next) → GoesKeeping page next → Keeps page (moved value next).stage
moved_keeps page value (To stage) keeps = keeps
moved_keeps page value (Start work) keeps = by (is_manual work.config.mode)
  where
    by : (test : Bool) → Keeps page (if test then Paging (page_for.Identifying work) else Settled rest.Off)
    by true = tt
    by false = inl refl

-- a port that wants a page reads it
paging_only : (port : ℕ) (stage : Stage) → ThePage ≡ wanted port stage → (what : PageFor) × (stage ≡ Paging what)
paging_only port (Paging what) wants = (what, refl)
paging_only port (Returning (held.Upload permit) own) wants = absurd cc
paging_only port (Returning (held.Download permit) own) wants = absurd cc
paging_only port stage wants = absurd cc

pub a_settled_port_keeps_its_page : (connection : ℕ) (octets : List ℕ) (old new : PortValue) (own : Rest)
    → Happens old (Did ThePage (input.Page connection octets)) new → new.stage ≡ Settled own
    → (own ≡ rest.Off) ⊎ (page_at own ≡ Some (page_of octets))
a_settled_port_keeps_its_page connection octets old new own happens settles =
    by old.stage (paging_only old.port old.stage happens.0) happens.2
  where
    by : (stage : Stage) → (what : PageFor) × (stage ≡ Paging what)
        → new ≡ fed (machine_at old.port old.started_revision old.upload_requested (after_action stage))
        (input.Page connection octets)
        → (own ≡ rest.Off) ⊎ (page_at own ≡ Some (page_of octets))
    by stage (what, at) same =
        let value : PortValue = machine_at old.port old.started_revision old.upload_requested (Paging what) in
        let is : new ≡ moved value (page_heard what connection (page_of octets)) =
        same ∙ ap (λ (at : Stage). fed (machine_at old.port old.started_revision old.upload_requested (after_action at))
        (input.Page connection octets)) at in
        keeps_of (page_of octets) new.stage own settles
        (subst (λ (value : PortValue). Keeps (page_of octets) value.stage) (sym is)
        (moved_keeps (page_of octets) value (page_heard what connection (page_of octets))
        (heard_keeps what connection (page_of octets))))
