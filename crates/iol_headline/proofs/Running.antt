-- What a run reports of a port is lawful.
use Rattle.std.proofs.Common.{◌≡◌, ◌⊎◌, inl, inr, ⊎_elim, refl, ℕ, zero, suc, List, [], ◌∷◌, ◌++◌, sym, ap, ◌∙◌, subst, append_assoc}
use Rattle.std.specs.Prelude.{Option, Some, None}
use Rattle.iol_types.specs.State.{State, Port, port_numbered}
use Rattle.iol_core.specs.Core.{CoreView, live}
use Rattle.iol_link.specs.Link.{LinkCall, LinkAnswer}
use Rattle.iol_port.proofs.Leading.{led_is}
use Rattle.iol_port.specs.Heard.{IsFed, at_stage, lost, woken}
use Rattle.iol_port.specs.History.{ComesOf}
use Rattle.iol_port.specs.Stage.{Stage, Settled, Paging, Exchanging, Uploading, Downloading, Breaking, Returning, PortValue}
use Rattle.iol_port.specs.Status.{status_of}
use Rattle.iol_port.specs.Telling.{status_told}
use Rattle.iol_port.specs.Wanted.{Wanted, Nothing, ThePage, AnswerTo, ReplyTo, wanted, after_action}
use Rattle.iol_port.specs.declared.action.Input.{Input}
use Rattle.iol_port.specs.declared.action.Input.TheVariants as input
use Rattle.iol_port.specs.declared.stage.Held.TheVariants as held
use Rattle.iol_port.specs.declared.status.PortStatus.{PortStatus}
use Rattle.iol_engine.proofs.Histories.{Led, acting_led, step_led}
use Rattle.iol_engine.proofs.Quiet.{stamped_both}
use Rattle.iol_engine.specs.PortRuns.{IsPortRun, IsCoreAfter, happened}
use Rattle.iol_engine.specs.PortSteps.{PortStep, Hears, noted_by, awake}
use Rattle.iol_core.specs.Events.{Event, Changed, Stamp, stamped}
use Rattle.iol_core.specs.Own.{own, own_in}
use Rattle.iol_core.specs.Words.{accepted}
use Rattle.iol_headline.proofs.Acting.{fed_goes}
use Rattle.iol_headline.proofs.Going.{StatusTold, Began}
use Rattle.iol_headline.proofs.Lawful.{IsLawfulAt}
use Rattle.iol_headline.proofs.Places.{EachFrom, each_append}
use Rattle.iol_headline.proofs.Resting.{fed_rests}
use Rattle.iol_headline.proofs.Revisions.{stays_there}
use Rattle.iol_headline.proofs.Fitting.{Stands}
use Rattle.iol_headline.proofs.Settling.{SettlesTold}
use Rattle.iol_headline.proofs.Stages.{Told, told_later}
use Rattle.iol_headline.proofs.Talks.{own_one, own_more, own_same, at_own}
use Rattle.iol_headline.proofs.Telling.{acts_lawful, changed_lawful, none_lawful}

-- parts of an empty list are empty
nil_parts : {A : Type 0} (xs ys : List A) → xs ++ ys ≡ [] → (xs ≡ []) × (ys ≡ [])
nil_parts [] ys none = (refl, none)
nil_parts (x ∷ xs) ys none = absurd cc

none_one : {A : Type 0} (xs : List A) (x : A) → xs ≡ [] → xs ≡ x ∷ [] → ⊥
none_one xs x none one = cc

-- an event of the device changes no stage, and a woken machine keeps its status
noted_stage : (event : Option ℕ) (value : PortValue) → (noted_by event value).stage ≡ value.stage
noted_stage None value = refl
noted_stage (Some code) value = refl

woken_status : (stage : Stage) → status_of (woken stage) ≡ status_of stage
woken_status (Settled own) = refl
woken_status stage = refl

module _ (first : ℕ) (start : State) (port : ℕ) where
  -- what holds of an event that is the port's own
  abbrev pub OwnLaw : List Stamp → Event → Type 0
  OwnLaw before e = own_in port e ≡ e ∷ [] → IsLawfulAt first start before e

  -- events that are not the port's own
  pub none_own : (before events : List Stamp) → own port events ≡ [] → EachFrom OwnLaw before events
  none_own before [] none = tt
  none_own before (e ∷ events) none =
      let parts = nil_parts (own_in port e.event) (own port events) none in
      ((λ one. absurd (none_one (own_in port e.event) e.event parts.0 one)), none_own (before ++ e ∷ []) events parts.1)

  -- lawful events, whose they may be
  all_own : (before events : List Stamp) → EachFrom (IsLawfulAt first start) before events → EachFrom OwnLaw before events
  all_own before [] each = tt
  all_own before (e ∷ events) each = ((λ one. each.0), all_own (before ++ e ∷ []) events each.1)

  -- a woken machine knows what it knew
  woken_told : (connection : ℕ) (events : List Stamp) (stage : Stage) → Told first start port connection events stage
      → Told first start port connection events (woken stage)
  woken_told connection events (Settled own) is = tt
  woken_told connection events stage is = is

  woken_stands : (events : List Event) (stage : Stage) → Stands port events stage → Stands port events (woken stage)
  woken_stands events (Settled own) is = tt
  woken_stands events stage is = is

  -- a status that is reported is the port's own
  own_status : (was now : PortStatus) (clock : ℕ) (told : List Event) → StatusTold port was now told → own port (stamped clock told) ≡ told
  own_status was now clock told (inl none) = subst (λ (es : List Event). own port (stamped clock es) ≡ es) (sym none.0) refl
  own_status was now clock told (inr one) =
      subst (λ (es : List Event). own port (stamped clock es) ≡ es) (sym one.0)
      (own_one port clock (Changed port (status_told now)) (at_own port (Changed port (status_told now))))

  -- after a loss nothing is kept
  lost_told : (connection : ℕ) (events : List Stamp) (stage : Stage) → ComesOf (wanted port stage) input.Lost
      → Told first start port connection events (lost (after_action stage))
  lost_told connection events (Paging what) comes = tt
  lost_told connection events (Exchanging what) comes = tt
  lost_told connection events (Uploading grant page upload) comes = tt
  lost_told connection events (Downloading permit page download) comes = tt
  lost_told connection events (Breaking holder why) comes = tt
  lost_told connection events (Returning (held.Upload permit) own) comes = absurd comes
  lost_told connection events (Returning (held.Download permit) own) comes = absurd comes
  lost_told connection events stage comes = absurd comes

  module _ {L : Type 0} (number : L → ℕ) (steps : L → LinkCall → LinkAnswer → L → Type 0) where
    -- the connection stays, but at a loss
    stays : (wants : Wanted) (heard : Input) (link last : L) (old new : CoreView) (called : List Event)
        → Hears number steps port wants heard link last old new called
        → (number last ≡ number link) ⊎ (heard ≡ input.Lost)
    stays Nothing heard link last old new called is = absurd is
    stays ThePage (input.Page c os) link last old new called is = inl is.0.2
    stays ThePage input.Lost link last old new called is = inr refl
    stays ThePage input.Wake link last old new called is = absurd is.0
    stays ThePage (input.Event c) link last old new called is = absurd is.0
    stays ThePage (input.Octets os) link last old new called is = absurd is.0
    stays ThePage (input.Reply r) link last old new called is = absurd is.0
    stays (AnswerTo request) (input.Octets os) link last old new called is = inl is.0.2.1
    stays (AnswerTo request) input.Lost link last old new called is = inr refl
    stays (AnswerTo request) input.Wake link last old new called is = absurd is.0.2
    stays (AnswerTo request) (input.Event c) link last old new called is = absurd is.0.2
    stays (AnswerTo request) (input.Page c os) link last old new called is = absurd is.0.2
    stays (AnswerTo request) (input.Reply r) link last old new called is = absurd is.0.2
    stays (ReplyTo call) heard link last old new called is = inl (ap number is.1)

    -- ---- one step

    module _ (before after : PortValue) (link last : L) (old new : CoreView) (called status : List Event) (events : List Stamp) (clock : ℕ)
        (led : Led port before)
        (core : IsCoreAfter first start events old) (is : PortStep number steps before after link last old new called status)
        (told : Told first start port (number link) events before.stage) (stands : Stands port (own port events) before.stage)
        (there : (p : Port) × (port_numbered start port ≡ Some p)) where
      -- the machine as it acts: it has noted an event of its device, and is awake
      abbrev acting : PortValue
      acting = awake is.noted_value

      -- the stage is as it was
      noted_is : is.noted_value.stage ≡ before.stage
      noted_is = ap (λ (v : PortValue). v.stage) is.hears_event.new_is ∙ noted_stage is.hears_event.event before

      -- the machine was led to where it is
      pub after_led : Led port after
      after_led = (
        happened before is.hears_event.event is.acts.wants is.acts.heard ++ led.0,
        step_led number steps port before after link last old new called status led.0 led.1 is,
      )

      after_port : after.port ≡ port
      after_port = (led_is port after_led.0 after after_led.1).port_is

      module _ (now : Led port acting) where
        acting_port : acting.port ≡ port
        acting_port = (led_is port now.0 acting now.1).port_is

        acting_told : Told first start port (number is.mid) events acting.stage
        acting_told =
            subst (λ (c : ℕ). Told first start port c events (woken is.noted_value.stage)) (sym is.hears_event.same)
            (subst (λ (s : Stage). Told first start port (number link) events (woken s)) (sym noted_is)
            (woken_told (number link) events before.stage told))

        acting_status : status_of acting.stage ≡ status_of before.stage
        acting_status = woken_status is.noted_value.stage ∙ ap status_of noted_is

        shown : StatusTold port (status_of acting.stage) (status_of after.stage) status
        shown = subst (λ (s : PortStatus). StatusTold port s (status_of after.stage) status) (sym acting_status)
            (subst (λ (p : ℕ). ((status ≡ []) × (status_of after.stage ≡ status_of before.stage))
            ⊎ ((status ≡ Changed p (status_told (status_of after.stage)) ∷ []) × (status_of after.stage ≡ status_of before.stage → ⊥)))
            after_port is.told)

        comes : ComesOf (wanted acting.port acting.stage) is.acts.heard
        comes = subst (λ (w : Wanted). ComesOf w is.acts.heard) is.acts.did.0 is.acts.did.1

        hears : Hears number steps acting.port (wanted acting.port acting.stage)
            is.acts.heard is.mid last old new called
        hears = subst (λ (w : Wanted). Hears number steps acting.port w is.acts.heard is.mid last old new called)
            is.acts.did.0 is.acts.hears

        behind : Told first start port (number is.mid) (events ++ stamped clock (called ++ status)) after.stage
            × Began port (events ++ stamped clock called) status
        behind =
            fed_goes number steps first start port events clock is.mid last old new core
            acting after is.acts.heard called acting_port acting_told
            (led_is port now.0 acting now.1).hand comes hears is.acts.did.2 is.acts.did.3 status shown

        acting_stands : Stands port (own port events) acting.stage
        acting_stands = subst (λ (s : Stage). Stands port (own port events) (woken s)) (sym noted_is)
            (woken_stands (own port events) before.stage stands)

        still_there : (p : Port) × (port_numbered (live old) port ≡ Some p)
        still_there =
            let later = stays_there (accepted events) start port there.0 there.1 in
            (later.0, ap (λ (s : State). port_numbered s port) core.live ∙ later.1)

        settled : Stands port (own port (events ++ stamped clock called) ++ status) after.stage
            × SettlesTold port (own port (events ++ stamped clock called)) status
        settled =
            fed_rests number steps first start port events clock is.mid last old new core still_there
            acting after is.acts.heard called acting_port acting_told
            acting_stands (led_is port now.0 acting now.1).hand comes hears is.acts.did.2 status shown

        after_stands : Stands port (own port (events ++ stamped clock (called ++ status))) after.stage
        after_stands =
            subst (λ (es : List Event). Stands port es after.stage)
            (sym (ap (λ (ss : List Stamp). own port (events ++ ss)) (stamped_both clock called status)
            ∙ (ap (own port) (sym (append_assoc events (stamped clock called) (stamped clock status)))
            ∙ own_more port (events ++ stamped clock called) (stamped clock status) status
            (own_status (status_of acting.stage) (status_of after.stage) clock status shown)))) settled.0

        stage_lost : is.acts.heard ≡ input.Lost → Told first start port (number last) (events ++ stamped clock (called ++ status))
            after.stage
        stage_lost lost_is =
            let fed_is = subst (λ (h : Input). IsFed (at_stage acting (after_action acting.stage)) h after)
            lost_is is.acts.did.2 in
            subst (λ (s : Stage). Told first start port (number last) (events ++ stamped clock (called ++ status)) s)
            (sym (ap (λ (v : PortValue). v.stage) fed_is))
            (lost_told (number last) (events ++ stamped clock (called ++ status)) acting.stage
            (subst (λ (p : ℕ). ComesOf (wanted p acting.stage) input.Lost) acting_port
            (subst (λ (h : Input). ComesOf (wanted acting.port acting.stage) h) lost_is comes)))

        after_told : Told first start port (number last) (events ++ stamped clock (called ++ status)) after.stage
        after_told =
            ⊎_elim
            (λ (same : number last ≡ number is.mid). subst
            (λ (c : ℕ). Told first start port c (events ++ stamped clock (called ++ status)) after.stage) (sym same) behind.0)
            (λ (gone : is.acts.heard ≡ input.Lost). stage_lost gone)
            (stays (wanted port acting.stage) is.acts.heard is.mid last old new called
            (subst (λ (p : ℕ). Hears number steps p (wanted p acting.stage) is.acts.heard is.mid last old new called)
            acting_port hears))

        called_lawful : EachFrom (IsLawfulAt first start) events (stamped clock called)
        called_lawful =
            acts_lawful first start number steps port events clock is.mid last old new core
            acting.stage is.acts.heard called acting_told
            (led_is port now.0 acting now.1).hand
            (subst (λ (p : ℕ). ComesOf (wanted p acting.stage) is.acts.heard) acting_port comes)
            (subst (λ (p : ℕ). Hears number steps p (wanted p acting.stage) is.acts.heard is.mid last old new called)
            acting_port hears)

        status_lawful : (at : List Stamp) → Began port at status → SettlesTold port (own port at) status
            → StatusTold port (status_of acting.stage) (status_of after.stage) status
            → EachFrom (IsLawfulAt first start) at (stamped clock status)
        status_lawful at began holds (inl none) = none_lawful first start at clock status none.0
        status_lawful at began holds (inr one) =
            subst (λ (es : List Event). EachFrom (IsLawfulAt first start) at (stamped clock es)) (sym one.0)
            (changed_lawful first start at port (status_told (status_of after.stage)) status one.0 began (holds _ one.0), tt)

        step_lawful : EachFrom (IsLawfulAt first start) events (stamped clock (called ++ status))
        step_lawful =
            subst (λ (es : List Stamp). EachFrom (IsLawfulAt first start) events es) (sym (stamped_both clock called status))
            (each_append (IsLawfulAt first start) events (stamped clock called) (stamped clock status) called_lawful
            (status_lawful (events ++ stamped clock called) behind.1 settled.1 shown))

        pub both : Told first start port (number last) (events ++ stamped clock (called ++ status)) after.stage
            × (Stands port (own port (events ++ stamped clock (called ++ status))) after.stage
            × EachFrom (IsLawfulAt first start) events (stamped clock (called ++ status)))
        both = (after_told, (after_stands, step_lawful))

    -- ---- a run

    -- what holds of a run of a port's machine, and of all that it has reported
    pub record RunTold (machine : PortValue) (link : L) (events : List Stamp) : Type 0 where
      pub led : Led port machine
      pub told : Told first start port (number link) events machine.stage
      pub stands : Stands port (own port events) machine.stage
      pub each : EachFrom OwnLaw [] events

    -- by induction on the steps
    pub run_told : (there : (p : Port) × (port_numbered start port ≡ Some p)) (begun : L) (made : ℕ) (machine : PortValue) (link : L)
        (events : List Stamp) → IsPortRun number steps first start port begun made machine link events
        → RunTold machine link events
    run_told there begun zero machine link events is = record {
      led = ([], is.0);
      told = subst (λ (v : PortValue). Told first start port (number link) events v.stage) (sym is.0) tt;
      stands = subst (λ (v : PortValue). Stands port (own port events) v.stage) (sym is.0) tt;
      each = none_own [] events is.2;
    }
    run_told there begun (suc made) machine link events is =
        let earlier = run_told there begun made is.before is.linked is.earlier is.led in
        let now = acting_led number steps port is.before machine is.linked link is.old is.new is.called is.status earlier.led is.step in
        let step = both is.before machine is.linked link is.old is.new is.called is.status is.earlier is.clock earlier.led is.core is.step
        earlier.told earlier.stands there now in
        record {
          led = after_led is.before machine is.linked link is.old is.new is.called is.status is.earlier is.clock earlier.led is.core is.step
              earlier.told earlier.stands there;
          told = subst (λ (es : List Stamp). Told first start port (number link) es machine.stage) (sym is.told)
              (told_later first start port (number link) (is.earlier ++ stamped is.clock (is.called ++ is.status))
              is.later machine.stage is.others step.0);
          stands = subst (λ (es : List Stamp). Stands port (own port es) machine.stage) (sym is.told)
              (subst (λ (es : List Event). Stands port es machine.stage)
              (sym (own_same port (is.earlier ++ stamped is.clock (is.called ++ is.status)) is.later is.others)) step.1.0);
          each = subst (λ (es : List Stamp). EachFrom OwnLaw [] es) (sym is.told)
              (each_append OwnLaw [] (is.earlier ++ stamped is.clock (is.called ++ is.status)) is.later
              (each_append OwnLaw [] is.earlier (stamped is.clock (is.called ++ is.status)) earlier.each
              (all_own is.earlier (stamped is.clock (is.called ++ is.status)) step.1.1))
              (none_own (is.earlier ++ stamped is.clock (is.called ++ is.status)) is.later is.others));
        }
