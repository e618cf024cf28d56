use Rattle.std.proofs.Common.{◌≡◌, List, [], ◌∷◌, ◌++◌, sym}
use Rattle.std.specs.Prelude.{None}
use Rattle.iol_core.specs.Events.{Event, Attended, Changed, stamped}
use Rattle.iol_core.specs.Own.{own}
use Rattle.iol_core.specs.Statuses.{Work, Ready}
use Rattle.iol_headline.proofs.OnePlace.{Each, one_place}
use Rattle.iol_headline.proofs.examples.settling_twice_is_refused.Goals as goal
use Rattle.iol_headline.specs.Examples.{ended}
use Rattle.iol_headline.specs.Settled.{IsUnsettled, AreUnsettled, WasToldLast, IsJudged}

-- an event reports a work, or that a port has settled
abbrev Settles : Event → Type 0
Settles e = IsUnsettled e → ⊥

none_settles : (events : List Event) → AreUnsettled events → Each (λ e. Settles e → ⊥) events
none_settles [] unsettled = tt
none_settles (e ∷ events) unsettled = ((λ settles. settles unsettled.0), none_settles events unsettled.1)

no_status : (work : Work) → Attended 1 work ≡ Changed 1 Ready → ⊥
no_status work same = cc

not_since : (work : Work) → WasToldLast 1 work (own 1 (stamped 7 ended) ++ Changed 1 Ready ∷ []) → ⊥
not_since work last =
    no_status work (one_place Settles last.older (own 1 (stamped 7 ended)) (Attended 1 work) (Changed 1 Ready) last.since [] (λ none. none)
    (λ none. none) (none_settles last.since last.unsettled) tt (sym last.split)).1

refused : IsJudged 1 None (own 1 (stamped 7 (ended ++ Changed 1 Ready ∷ []))) → ⊥
refused is = not_since is.work is.last

pub returns : goal.returns
returns c law = refused law
