-- More events of a link after those of a run.
use Rattle.std.proofs.Common.{◌≡◌, refl, ℕ, List, [], ◌∷◌, ◌++◌, ap, sym, ◌∙◌, append_assoc}
use Rattle.iol_link.proofs.Runs.{run-append}
use Rattle.iol_link.specs.Link.{Answered, LinkCall, LinkAnswer}
use Rattle.iol_core.specs.Events.{Stamp}
use Rattle.iol_core.specs.Links.{call_told, calls_told, if_told, without_events, IsLinkRun}

pub calls-append : (port : ℕ) (events more : List Stamp) → calls_told port (events ++ more) ≡ calls_told port events ++ calls_told port more
calls-append port [] more = refl
calls-append port (e ∷ events) more =
    ap (λ (cs : List Answered). call_told port e.event ++ cs) (calls-append port events more)
    ∙ sym (append_assoc (call_told port e.event) (calls_told port events) (calls_told port more))

pub without-append : (early late : List Answered) → without_events (early ++ late) ≡ without_events early ++ without_events late
without-append [] late = refl
without-append (made ∷ early) late =
    ap (λ (cs : List Answered). if_told made.call made ++ cs) (without-append early late)
    ∙ sym (append_assoc (if_told made.call made) (without_events early) (without_events late))

module _ {L : Type 0} (number : L → ℕ) (steps : L → LinkCall → LinkAnswer → L → Type 0) where
  -- a run, and another one after it
  pub joined : (port : ℕ) (events more : List Stamp) (first middle last : L) → IsLinkRun number steps port events first middle
      → IsLinkRun number steps port more middle last → IsLinkRun number steps port (events ++ more) first last
  joined port events more first middle last early late = record {
    made = early.made ++ late.made;
    run = run-append number steps first middle last early.made late.made early.run late.run;
    told =
        without-append early.made late.made
        ∙ (ap (λ (cs : List Answered). cs ++ without_events late.made) early.told
        ∙ (ap (λ (cs : List Answered). calls_told port events ++ cs) late.told
        ∙ sym (calls-append port events more)));
  }

  -- a link that is not called, if nothing is reported of it
  pub untouched : (port : ℕ) (more : List Stamp) (link : L) → calls_told port more ≡ [] → IsLinkRun number steps port more link link
  untouched port more link none = record { made = []; run = refl; told = sym none }
