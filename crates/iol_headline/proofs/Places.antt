-- What holds of each event, event by event.
use Rattle.std.proofs.Common.{List, [], ◌∷◌, ◌++◌, sym, subst, append_assoc, append-nil}
use Rattle.iol_core.specs.Events.{Event, Stamp}
use Rattle.iol_headline.specs.Places.{Everywhere}

module _ (Holds : List Stamp → Event → Type 0) where
  -- this holds of each of these events, after those before them
  abbrev pub EachFrom : List Stamp → List Stamp → Type 0
  EachFrom before [] = Unit {0}
  EachFrom before (e ∷ events) = Holds before e.event × EachFrom (before ++ e ∷ []) events

  -- this holds of more events
  pub each_append : (before events more : List Stamp) → EachFrom before events → EachFrom (before ++ events) more
      → EachFrom before (events ++ more)
  each_append before [] more each rest = subst (λ (b : List Stamp). EachFrom b more) (append-nil before) rest
  each_append before (e ∷ events) more each rest = (
    each.0,
    each_append (before ++ e ∷ []) events more each.1
        (subst (λ (b : List Stamp). EachFrom b more) (sym (append_assoc before (e ∷ []) events)) rest),
  )

  -- what holds of each event in turn holds at every place
  each_at : (begin before behind : List Stamp) (e : Stamp) → EachFrom begin (before ++ e ∷ behind) → Holds (begin ++ before) e.event
  each_at begin [] behind e each = subst (λ (b : List Stamp). Holds b e.event) (sym (append-nil begin)) each.0
  each_at begin (d ∷ before) behind e each =
      subst (λ (b : List Stamp). Holds b e.event) (append_assoc begin (d ∷ []) before) (each_at (begin ++ d ∷ []) before behind e each.1)

  pub everywhere : (events : List Stamp) → EachFrom [] events → Everywhere Holds events
  everywhere events each before behind e split = each_at [] before behind e (subst (λ (es : List Stamp). EachFrom [] es) split each)
