-- The lines of one more event, given what was reported before it.
use Rattle.std.proofs.Common.{◌≡◌, ℕ, ◌+◌, ◌<◌, List, [], ◌∷◌, ◌++◌, length, take, get_or, sym, ap, ◌∙◌, append_assoc, append-nil, arith}
use Rattle.std.proofs.lemmas.List.{length-take-le, take_more}
use Rattle.iol_journal.specs.Geometry.{Geometry}
use Rattle.iol_run.specs.declared.run.Stamped.{Stamped}
use Rattle.iol_explain.specs.DiskLines.{between, calls_before}
use Rattle.iol_explain.specs.Explained.{next_telling, next_text, told_lines, told_text, telling_after}
use Rattle.iol_explain.specs.Telling.{after, first}
use Rattle.iol_explain.specs.declared.telling.Telling.{Telling}
use Rattle.iol_explain.specs.declared.told_disk.ToldCall.{ToldCall}

-- the events up to a place, and the event at it
next_events : (events : List Stamped) (i : ℕ) (item : Stamped) → i < length events → get_or events i item ≡ item
    → take (i + 1) events ≡ take i events ++ item ∷ []
next_events events i item within is = take_more events i item within ∙ ap (λ (s : Stamped). take i events ++ s ∷ []) is

-- `i` events come before place `i`
place_is : (events : List Stamped) (i : ℕ) → i < length events → i ≡ 0 + length (take i events)
place_is events i within = omega (arith, length-take-le i events (omega arith))

module _ (before : List ℕ) where
  telling_more : (telling : Telling) (place : ℕ) (events : List Stamped) (stamped : Stamped) (last : ℕ) → last ≡ place + length events
      → telling_after before telling place (events ++ stamped ∷ [])
      ≡ next_telling before (telling_after before telling place events) last stamped
  telling_more telling place [] stamped last is =
      let same : place ≡ last = omega arith in ap (λ (p : ℕ). next_telling before telling p stamped) same
  telling_more telling place (e ∷ events) stamped last is =
      telling_more (next_telling before telling place e) (place + 1) events stamped last (omega arith)

  pub telling_next : (events : List Stamped) (i : ℕ) (item : Stamped) (telling : Telling) (told : ℕ) → i < length events
      → get_or events i item ≡ item → telling ≡ telling_after before first 0 (take i events) → told ≡ calls_before before telling.calls i
      → after telling told item ≡ telling_after before first 0 (take (i + 1) events)
  telling_next events i item telling told within is at counted =
      ap (λ (n : ℕ). after telling n item) counted
      ∙ (ap (λ (t : Telling). next_telling before t i item) at
      ∙ sym (ap (telling_after before first 0) (next_events events i item within is)
      ∙ telling_more first 0 (take i events) item i (place_is events i within)))

  module _ (geometry : Geometry) (calls : List ToldCall) where
    told_more : (telling : Telling) (place : ℕ) (events : List Stamped) (stamped : Stamped) (last : ℕ) → last ≡ place + length events
        → told_lines before geometry calls telling place (events ++ stamped ∷ [])
        ≡ told_lines before geometry calls telling place events
        ++ next_text before geometry calls (telling_after before telling place events) last stamped
    told_more telling place [] stamped last is =
        let same : place ≡ last = omega arith in
        append-nil (next_text before geometry calls telling place stamped)
        ∙ ap (λ (p : ℕ). next_text before geometry calls telling p stamped) same
    told_more telling place (e ∷ events) stamped last is =
        let text = next_text before geometry calls telling place e in
        let next = next_telling before telling place e in
        ap (λ (rest : List ℕ). text ++ rest) (told_more next (place + 1) events stamped last (omega arith))
        ∙ sym (append_assoc text (told_lines before geometry calls next (place + 1) events)
        (next_text before geometry calls (telling_after before next (place + 1) events) last stamped))

    pub told_next : (events : List Stamped) (i : ℕ) (item : Stamped) (telling : Telling) (told : ℕ) (since : List ToldCall)
        → i < length events → get_or events i item ≡ item → telling ≡ telling_after before first 0 (take i events)
        → told ≡ calls_before before telling.calls i → since ≡ between calls telling.calls told
        → told_lines before geometry calls first 0 (take i events) ++ told_text geometry since telling item
        ≡ told_lines before geometry calls first 0 (take (i + 1) events)
    told_next events i item telling told since within is at counted since_is =
        let lines = told_lines before geometry calls first 0 (take i events) in
        ap (λ (cs : List ToldCall). lines ++ told_text geometry cs telling item)
        (since_is ∙ ap (λ (n : ℕ). between calls telling.calls n) counted)
        ∙ (ap (λ (t : Telling). lines ++ next_text before geometry calls t i item) at
        ∙ sym (ap (told_lines before geometry calls first 0) (next_events events i item within is)
        ∙ told_more first 0 (take i events) item i (place_is events i within)))
