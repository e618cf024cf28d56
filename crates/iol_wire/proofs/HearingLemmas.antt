-- Lines that are passed over, one after another.
use Rattle.std.proofs.Common.{◌≡◌, ◌+◌, ◌-◌, ◌≤◌, ℕ, List, [], ◌∷◌, ◌++◌, length, take, flat_map, refl, sym, ap, inl, inr, ◌∙◌, arith}
use Rattle.std.specs.List.{cons_option}
use Rattle.std.proofs.lemmas.Grind.{flat_map-append}
use Rattle.std.proofs.lemmas.List.{append-nil, append_assoc, length-append, length-take, map-append, take-append-le, take_all}
use Rattle.std.proofs.lemmas.Bool.{cases_lt}
use Rattle.std.proofs.Math.Seq.{take-nil, take-append-add}
use Rattle.std.proofs.lemmas.List.Elements.{All-push, filter_map-append}
use Rattle.iol_wire.specs.declared.events.TheConstants.{KEPT_EVENTS}
use Rattle.iol_wire.specs.declared.line.Line.{Line}
use Rattle.iol_wire.specs.declared.line.Line.TheVariants.{Event, Answer}
use Rattle.iol_wire.specs.declared.line.Reply.{Reply}
use Rattle.iol_wire.specs.declared.transport.Position.{Position}
use Rattle.iol_wire.specs.Events.{kept}
use Rattle.iol_wire.specs.Hearing.{IsRest, IsWhole, Passes, Passing, code_of, codes_in, ended, received}
use Rattle.iol_wire.specs.Lines.{meaning}
use Rattle.iol_wire.specs.Transport.{TransportCall, Received, Run}
use Rattle.iol_wire.proofs.RunLemmas.{run_join}

module _ (number : ℕ) (start : Position) where
  -- only the rest of a line
  pub passing_none : (dropped : List ℕ) → IsRest start dropped → Passing number start dropped []
  passing_none dropped rest = record {
    dropped = dropped;
    lines = [];
    parts = sym (append-nil dropped);
    rest = rest;
    whole = λ k d within. absurd (omega arith);
    passed = λ k d within. absurd (omega arith);
    in_order = refl;
  }

  pub no_lines : (dropped : List ℕ) (rest : IsRest start dropped) → length (passing_none dropped rest).lines ≡ 0
  unfolding passing_none
  no_lines dropped rest = refl

  -- one more line
  pub passing_more : (heard codes line : List ℕ) → Passing number start heard codes → IsWhole line → Passes number (meaning line)
      → Passing number start (heard ++ ended line) (codes ++ codes_in (line ∷ []))
  passing_more heard codes line passing whole passes =
      let lines : List (List ℕ) = passing.lines in
      let one : flat_map ended (line ∷ []) ≡ ended line = append-nil (ended line) in
      record {
        dropped = passing.dropped;
        lines = lines ++ line ∷ [];
        parts =
            ap (λ (before : List ℕ). before ++ ended line) passing.parts
            ∙ (append_assoc passing.dropped (flat_map ended lines) (ended line)
            ∙ ap (λ (after : List ℕ). passing.dropped ++ after)
            (sym (flat_map-append ended lines (line ∷ []) ∙ ap (λ (last : List ℕ). flat_map ended lines ++ last) one)));
        rest = passing.rest;
        whole = All-push IsWhole lines line passing.whole whole;
        passed = All-push (λ (one : List ℕ). Passes number (meaning one)) lines line passing.passed passes;
        in_order =
            ap (λ (before : List ℕ). before ++ codes_in (line ∷ [])) passing.in_order
            ∙ sym (filter_map-append (λ (one : List ℕ). code_of (meaning one)) lines (line ∷ []));
      }

  pub more_lines : (heard codes line : List ℕ) (passing : Passing number start heard codes) (whole : IsWhole line)
      (passes : Passes number (meaning line))
      → length (passing_more heard codes line passing whole passes).lines ≡ length passing.lines + 1
  unfolding passing_more
  more_lines heard codes line passing whole passes = length-append passing.lines (line ∷ [])

-- events that all fit, and then others
join_fits : (events early late : List ℕ) → length early ≤ KEPT_EVENTS - length events
    → kept (kept events early) late ≡ kept events (early ++ late)
join_fits events early late fits =
    let rest : ℕ = KEPT_EVENTS - length events - length early in
    let all : take (KEPT_EVENTS - length events) early ≡ early = take_all (KEPT_EVENTS - length events) early fits in
    let places : KEPT_EVENTS - length events ≡ length early + rest = omega arith in
    let left : KEPT_EVENTS - length (events ++ early) ≡ rest = rw length-append (omega arith) in
    let both : take (KEPT_EVENTS - length events) (early ++ late) ≡ early ++ take rest late =
    ap (λ (count : ℕ). take count (early ++ late)) places ∙ take-append-add early late rest in
    rw all (rw left (rw both (append_assoc events early (take rest late))))

-- events that do not all fit, and then others
join_full : (events early late : List ℕ) → KEPT_EVENTS - length events ≤ length early
    → kept (kept events early) late ≡ kept events (early ++ late)
join_full events early late full =
    let places : ℕ = KEPT_EVENTS - length events in
    let count : length (events ++ take places early) ≡ length events + places =
    rw length-append (rw length-take (omega arith)) in
    let none : KEPT_EVENTS - length (events ++ take places early) ≡ 0 = rw count (omega arith) in
    let first : take places (early ++ late) ≡ take places early = take-append-le places early late full in
    rw none (rw first (append-nil (events ++ take places early)))

-- events after others
pub kept_join : (events early late : List ℕ) → kept (kept events early) late ≡ kept events (early ++ late)
kept_join events early late =
    elim (cases_lt (KEPT_EVENTS - length events) (length early)) [
      | inl more ↦ join_full events early late (omega arith)
      | inr fits ↦ join_fits events early late fits
    ]

pub kept_none : (events : List ℕ) → events ≡ kept events []
kept_none events = sym (rw take-nil (append-nil events))

-- a run that receives these octets, and then those
pub run_received : {T : Type 0} (moves : T → TransportCall → T → Type 0) (old middle new : T) (early late : List ℕ)
    → Run moves old (received early) middle → Run moves middle (received late) new → Run moves old (received (early ++ late)) new
run_received moves old middle new early late first second =
    rw map-append (run_join moves old middle new (received early) (received late) first second)

-- the codes of one line
pub event_codes : (line : List ℕ) (code : ℕ) → meaning line ≡ Event code → codes_in (line ∷ []) ≡ code ∷ []
event_codes line code means = ap (λ (one : Line). cons_option (code_of one) []) means

pub answer_codes : (line : List ℕ) (number : ℕ) (reply : Reply) → meaning line ≡ Answer number reply → codes_in (line ∷ []) ≡ []
answer_codes line number reply means = ap (λ (one : Line). cons_option (code_of one) []) means

module _ {T : Type 0} (moves : T → TransportCall → T → Type 0) (old middle new : T) where
  -- a run that receives lines, and then a part of one
  pub run_part : (heard part : List ℕ) (ending : List TransportCall) → Run moves old (received heard) middle
      → Run moves middle (received part ++ ending) new → Run moves old (received (heard ++ part) ++ ending) new
  run_part heard part ending first second =
      let calls : received (heard ++ part) ++ ending ≡ received heard ++ (received part ++ ending) =
      ap (λ (all : List TransportCall). all ++ ending) (map-append Received heard part)
      ∙ append_assoc (received heard) (received part) ending in
      rw calls (run_join moves old middle new (received heard) (received part ++ ending) first second)

  -- a run that receives lines, and then nothing more
  pub run_no_part : (heard : List ℕ) → Run moves old (received heard) new → Run moves old (received (heard ++ []) ++ []) new
  run_no_part heard first =
      let calls : received (heard ++ []) ++ [] ≡ received heard =
      append-nil (received (heard ++ [])) ∙ ap received (append-nil heard) in
      rw calls first
