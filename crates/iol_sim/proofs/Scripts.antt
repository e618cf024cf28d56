-- A script gives its answers in order.
use Rattle.std.proofs.Common.{◌≡◌, ℕ, ◌+◌, ◌-◌, ◌<◌, ◌≤◌, Option, None, Bool, true, false, cond, List, [], ◌∷◌, ◌++◌, length, take, map}
use Rattle.std.proofs.Common.{refl, ap, sym, ◌∙◌, subst, arith, append_assoc, suc}
use Rattle.std.specs.Prelude.{◌==◌, nat_lt, min, replicate, All}
use Rattle.std.proofs.lemmas.Bool.Decides.{nat_tests}
use Rattle.std.proofs.lemmas.List.{append-nil}
use Rattle.std.proofs.Math.Seq.{take-nil}
use Rattle.std.proofs.lemmas.List.Elements.{All-head, All-tail}
use Rattle.iol_link.specs.declared.parts.TheConstants.{ISDU_OCTETS}
use Rattle.iol_link.specs.Link.{Exchange, LinkAnswer, Octets, Gone, Answered, Run, last_connection}
use Rattle.iol_sim.specs.Script.{Script, ScriptStep, NextStep, AnswersInOrder, has_no_answer}

-- runs of a script, and the calls that they make
abbrev pub Runs : Script → List Answered → Script → Type 0
Runs = Run (λ s. s.connection) ScriptStep

abbrev script_of : List (List ℕ) → List (List ℕ) → Option (List ℕ) → List ℕ → ℕ → Script
script_of left requests page events connection =
    record { left = left; requests = requests; page = page; events = events; connection = connection }

abbrev answers_of : List Answered → List LinkAnswer
answers_of made = map (λ m. m.answer) made

abbrev Asks : List Answered → List (List ℕ) → Type 0
Asks made requests = map (λ m. m.call) made ≡ map Exchange requests

-- if no answer is left, every request is lost
unanswered : (b : Bool) (old new : Script) (request : List ℕ) (answer : LinkAnswer)
    → NextStep old (cond b [] []) request answer new → NextStep old [] request answer new
unanswered true old new request answer h = h
unanswered false old new request answer h = h

-- if no answer is left, each exchange is lost
emptied : (kept : List (List ℕ)) (page : Option (List ℕ)) (events : List ℕ) (connection : ℕ) (last : Script) (made : List Answered)
    (requests : List (List ℕ)) → connection ≤ last_connection
    → Runs (script_of [] kept page events connection) made last → Asks made requests
    → AnswersInOrder (script_of [] kept page events connection) requests (answers_of made) last
emptied kept page events connection last [] [] within run asks =
    let P : Script → Type 0 = λ s. AnswersInOrder (script_of [] kept page events connection) [] [] s in
    subst P run (record { in_order = refl; kept = sym (append-nil kept); connection = omega arith })
emptied kept page events connection last [] (r ∷ rs) within run asks = cc
emptied kept page events connection last (m ∷ ms) [] within run asks = cc
emptied kept page events connection last (m ∷ ms) (r ∷ rs) within run asks =
    let call : m.call ≡ Exchange r = cc in
    let rest : Asks ms rs = cc in
    let old = script_of [] kept page events connection in
    let step = subst (λ c. ScriptStep old c m.answer run.0) call run.2 in
    let s = unanswered (has_no_answer old r) old run.0 r m.answer step in
    let after = subst (λ n. Runs n ms last) s.1 run.3 in
    let h = emptied kept None [] (min (connection + 1) last_connection) last ms rs
    (omega arith) after rest in
    let all = h.in_order
    ∙ ap (λ t. t ++ replicate (length rs - 0) Gone) (take-nil {A = LinkAnswer} (length rs)) in
    let one : suc (length rs - 0) ≡ suc (length rs) - 0 = omega arith in
    record {
      in_order = ap (λ a. a ∷ answers_of ms) s.0 ∙ ap (λ t. Gone ∷ t) all
          ∙ ap (λ k. replicate k Gone) one;
      kept = h.kept;
      connection = omega (arith, h.connection);
    }

-- if the test says that there is an answer, it is the next one
answered : (b : Bool) (old new : Script) (left : List (List ℕ)) (request : List ℕ)
    (answer : LinkAnswer) → b ≡ false → NextStep old (cond b [] left) request answer new
    → NextStep old left request answer new
answered true old new left request answer is h = cc
answered false old new left request answer is h = h

-- while answers are left, each exchange is answered with the next one
pub answers_in_order : (left kept : List (List ℕ)) (page : Option (List ℕ)) (events : List ℕ) (connection : ℕ)
    (last : Script) (made : List Answered)
    (requests : List (List ℕ)) → connection < last_connection
    → Runs (script_of left kept page events connection) made last → Asks made requests
    → All (λ r. length r ≤ ISDU_OCTETS) requests
    → AnswersInOrder (script_of left kept page events connection) requests (answers_of made) last
answers_in_order [] kept page events connection last made requests within run asks fit =
    emptied kept page events connection last made requests (omega arith) run asks
answers_in_order (o ∷ os) kept page events connection last [] [] within run asks fit =
    let P : Script → Type 0 = λ s. AnswersInOrder (script_of (o ∷ os) kept page events connection) [] [] s in
    let none : 0 ≡ 0 - suc (length os) = omega arith in
    subst P run (record {
      in_order = ap (λ k. replicate k Gone) none;
      kept =
          sym (append-nil kept);
      connection = omega arith;
    })
answers_in_order (o ∷ os) kept page events connection last [] (r ∷ rs) within run asks fit = cc
answers_in_order (o ∷ os) kept page events connection last (m ∷ ms) [] within run asks fit = cc
answers_in_order (o ∷ os) kept page events connection last (m ∷ ms) (r ∷ rs) within run asks fit =
    let call : m.call ≡ Exchange r = cc in
    let rest : Asks ms rs = cc in
    let old = script_of (o ∷ os) kept page events connection in
    let short : length r ≤ ISDU_OCTETS = All-head (λ r. length r ≤ ISDU_OCTETS) r rs fit in
    let on : (connection == last_connection) ≡ false = grind (arith, nat_tests, within) in
    let small : nat_lt ISDU_OCTETS (length r) ≡ false = grind (arith, nat_tests, short) in
    let free : has_no_answer old r ≡ false = rw (on, small) refl in
    let step = subst (λ c. ScriptStep old c m.answer run.0) call run.2 in
    let s = answered (has_no_answer old r) old run.0 (o ∷ os) r m.answer free step in
    let after = subst (λ n. Runs n ms last) s.1 run.3 in
    let h = answers_in_order os (kept ++ r ∷ []) page events connection last ms rs within after rest
    (All-tail (λ r. length r ≤ ISDU_OCTETS) r rs fit) in
    let fewer : length rs - length os ≡ suc (length rs) - suc (length os) = omega arith in
    record {
      in_order = ap (λ a. a ∷ answers_of ms) s.0 ∙ ap (λ t. Octets o ∷ t) h.in_order
          ∙ ap (λ k. Octets o ∷ (take (length rs) (map Octets os) ++ replicate k Gone)) fewer;
      kept = h.kept ∙ append_assoc kept (r ∷ []) (take (length os) rs);
      connection = omega (arith, h.connection, fewer);
    }
