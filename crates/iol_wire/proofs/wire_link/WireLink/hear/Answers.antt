use Rattle.std.proofs.Common.{◌≡◌, ◌+◌, ◌<◌, [], List, ℕ, ◌∷◌, ◌++◌, refl, sym, ap, subst, inl, inr, ◌∙◌, arith}
use Rattle.std.proofs.lemmas.List.{append-nil}
use Rattle.iol_wire.specs.declared.line.Line.{Line}
use Rattle.iol_wire.specs.declared.line.Line.TheVariants.{Event, Answer}
use Rattle.iol_wire.specs.Events.{kept}
use Rattle.iol_wire.specs.Hearing.{Fails, Passes, codes_in, ended, received}
use Rattle.iol_wire.specs.Lines.{meaning}
use Rattle.iol_wire.specs.Transport.{Run}
use Rattle.iol_wire.proofs.HearingLemmas.{kept_join, kept_none, no_lines, passing_none, passing_more, more_lines, run_received}
use Rattle.iol_wire.proofs.HearingLemmas.{run_part, run_no_part, event_codes, answer_codes}
use Rattle.iol_wire.proofs.wire_link.WireLink.hear.Goals as goal
use Rattle.iol_wire.proofs.wire_link.WireLink.hear.Goals.{in_default-via-in-Answer-2+else-same-number, in_default-via-in_default}
use Rattle.iol_wire.proofs.wire_link.WireLink.hear.Goals.{in-Event, in-Answer}

pub loop-init : goal.loop-init
loop-init g c =
    let skipped = c.in-Ok.ensures.dropped in
    record {
      number = refl;
      connection = refl;
      at_start = c.in-Ok.ensures.at_start;
      heard = (
        skipped.0,
        [],
        passing_none c.args.number c.args.self.now.stream.position skipped.0 skipped.1,
        no_lines c.args.number c.args.self.now.stream.position skipped.0 skipped.1,
        skipped.2,
        kept_none c.args.self.now.events.items,
      );
    }

pub returns-in-Err-next_line-clause-heard : goal.returns-in-Err-next_line-clause-heard
returns-in-Err-next_line-clause-heard g c =
    let before = c.loop.invariant.heard in
    let broken = c.in-Err-next_line.ensures.unended in (
      received (before.0 ++ broken.0) ++ broken.1,
      before.1,
      run_part g.T.Transport.moves c.args.self.now.stream.transport c.loop.self.stream.transport c.next_line.new.self.transport
          before.0 broken.0 broken.1 before.4 broken.3,
      inr (inl (record {
        heard = before.0;
        part = broken.0;
        ending = broken.1;
        passing = before.2;
        breaks = inl broken.2;
        calls_are = refl;
      })),
      before.5,
    )

pub returns-in-Answer-2-clause-heard : goal.returns-in-Answer-2-clause-heard
returns-in-Answer-2-clause-heard g c =
    let before = c.loop.invariant.heard in
    let line : List ℕ = c.in-Ok-next_line.line.items in
    let heard = c.in-Ok-next_line.ensures in
    let means : meaning line ≡ Answer c.args.number c.in-Answer.reply =
    ap meaning (sym c.as_slice.ensures.value)
    ∙ (sym c.read_line.ensures ∙ (c.in-Answer.is ∙ ap (λ (number : ℕ). Answer number c.in-Answer.reply) c.if-same-number.true)) in (
      received (before.0 ++ ended line),
      before.1,
      run_received g.T.Transport.moves c.args.self.now.stream.transport c.loop.self.stream.transport c.next_line.new.self.transport
          before.0 (ended line) before.4 heard.line.1,
      record {
        heard = before.0;
        line = line;
        passing = before.2;
        whole = heard.line.0;
        means = means;
        calls_are = refl;
        at_start = heard.at_start;
      },
      before.5,
    )

pub returns-in_default-clause-heard : goal.returns-in_default-clause-heard
returns-in_default-clause-heard g c =
    let before = c.loop.invariant.heard in
    let line : List ℕ = c.in-Ok-next_line.line.items in
    let heard = c.in-Ok-next_line.ensures in
    let read : meaning line ≡ c.read_line.result = ap meaning (sym c.as_slice.ensures.value) ∙ sym c.read_line.ensures in
    let fails : Fails c.args.number (meaning line) =
    elim c.in_default.branch [
      | in_default-via-in-Answer-2+else-same-number w ↦
          let later : c.args.number < w.in-Answer.earlier = omega (arith, w.if-earlier-number.false, w.if-same-number.false) in
          subst (λ (one : Line). Fails c.args.number one) (sym (read ∙ w.in-Answer.is)) later
      | in_default-via-in_default w ↦ subst (λ (one : Line). Fails c.args.number one) (sym (read ∙ w.in_default.is)) tt
    ] in (
      received (before.0 ++ ended line),
      before.1,
      run_received g.T.Transport.moves c.args.self.now.stream.transport c.loop.self.stream.transport c.next_line.new.self.transport
          before.0 (ended line) before.4 heard.line.1,
      inl (record {
        heard = before.0;
        line = line;
        passing = before.2;
        whole = heard.line.0;
        means = fails;
        calls_are = refl;
        at_start = heard.at_start;
      }),
      before.5,
    )

pub loop-preserved : goal.loop-preserved
loop-preserved g c =
    let before = c.loop.invariant.heard in
    let line : List ℕ = c.in-Ok-next_line.line.items in
    let heard = c.in-Ok-next_line.ensures in
    let start = c.args.self.now.stream.position in
    let old : List ℕ = c.args.self.now.events.items in
    let read : meaning line ≡ c.read_line.result = ap meaning (sym c.as_slice.ensures.value) ∙ sym c.read_line.ensures in
    let run : Run g.T.Transport.moves c.args.self.now.stream.transport (received (before.0 ++ ended line)) c.next_line.new.self.transport =
    run_received g.T.Transport.moves c.args.self.now.stream.transport c.loop.self.stream.transport c.next_line.new.self.transport
    before.0 (ended line) before.4 heard.line.1 in
    elim c.match-read_line.branch [
      | in-Event w ↦
          let means : meaning line ≡ Event w.in-Event.code = read ∙ w.in-Event.is in
          let passes : Passes c.args.number (meaning line) = subst (λ (one : Line). Passes c.args.number one) (sym means) tt in
          rw w.self-is (record {
            number = c.loop.invariant.number;
            connection = c.loop.invariant.connection;
            at_start = heard.at_start;
            heard = (
              before.0 ++ ended line,
              before.1 ++ codes_in (line ∷ []),
              passing_more c.args.number start before.0 before.1 line before.2 heard.line.0 passes,
              more_lines c.args.number start before.0 before.1 line before.2 heard.line.0 passes
                  ∙ ap (λ (count : ℕ). count + 1) before.3,
              run,
              w.keep.ensures
                  ∙ (ap (λ (events : List ℕ). kept events (w.in-Event.code ∷ [])) before.5
                  ∙ (kept_join old before.1 (w.in-Event.code ∷ [])
                  ∙ ap (λ (codes : List ℕ). kept old (before.1 ++ codes)) (sym (event_codes line w.in-Event.code means)))),
            );
          })
      | in-Answer w ↦
          let means : meaning line ≡ Answer w.in-Answer.earlier w.in-Answer.reply = read ∙ w.in-Answer.is in
          let passes : Passes c.args.number (meaning line) =
          subst (λ (one : Line). Passes c.args.number one) (sym means) w.if-earlier-number.true in
          let none : before.1 ++ codes_in (line ∷ []) ≡ before.1 =
          ap (λ (codes : List ℕ). before.1 ++ codes) (answer_codes line w.in-Answer.earlier w.in-Answer.reply means)
          ∙ append-nil before.1 in
          rw w.self-is (record {
            number = c.loop.invariant.number;
            connection = c.loop.invariant.connection;
            at_start = heard.at_start;
            heard = (
              before.0 ++ ended line,
              before.1 ++ codes_in (line ∷ []),
              passing_more c.args.number start before.0 before.1 line before.2 heard.line.0 passes,
              more_lines c.args.number start before.0 before.1 line before.2 heard.line.0 passes
                  ∙ ap (λ (count : ℕ). count + 1) before.3,
              run,
              before.5 ∙ ap (λ (codes : List ℕ). kept old codes) (sym none),
            );
          })
    ]

pub returns-clause-heard : goal.returns-clause-heard
returns-clause-heard g c =
    let before = c.loop.invariant.heard in (
      received (before.0 ++ []) ++ [],
      before.1,
      run_no_part g.T.Transport.moves c.args.self.now.stream.transport c.loop.self.stream.transport c.loop.self.stream.transport
          before.0 before.4,
      inr (inl (record {
        heard = before.0;
        part = [];
        ending = [];
        passing = before.2;
        breaks = inr (refl, refl, before.3 ∙ omega arith, c.loop.invariant.at_start);
        calls_are = refl;
      })),
      before.5,
    )
