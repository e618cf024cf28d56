use Rattle.std.proofs.Common.{◌≡◌, ◌+◌, ◌≤◌, List, [], ◌∷◌, ◌++◌, ℕ, length, refl, sym, subst, ◌∙◌, ap, inl, inr}
use Rattle.std.proofs.lemmas.List.{append-nil}
use Rattle.iol_wire.specs.declared.reading.TheConstants.{LINE_OCTETS}
use Rattle.iol_wire.specs.Hearing.{HasNoFeed, position_after, received}
use Rattle.iol_wire.specs.Transport.{Unheard, Run}
use Rattle.iol_wire.proofs.RunLemmas.{run_more, run_receive, run_line, no_feed_more, one_longer, within_line, is_full, has_place}
use Rattle.iol_wire.proofs.stream.LineStream.next_line.Goals as goal

pub returns-in-Ok-eq10-clause-line : goal.returns-in-Ok-eq10-clause-line
returns-in-Ok-eq10-clause-line g c =
    let kept = c.loop.invariant in (
      (kept.no_feed, kept.few),
      run_line g.T.Transport.moves c.args.self.now.transport c.loop.self.transport c.receive.new.self c.loop.line.items
          c.in-Ok-eq10.field-0 c.in-Ok-eq10.field-0-test kept.run c.in-Ok-eq10.ensures,
    )

pub returns-then-is_full-clause-unended : goal.returns-then-is_full-clause-unended
returns-then-is_full-clause-unended g c =
    let kept = c.loop.invariant in
    let line : List ℕ = c.loop.line.items in
    let octet : ℕ = c.in-Ok.octet in (
      line ++ octet ∷ [],
      [],
      (
        no_feed_more line octet kept.no_feed c.in-Ok.octet-test.1,
        within_line line octet,
        inr (refl, one_longer line octet ∙ ap (λ count. count + 1) (is_full (length line) LINE_OCTETS c.if-is_full.ensures.value)),
      ),
      rw (append-nil (received (line ++ octet ∷ [])))
          (run_receive g.T.Transport.moves c.args.self.now.transport c.loop.self.transport c.receive.new.self line octet kept.run
          c.in-Ok.ensures),
    )

pub returns-in-Err-clause-unended : goal.returns-in-Err-clause-unended
returns-in-Err-clause-unended g c =
    let kept = c.loop.invariant in
    let line : List ℕ = c.loop.line.items in (
      line,
      Unheard ∷ [],
      (kept.no_feed, kept.position, inl (refl, kept.few)),
      run_more g.T.Transport.moves c.args.self.now.transport c.loop.self.transport c.receive.new.self (received line) Unheard kept.run
          c.in-Err.ensures,
    )

pub loop-preserved : goal.loop-preserved
loop-preserved g c =
    let kept = c.loop.invariant in
    let line : List ℕ = c.loop.line.items in
    let octet : ℕ = c.in-Ok.octet in
    let pushed : c.push.new.self.items ≡ line ++ octet ∷ [] = c.push.ensures.items in
    record {
      no_feed = subst (λ (items : List ℕ). HasNoFeed items) (sym pushed) (no_feed_more line octet kept.no_feed c.in-Ok.octet-test.1);
      count = ap (λ (items : List ℕ). length items) pushed ∙ (one_longer line octet ∙ ap (λ count. count + 1) kept.count);
      few =
          subst (λ (count : ℕ). count ≤ LINE_OCTETS)
          (sym (ap (λ (items : List ℕ). length items) pushed ∙ one_longer line octet))
          (has_place (length line) LINE_OCTETS c.if-is_full.ensures.value kept.few);
      position = within_line line octet ∙ sym (ap position_after pushed);
      run =
          subst (λ (items : List ℕ). Run g.T.Transport.moves c.args.self.now.transport (received items) c.receive.new.self) (sym pushed)
          (run_receive g.T.Transport.moves c.args.self.now.transport c.loop.self.transport c.receive.new.self line octet kept.run
          c.in-Ok.ensures);
    }
