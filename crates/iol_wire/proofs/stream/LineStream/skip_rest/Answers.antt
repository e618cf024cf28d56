use Rattle.std.proofs.Common.{◌+◌, List, [], ◌∷◌, ◌++◌, ℕ, refl, sym, subst, ◌∙◌, ap, inl}
use Rattle.iol_wire.specs.Hearing.{IsRest, ended, received}
use Rattle.iol_wire.specs.Transport.{Unheard}
use Rattle.iol_wire.specs.declared.transport.Position.{Position}
use Rattle.iol_wire.proofs.RunLemmas.{run_more, run_receive, run_line, no_feed_more, one_longer}
use Rattle.iol_wire.proofs.stream.LineStream.skip_rest.Goals as goal

pub returns-in-Ok-eq10-clause-dropped : goal.returns-in-Ok-eq10-clause-dropped
returns-in-Ok-eq10-clause-dropped g c =
    let kept = c.loop.invariant in
    let dropped : List ℕ = kept.dropped.0 in (
      ended dropped,
      subst (λ (position : Position). IsRest position (ended dropped)) (sym kept.began) (dropped, kept.dropped.1, refl),
      run_line g.T.Transport.moves c.args.self.now.transport c.loop.self.transport c.receive.new.self dropped c.in-Ok-eq10.field-0
          c.in-Ok-eq10.field-0-test kept.dropped.3 c.in-Ok-eq10.ensures,
    )

pub returns-in-Err-clause-unended : goal.returns-in-Err-clause-unended
returns-in-Err-clause-unended g c =
    let kept = c.loop.invariant in
    let dropped : List ℕ = kept.dropped.0 in (
      received dropped ++ Unheard ∷ [],
      record {
        dropped = dropped;
        ending = Unheard ∷ [];
        unended = kept.dropped.1;
        breaks = inl refl;
        calls_are = refl;
        within = (kept.began, kept.within);
      },
      run_more g.T.Transport.moves c.args.self.now.transport c.loop.self.transport c.receive.new.self (received dropped) Unheard
          kept.dropped.3 c.in-Err.ensures,
    )

pub loop-preserved : goal.loop-preserved
loop-preserved g c =
    let kept = c.loop.invariant in
    let dropped : List ℕ = kept.dropped.0 in
    record {
      began = kept.began;
      within = kept.within;
      dropped = (
        dropped ++ c.in-Ok.field-0 ∷ [],
        no_feed_more dropped c.in-Ok.field-0 kept.dropped.1 c.in-Ok.field-0-test.1,
        one_longer dropped c.in-Ok.field-0 ∙ ap (λ count. count + 1) kept.dropped.2,
        run_receive g.T.Transport.moves c.args.self.now.transport c.loop.self.transport c.receive.new.self dropped
            c.in-Ok.field-0 kept.dropped.3 c.in-Ok.ensures,
      );
    }
