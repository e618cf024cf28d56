use Rattle.std.proofs.Common.{◌≡◌, ◌+◌, [], List, ℕ, ◌∷◌, refl, sym, ap, subst, inl, inr, ◌∙◌}
use Rattle.iol_wire.specs.declared.transport.Position.{Position}
use Rattle.iol_wire.specs.Hearing.{Connects}
use Rattle.iol_wire.specs.Requests.{asked_of, request_line}
use Rattle.iol_wire.specs.Transport.{Missing, Sent, Unsent, Run}
use Rattle.iol_wire.specs.Wire.{Wire}
use Rattle.iol_wire.proofs.RunLemmas.{run_join}
use Rattle.iol_wire.proofs.wire_link.WireLink.ask.Goals as goal

pub returns-in-Err-clause-step : goal.returns-in-Err-clause-step
returns-in-Err-clause-step g c =
    let old = c.args.self.now in
    let same = c.in-Err.ensures.same in (
      Missing ∷ [],
      c.in-Err.ensures.missing,
      inr (
        refl,
        inr (
          let wire : Position → Wire = λ position. record {
            position = position;
            number = old.number;
            connection = old.connection;
            events = old.events.items;
          } in
              ap wire same,
          inl refl,
        ),
      ),
    )

pub returns-in-Ok-send-clause-step : goal.returns-in-Ok-send-clause-step
returns-in-Ok-send-clause-step g c =
    let old = c.args.self.now in
    let moves = g.T.Transport.moves in
    let connected = c.in-Ok.ensures.connected in
    let line : List ℕ = request_line (old.number + 1) (asked_of c.args.request) in
    let spelled : c.as_slice.result.now ≡ line = c.as_slice.ensures.value ∙ c.in-Some.ensures.spelled in
    let sent : Run moves c.connect.new.self.transport (Sent line ∷ []) c.send.new.self.transport =
    subst (λ (octets : List ℕ). Run moves c.connect.new.self.transport (Sent octets ∷ []) c.send.new.self.transport) spelled
    c.in-Ok-send.ensures.sent in
    let heard = c.hear.ensures.heard in (
      connected.0 ∷ Sent line ∷ heard.0,
      run_join moves old.stream.transport c.connect.new.self.transport c.hear.new.self.stream.transport (connected.0 ∷ [])
          (Sent line ∷ heard.0) connected.2
          (run_join moves c.connect.new.self.transport c.send.new.self.transport c.hear.new.self.stream.transport (Sent line ∷ [])
          heard.0 sent heard.2),
      inl (record {
        opening = connected.0;
        start = c.send.new.self.position;
        heard = heard.0;
        codes = heard.1;
        connects =
            subst (λ (position : Position). Connects old.stream.position connected.0 position) (sym c.in-Ok-send.ensures.same)
            connected.1;
        calls_are = refl;
        hears = heard.3;
        number = c.hear.ensures.number;
        connection = c.hear.ensures.connection;
        events = heard.4;
      }),
    )

pub returns-in-Err-send-clause-step : goal.returns-in-Err-send-clause-step
returns-in-Err-send-clause-step g c =
    let old = c.args.self.now in
    let moves = g.T.Transport.moves in
    let connected = c.in-Ok.ensures.connected in
    let line : List ℕ = request_line (old.number + 1) (asked_of c.args.request) in
    let spelled : c.as_slice.result.now ≡ line = c.as_slice.ensures.value ∙ c.in-Some.ensures.spelled in
    let unsent : Run moves c.connect.new.self.transport (Unsent line ∷ []) c.send.new.self.transport =
    subst (λ (octets : List ℕ). Run moves c.connect.new.self.transport (Unsent octets ∷ []) c.send.new.self.transport) spelled
    c.in-Err-send.ensures.sent in (
      connected.0 ∷ Unsent line ∷ [],
      run_join moves old.stream.transport c.connect.new.self.transport c.send.new.self.transport (connected.0 ∷ [])
          (Unsent line ∷ []) connected.2 unsent,
      inr (
        refl,
        inl (record {
          opening = connected.0;
          connects =
              subst (λ (position : Position). Connects old.stream.position connected.0 position) (sym c.in-Err-send.ensures.same)
              connected.1;
          calls_are = refl;
          number = refl;
          connection = refl;
          events = refl;
        }),
      ),
    )
