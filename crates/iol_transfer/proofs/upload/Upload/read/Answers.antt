use Rattle.std.proofs.Common.{◌≡◌, ◌+◌, ◌∷◌, get_or, drop, ap, sym, ◌∙◌, subst, arith}
use Rattle.std.proofs.lemmas.List.{drop_more}
use Rattle.iol_types.specs.declared.key.Key.{Key}
use Rattle.iol_link.specs.declared.messages.Answer.TheVariants.{ReadOk}
use Rattle.iol_transfer.specs.Exchanges.{carried}
use Rattle.iol_transfer.specs.Asked.{Start, Value}
use Rattle.iol_transfer.specs.Machine.{Machine, reading, after_read}
use Rattle.iol_transfer.specs.Fields.{asks_of, IsStageAfter}
use Rattle.iol_transfer.proofs.Feeding.{stage-outcome}
use Rattle.iol_transfer.proofs.upload.Upload.read.Goals as goal

pub returns-then-place-len-clause-step : goal.returns-then-place-len-clause-step
returns-then-place-len-clause-step c =
    let keys = c.in-Reading.keys.items in
    let place = c.in-Reading.place in
    let octets = c.args.octets.now in
    let key : Key = get_or keys place (record { index = 0; subindex = 0 }) in
    let left : drop place keys ≡ key ∷ drop (place + 1) keys = drop_more keys place _ (omega (arith, c.if-place-len.true, c.len.ensures)) in
    let asks : c.args.self.now.asks ≡ Value c.in-Reading.entries key (drop (place + 1) keys) =
    ap (λ (machine : Machine). machine.asks) (sym c.self.view_is) ∙ ap asks_of (sym c.in-Reading.ensures.value)
    ∙ ap (reading c.in-Reading.entries) left in
    let after : IsStageAfter c.args.self.now (ReadOk (carried octets)) c.value_read.result
    (after_read c.args.self.now c.args.self.now.asks octets) =
    subst (λ a. IsStageAfter c.args.self.now (ReadOk (carried octets)) c.value_read.result (after_read c.args.self.now a octets)) (sym asks)
    (c.value_read.ensures.stage c.args.self.now key (drop (place + 1) keys) left asks) in
    let start : Machine = record {
      vendor = c.self.inside.vendor;
      device = c.self.inside.device;
      asks = Start;
      busy = c.self.inside.repeats;
    } in
    stage-outcome c.args.self.now start _ _ _ _ _ (ap (λ (machine : Machine). machine.vendor) c.self.view_is)
    (ap (λ (machine : Machine). machine.device) c.self.view_is)
    c.go_on-then-place-len.ensures after
