use Rattle.std.proofs.Common.{◌≡◌, ◌<◌, inr, refl, length, drop, sym, ap, ◌∙◌, subst, arith, rules}
use Rattle.iol_types.specs.DataSet.{SetValue}
use Rattle.iol_link.specs.declared.messages.Answer.TheVariants.{WriteOk}
use Rattle.iol_transfer.specs.Download.{Sender, Sends, writing, sends_of, sends_after, IsDownloadStep}
use Rattle.iol_transfer.proofs.Sending.{writing-next}
use Rattle.iol_transfer.proofs.download.Download.written.Goals as goal

pub returns-then-place-len : goal.returns-then-place-len
returns-then-place-len c =
    let now = c.args.self.now in
    let place = c.in-Writing.place in
    let set : c.self.inside.set.value ≡ now.set = ap (λ (sender : Sender). sender.set) c.self.view_is in
    let sends : now.sends ≡ writing (drop place now.set.entries) =
    ap (λ (sender : Sender). sender.sends) (sym c.self.view_is) ∙ ap (sends_of c.self.inside.set.value.entries) c.in-Writing.is
    ∙ ap (λ (s : SetValue). writing (drop place s.entries)) set in
    let below : place < length now.set.entries =
    subst (λ (s : SetValue). place < length s.entries) (c.deref.ensures ∙ set) (omega (arith, c.if-place-len.true, c.len.ensures.count)) in
    let next = writing-next now.set place below in
    subst (λ result. IsDownloadStep now WriteOk result c.go_on-then-place-len.new.self) (sym c.go_on-then-place-len.ensures.step)
    (inr (
      refl,
      λ closing. next.0 (sym sends ∙ closing),
      c.go_on-then-place-len.ensures.sender
          ∙ ap (λ (s : Sends). let sender : Sender = record { set = now.set; sends = s; busy = 0 } in sender)
          (next.1 ∙ ap (sends_after now.set) (sym sends)),
    ))

pub returns-in-Starting : goal.returns-in-Starting
returns-in-Starting c = search rules
