use Rattle.std.proofs.Common.{arith, ap, sym, subst, ◌+◌, ◌≤◌, ◌∙◌}
use Rattle.std.proofs.lemmas.List.{length-map}
use Rattle.iol_types.specs.Command.{value_of}
use Rattle.iol_journal.specs.Numbers.{LAST_NUMBER}
use Rattle.iol_front.proofs.Steps.{publishes_as}
use Rattle.iol_front.proofs.seat.add_batch.Goals as goal

pub compare_exchange_with-requires : goal.compare_exchange_with-requires
compare_exchange_with-requires c =
    let batch = c.args.batch.now in
    let count = c.args.count in
    let long = c.len.ensures ∙ batch.commands.ok.0 in (
      c.requires.place.0,
      omega (arith, c.requires.place.1),
      publishes_as _ _ _ c.args.seat.now.me batch count _ c.requires.owns.0 c.requires.owns.1 c.requires.owns.2 c.requires.count
          (ap (λ n. count + n) (long ∙ sym (length-map batch.commands.items value_of)))
          (subst (λ n. n ≤ LAST_NUMBER) (sym (ap (λ n. count + n) long)) c.requires.fits),
    )
