use Rattle.std.proofs.Common.{sym, ◌∙◌, arith}
use Rattle.std.proofs.lemmas.Bool.Decides.{nat_tests}
use Rattle.iol_types.proofs.Labels.{written}
use Rattle.iol_types.proofs.label.Label.new.Goals as goal

pub invariant_of-result : goal.invariant_of-result
invariant_of-result c =
    written c.args.octets.now c.copy_from_slice.new.self c.copy_from_slice.ensures.after
    (grind (arith, nat_tests, c.if-octets-gt-MOST_LABEL_OCTETS.false))
    (sym c.may_all_stand.ensures ∙ c.if-not-may_all_stand.false)
