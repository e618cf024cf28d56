use Rattle.iol_link.specs.Reading.{carried_in}
use Rattle.std.proofs.Common.{sym, ◌∙◌, rules}
use Rattle.iol_link.proofs.IsduParts.{service_in_ok, counted_some}
use Rattle.iol_link.proofs.parts.carried_in.Goals as goal

pub is_counted-requires : goal.is_counted-requires
is_counted-requires c = (service_in_ok _ _ c.requires).some

pub enclosed-carried-requires : goal.enclosed-carried-requires
enclosed-carried-requires c =
    counted_some _ _ (service_in_ok _ _ c.requires) (sym c.is_counted.ensures ∙ c.if-not-is_counted.false)

pub returns-clause-ok : goal.returns-clause-ok
unfolding carried_in
returns-clause-ok c = search rules

pub returns-then-xor-ne0-clause-err : goal.returns-then-xor-ne0-clause-err
unfolding carried_in
returns-then-xor-ne0-clause-err c = search rules
