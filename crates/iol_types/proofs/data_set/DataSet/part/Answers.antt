use Rattle.std.proofs.Common.{ℕ, List, Option, Some, None, IfSome, sym, subst}
use Rattle.std.specs.Option.{option_copied}
use Rattle.std.specs.Borrow.{Bor}
use Rattle.iol_types.proofs.PartLemmas.{IsShort, concat-parts_of, short-parts_of}
use Rattle.iol_types.proofs.data_set.DataSet.part.Goals as goal

-- a claim about octets holds of a reference to them
lent : (part : Option (Bor (List ℕ))) → IfSome (option_copied part) IsShort → IfSome part (λ octets. IsShort octets.now)
lent None is = is
lent (Some octets) is = is

pub returns-clause-short : goal.returns-clause-short
returns-clause-short c =
    lent c.part.result
    (subst (λ (found : Option (List ℕ)). IfSome found IsShort) (sym c.part.ensures)
    (short-parts_of c.self.inside.entries c.args.place c.self.invariant.entries.each))

pub returns-clause-whole : goal.returns-clause-whole
returns-clause-whole c = concat-parts_of c.args.self.now.entries
