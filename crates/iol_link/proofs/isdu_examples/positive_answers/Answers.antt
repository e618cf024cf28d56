use Rattle.std.proofs.Common.{[], ◌∷◌, refl, lit≤}
use Rattle.std.specs.Prelude.{replicate}
use Rattle.iol_link.proofs.Spelled.{short_isdu, long_isdu}
use Rattle.iol_link.specs.declared.service.Access.TheVariants.{Read}
use Rattle.iol_link.specs.declared.service.Sign.TheVariants.{Plus}
use Rattle.iol_link.specs.declared.service.Service.TheVariants.{Response}
use Rattle.iol_link.proofs.isdu_examples.positive_answers.Goals as goal

pub returns-clause-no_data : goal.returns-clause-no_data
returns-clause-no_data c = (short_isdu (Response Read Plus) [] 0xD2 (lit≤ tt) refl, lit≤ tt)

pub returns-clause-of_2 : goal.returns-clause-of_2
returns-clause-of_2 c =
    (short_isdu (Response Read Plus) (0x0A ∷ 0x64 ∷ []) 0xBA (lit≤ tt) refl, lit≤ tt)

pub returns-clause-of_13 : goal.returns-clause-of_13
returns-clause-of_13 c =
    (short_isdu (Response Read Plus) (replicate 13 0x00) 0xDF (lit≤ tt) refl, lit≤ tt)

pub returns-clause-of_14 : goal.returns-clause-of_14
returns-clause-of_14 c =
    (long_isdu (Response Read Plus) (replicate 14 0x00) 0xC0 (lit≤ tt) (lit≤ tt) refl, lit≤ tt)

pub returns-clause-of_232 : goal.returns-clause-of_232
returns-clause-of_232 c =
    (long_isdu (Response Read Plus) (replicate 232 0x00) 0x3A (lit≤ tt) (lit≤ tt) refl, lit≤ tt)
