use Rattle.std.proofs.Common.{[], ◌∷◌, refl, lit≤}
use Rattle.iol_link.proofs.Spelled.{short_isdu}
use Rattle.iol_link.specs.declared.service.Access.TheVariants.{Read, Write}
use Rattle.iol_link.specs.declared.service.Sign.TheVariants.{Plus, Minus}
use Rattle.iol_link.specs.declared.service.Service.TheVariants.{Response}
use Rattle.iol_link.proofs.isdu_examples.other_answers.Goals as goal

pub returns-clause-to_a_write : goal.returns-clause-to_a_write
returns-clause-to_a_write c =
    short_isdu (Response Write Minus) (0x80 ∷ 0x11 ∷ []) 0xD5 (lit≤ tt) refl

pub returns-clause-to_a_read : goal.returns-clause-to_a_read
returns-clause-to_a_read c =
    short_isdu (Response Read Minus) (0x80 ∷ 0x11 ∷ []) 0x55 (lit≤ tt) refl

pub returns-clause-written : goal.returns-clause-written
returns-clause-written c = short_isdu (Response Write Plus) [] 0x52 (lit≤ tt) refl
