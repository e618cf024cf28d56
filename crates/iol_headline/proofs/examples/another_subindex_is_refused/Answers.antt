use Rattle.std.proofs.Common.{◌≡◌, refl, ℕ, [], ◌∷◌, ap, arith, lit≤}
use Rattle.iol_transfer.specs.Command.{commanded}
use Rattle.iol_transfer.specs.declared.command.DsCommand.{DsCommand}
use Rattle.iol_link.proofs.Lengths.{shortest_write}
use Rattle.iol_link.proofs.Spelled.{short_isdu}
use Rattle.iol_link.specs.Isdu.{IsShortestRequest}
use Rattle.iol_link.specs.declared.messages.Request.{Request}
use Rattle.iol_link.specs.declared.messages.Request.TheVariants.{Read, Write}
use Rattle.iol_transfer.specs.Exchanges.{carried}
use Rattle.iol_headline.proofs.examples.another_subindex_is_refused.Goals as goal

-- the request that is sent
abbrev wrong : Request
wrong = Write 3 2 (carried (0x02 ∷ []))

writes_wrong : IsShortestRequest (0x25 ∷ 0x03 ∷ 0x02 ∷ 0x02 ∷ 0x26 ∷ []) wrong
writes_wrong =
    shortest_write _ 3 2 (carried (0x02 ∷ [])) (lit≤ tt)
    (short_isdu _ (0x03 ∷ 0x02 ∷ 0x02 ∷ []) 0x26 (lit≤ tt) refl)

abbrev subindex_of : Request → ℕ
subindex_of (Read index subindex) = subindex
subindex_of (Write index subindex values) = subindex

-- commands are written at another subindex
no_command : (command : DsCommand) → wrong ≡ commanded command → ⊥
no_command command same = let at : 2 ≡ 1 = ap subindex_of same in omega (arith, at)

pub returns : goal.returns
returns c law = let told = law 1 0 2 (carried (0x02 ∷ [])) (refl, refl, writes_wrong) in no_command told.0 told.1
