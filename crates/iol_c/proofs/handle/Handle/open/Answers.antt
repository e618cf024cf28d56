use Rattle.std.proofs.Common.{◌==◌, ℕ, subst, sym}
use Rattle.iol_c.proofs.Ends.{is_opened}
use Rattle.iol_c.proofs.handle.Handle.open.Goals as goal
use Rattle.iol_c.specs.Hosting.{IsOpened}

pub returns : goal.returns
returns c =
    let room = c.room.result in let after = c.ask.new.self in let flash = c.args.flash in
    subst (λ (code : ℕ). IsOpened (code == 0) flash after.is_open after.session) (sym c.code_of.ensures)
    (is_opened room.is_open flash room.session after.is_open after.session c.ask.result c.ask.ensures)
