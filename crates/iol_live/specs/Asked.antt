-- The changes that clients request for each port.
use Rattle.std.specs.Prelude.{ℕ, ◌==◌, List}
use Rattle.std.specs.List.{filter}
use Rattle.iol_types.specs.Command.{port_asked}
use Rattle.iol_types.specs.declared.command.Change.{Change}

-- the changes for the port with this number, in their order (format, Scripts)
abbrev pub changes_of : ℕ → List Change → List Change
changes_of number changes = filter (λ (change : Change). port_asked change == number) changes
