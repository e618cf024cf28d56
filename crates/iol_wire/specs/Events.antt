-- Events that are kept until they are taken.
use Rattle.std.specs.Prelude.{ℕ, ◌-◌, List, ◌++◌, length, take}
use Rattle.iol_wire.specs.declared.events.TheConstants.{KEPT_EVENTS}

-- the kept events after these came too, oldest first: at most 16, and further ones are dropped (format, Lines of a driver)
abbrev pub kept : List ℕ → List ℕ → List ℕ
kept events codes = events ++ take (KEPT_EVENTS - length events) codes
