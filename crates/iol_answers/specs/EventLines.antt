-- The line of an event in words.
use Rattle.std.specs.Prelude.{ℕ, ◌==◌, if◌then◌else◌, List, [], ◌++◌, codes}
use Rattle.std.specs.Fmt.{decimal}
use Rattle.iol_port.specs.Telling.{status_told}
use Rattle.iol_answers.specs.Statuses.{status_line}
use Rattle.iol_answers.specs.declared.event.Event.{Event}
use Rattle.iol_answers.specs.declared.event.Event.TheVariants as event

-- a number of things of this name (own)
abbrev pub counted : ℕ → List ℕ → List ℕ
counted number noun = decimal number ++ (codes " " ++ (noun ++ (if number == 1 then [] else codes "s")))

-- the master serves this many ports, after this many commands (format, Lines of a serving master)
abbrev pub serving_line : ℕ → ℕ → List ℕ
serving_line ports commands =
    codes "serving " ++ (counted ports (codes "port") ++ (codes " after " ++ (counted commands (codes "command") ++ codes "\n")))

-- all commands up to this number are durable (format, Lines of a serving master)
abbrev pub durable_line : ℕ → List ℕ
durable_line number = codes "durable " ++ (decimal number ++ codes "\n")

-- the master has ended, and this many commands are durable (format, Lines of a serving master)
abbrev pub ended_line : ℕ → List ℕ
ended_line number = codes "ended " ++ (decimal number ++ codes "\n")

-- the line of an event (format, Lines of a serving master)
abbrev pub event_line : Event → List ℕ
event_line (event.Serving ports commands) = serving_line ports commands
event_line (event.Status port status) = status_line port (status_told status)
event_line (event.Durable number) = durable_line number
event_line (event.Ended number) = ended_line number
