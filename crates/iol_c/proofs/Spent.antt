-- What is handed over by value leaves nothing where it was.
use Rattle.std.proofs.Common.{◌≡◌, refl}
use Rattle.std.specs.Prelude.{IfSome}
use Rattle.core.specs.contracts.option.Option as option
use Rattle.core.specs.declared.option.Option.{Option}
use Rattle.core.specs.declared.option.Option.TheVariants.{None, Some}
use Rattle.iol_front.specs.Fronts.{FrontId, no_front}
use Rattle.iol_handed.specs.Found.{FoundView}
use Rattle.iol_handed.specs.contracts.ask.Ask as asks
use Rattle.iol_handed.specs.contracts.flash.UnknownFlash as flash
use Rattle.iol_handed.specs.contracts.flash.UnknownFlashFlash.TheImpl.{ghosts}
use Rattle.iol_handed.specs.contracts.found.FoundJournal as found
use denote.RattleType.{RattleType}
use Rattle.iol_handed.specs.declared.ask.Ask.{Ask}
use Rattle.iol_handed.specs.declared.ask.Ask.TheVariants.{Submit, DiskNext, DiskDone, DiskRead, Port, Status, Numbers, View, Entry, Open}
use Rattle.iol_handed.specs.declared.ask.Ask.TheVariants.{End}
use Rattle.iol_handed.specs.declared.ask.PortAsk.TheVariants.{Next, Wake, Page, Answer, Lost, Event}
use denote.Exit.{Last, left, yes}
use denote.Param.Mute.{blank}
use lib.Dec.{T}

pub ask_leaves : (ask : Ask) (w : Last (asks.the_row.exit yes) ask) → T (blank (left (asks.the_row.exit yes) ask w))
ask_leaves (Submit change) w = tt
ask_leaves DiskNext w = tt
ask_leaves (DiskDone made) w = tt
ask_leaves (DiskRead octets) w = tt
ask_leaves (Port port Next) w = tt
ask_leaves (Port port Wake) w = tt
ask_leaves (Port port (Page octets)) w = tt
ask_leaves (Port port (Answer octets)) w = tt
ask_leaves (Port port Lost) w = tt
ask_leaves (Port port (Event code)) w = tt
ask_leaves (Status port) w = tt
ask_leaves Numbers w = tt
ask_leaves (View port) w = tt
ask_leaves (Entry port which place) w = tt
ask_leaves (Open flash) w = tt
ask_leaves End w = tt

-- what was found, if anything was
abbrev pub found_row : RattleType
found_row = option.the_row (found.the_row flash.the_row ghosts)

pub found_leaves : (start : Option FoundView) (w : Last (found_row.exit yes) start) → T (blank (left (found_row.exit yes) start w))
found_leaves None w = tt
found_leaves (Some found) w = tt

-- the front that a session is to have
abbrev pub front_in : Option FoundView → FrontId
front_in None = no_front
front_in (Some found) = found.front

pub is_named : (start : Option FoundView) → IfSome start (λ found. found.front ≡ front_in start)
is_named None = tt
is_named (Some found) = refl
