-- How a session that C keeps serves requests.
use Rattle.std.specs.Prelude.{◌≡◌, ◌==◌, Bool, true, false, not, ℕ, Option, None, Some}
use Rattle.iol_handed.specs.Found.{FoundView}
use Rattle.iol_handed.specs.Master.{HandedMasterView, IsBegun}
use Rattle.iol_handed.specs.Opening.{OpeningView}
use Rattle.iol_handed.specs.Running.{is_end}
use Rattle.iol_handed.specs.Serving.{Serves}
use Rattle.iol_handed.specs.Sessions.{SessionView, ended, opening, running}
use Rattle.iol_handed.specs.declared.ask.SessionAnswer.{SessionAnswer}
use Rattle.iol_handed.specs.declared.ask.SessionAnswer.TheVariants as answer
use Rattle.iol_handed.specs.declared.ask.Ask.{Ask}
use Rattle.iol_handed.specs.declared.opening.OpeningWant.TheVariants as want

-- an open session serves a request, and is closed if the request is to end it; a closed one answers that it is closed (own)
abbrev pub Hosts : Ask → Bool → SessionView → Bool → SessionView → SessionAnswer → Type 0
Hosts asked true old is_open new said = (is_open ≡ not (is_end asked)) × Serves asked old new said
Hosts asked false old is_open new said = (is_open ≡ false) × (new ≡ ended) × (said ≡ answer.Closed)

-- an opening over the disk on which a journal was found, which is to be asked again (own)
abbrev pub IsOpeningOf : FoundView → OpeningView → Type 0
IsOpeningOf found flash = (flash.sectors ≡ found.journal.disk.sectors) × (flash.want ≡ want.Nothing)

-- a master has begun with what was found, or that is returned as the opening that found it (own)
abbrev pub IsBegunIn : FoundView → Bool → SessionView → Option OpeningView → Type 0
IsBegunIn found is_open seen None =
    (master : HandedMasterView) × IsBegun found master × (is_open ≡ true) × (seen ≡ running master)
IsBegunIn found is_open seen (Some flash) = (is_open ≡ false) × (seen ≡ ended) × IsOpeningOf found flash

-- a new session is made: it is ended if nothing was found, or else a master is to begin in it with what was found (own)
abbrev pub IsMade : Option FoundView → Bool → SessionView → Option OpeningView → Type 0
IsMade None is_open seen back = (seen ≡ ended) × (back ≡ None)
IsMade (Some found) is_open seen back = IsBegunIn found is_open seen back

-- a master begins with what was found; or memory runs out, and the session continues to open the flash (own)
abbrev pub BeginsIf : Bool → FoundView → Bool → SessionView → ℕ → Type 0
BeginsIf true found is_open seen code = (master : HandedMasterView) × IsBegun found master × (is_open ≡ true) × (seen ≡ running master)
BeginsIf false found is_open seen code =
    (flash : OpeningView) × IsOpeningOf found flash × (is_open ≡ true) × (seen ≡ opening flash) × (code ≡ 3)

abbrev pub Begins : FoundView → Bool → SessionView → ℕ → Type 0
Begins found is_open seen code = BeginsIf (code == 10) found is_open seen code

-- a flash is opened in a new session, or there was no memory for one (own)
abbrev pub IsOpened : Bool → OpeningView → Bool → SessionView → Type 0
IsOpened true flash is_open seen = (is_open ≡ true) × (seen ≡ opening flash)
IsOpened false flash is_open seen = (is_open ≡ false) × (seen ≡ ended)
