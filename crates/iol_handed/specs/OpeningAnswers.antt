-- The answers of a flash that is being opened.
use Rattle.std.specs.Prelude.{◌≡◌, ℕ, Bool, true, false, List, Result, Ok, Err}
use Rattle.iol_disk.specs.declared.fault.DiskFault.TheVariants as fault
use Rattle.iol_recovery.specs.declared.cause.RecoverCause.TheVariants as cause
use Rattle.iol_handed.specs.Opened.{IsOfFlash}
use Rattle.iol_handed.specs.Opening.{HandsIn, OpeningView, WantsBelow, synced}
use Rattle.iol_handed.specs.declared.opening.HandFault.{HandFault}
use Rattle.iol_handed.specs.declared.opening.HandFault.TheVariants as hand
use Rattle.iol_handed.specs.declared.opening.OpeningWant.{OpeningWant}
use Rattle.iol_handed.specs.declared.opening.OpeningWant.TheVariants as want
use Rattle.iol_handed.specs.Sessions.{SessionView, ended, opening}
use Rattle.iol_handed.specs.declared.ask.SessionAnswer.{SessionAnswer}
use Rattle.iol_handed.specs.declared.ask.SessionAnswer.TheVariants as answer
use Rattle.iol_handed.specs.declared.ask.Ask.{Ask}
use Rattle.iol_handed.specs.declared.ask.Ask.TheVariants as ask

-- the answer that says what an opening wants (own)
abbrev pub want_answer : OpeningWant → SessionAnswer
want_answer want.Sync = answer.Sync
want_answer (want.Read sector) = answer.Read sector
want_answer want.Nothing = answer.Memory

-- the opening continues, over the same number of sectors, and wants this; a wanted sector is one of them (own)
abbrev pub Wants : OpeningView → SessionView → SessionAnswer → Type 0
Wants flash new said =
    (more : OpeningView) × (new ≡ opening more) × (more.sectors ≡ flash.sectors) × WantsBelow more.sectors more.want
    × (said ≡ want_answer more.want)

-- an opening that wants nothing looks for its journal: it continues, or it has ended (own)
abbrev pub Looks : OpeningView → SessionView → SessionAnswer → Type 0
Looks flash new (answer.Found found) = new ≡ ended
Looks flash new (answer.NotOpened why) = (new ≡ ended) × IsOfFlash why
Looks flash new said = Wants flash new said

-- the answer is what the opening wants; if it wants nothing, it looks for its journal (own)
abbrev pub AsksOpening : OpeningWant → OpeningView → SessionView → SessionAnswer → Type 0
AsksOpening want.Nothing flash new said = Looks flash new said
AsksOpening wanted flash new said = (said ≡ want_answer wanted) × (new ≡ opening flash)

-- the wanted sync was made, or the wanted call has failed; no other report fits (own)
abbrev pub Reports : OpeningWant → Bool → OpeningView → SessionView → SessionAnswer → Type 0
Reports want.Sync true flash new said = (said ≡ answer.Done) × (new ≡ opening (synced want.Sync flash))
Reports want.Sync false flash new said = (said ≡ answer.NotOpened (cause.Disk fault.Sync)) × (new ≡ ended)
Reports (want.Read sector) false flash new said = (said ≡ answer.NotOpened (cause.Disk fault.Read)) × (new ≡ ended)
Reports wanted made flash new said = (said ≡ answer.Misfit) × (new ≡ opening flash)

-- the answer to octets that are handed in (own)
abbrev pub hand_answer : Result Unit HandFault → SessionAnswer
hand_answer (Ok done) = answer.Done
hand_answer (Err hand.Misfit) = answer.Misfit
hand_answer (Err hand.Memory) = answer.Memory

abbrev pub Reads : List ℕ → OpeningView → SessionView → SessionAnswer → Type 0
Reads octets flash new said =
    (told : Result Unit HandFault) × (after : OpeningView) × HandsIn flash.want octets flash after told
    × (new ≡ opening after) × (said ≡ hand_answer told)

-- the answer of a flash that is being opened (own)
abbrev pub OpeningServes : Ask → OpeningView → SessionView → SessionAnswer → Type 0
OpeningServes ask.End flash new said = (said ≡ answer.Closed) × (new ≡ ended)
OpeningServes ask.DiskNext flash new said = AsksOpening flash.want flash new said
OpeningServes (ask.DiskDone made) flash new said = Reports flash.want made flash new said
OpeningServes (ask.DiskRead octets) flash new said = Reads octets flash new said
OpeningServes asked flash new said = (said ≡ answer.Opening) × (new ≡ opening flash)
