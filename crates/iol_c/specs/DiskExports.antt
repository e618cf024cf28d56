-- The effects of opening a flash, and of the calls of the disk.
use Rattle.std.specs.Prelude.{◌≡◌, ◌==◌, Bool, true, false, ℕ, []}
use Rattle.iol_handed.specs.Sessions.{SessionView, ended, opening}
use Rattle.iol_handed.specs.declared.ask.SessionAnswer.{SessionAnswer}
use Rattle.iol_handed.specs.declared.ask.SessionAnswer.TheVariants as answer
use Rattle.iol_handed.specs.declared.ask.Ask.TheVariants as ask
use Rattle.iol_handed.specs.declared.opening.OpeningWant.TheVariants as want
use Rattle.iol_c.specs.Codes.{code_of}
use Rattle.iol_c.specs.Hosting.{Begins, Hosts}
use Rattle.iol_c.specs.Shown.{call_after}
use Rattle.iol_c.specs.declared.handle.Handle.{Handle}
use Rattle.iol_c.specs.declared.structs.DiskCall.{DiskCall}

-- a flash of this number of sectors is being opened, from its beginning; or memory ran out for it, and the handle is closed (own)
abbrev pub OpensIf : Bool → ℕ → Handle → ℕ → Type 0
OpensIf true sectors new code =
    (new.is_open ≡ true) × (new.session ≡ opening (record { sectors = sectors; held = []; want = want.Sync }))
OpensIf false sectors new code = (new.is_open ≡ false) × (new.session ≡ ended) × (code ≡ 3)

abbrev pub Opens : ℕ → Handle → ℕ → Type 0
Opens sectors new code = OpensIf (code == 0) sectors new code

-- a master begins with what was found; any other answer of the session is written down (own)
abbrev pub GoesOn : SessionAnswer → Bool → SessionView → Handle → DiskCall → DiskCall → ℕ → Type 0
GoesOn (answer.Found found) is_open seen new before after code = Begins found new.is_open new.session code × (after ≡ before)
GoesOn said is_open seen new before after code =
    (new.is_open ≡ is_open) × (new.session ≡ seen) × (code ≡ code_of said) × (after ≡ call_after said before)

-- the answer is what is wanted of the disk (own)
abbrev pub WantsOfDisk : Handle → Handle → DiskCall → DiskCall → ℕ → Type 0
WantsOfDisk old new before after code = (said : SessionAnswer) × (is_open : Bool) × (seen : SessionView)
    × Hosts ask.DiskNext old.is_open old.session is_open seen said × GoesOn said is_open seen new before after code
