-- A port settles by the work that it got last, and by the page of its device.
use Rattle.std.specs.Prelude.{◌≡◌, ℕ, true, false, List, [], ◌∷◌, ◌++◌, Option, Some, None}
use Rattle.iol_types.specs.Config.{is_manual}
use Rattle.iol_link.specs.Page.{PageValue}
use Rattle.iol_link.specs.Validation.{ident_fault}
use Rattle.iol_link.specs.declared.validation.IdentFault.{IdentFault}
use Rattle.iol_core.specs.Events.{Event, Attended, Changed, Stamp}
use Rattle.iol_core.specs.Own.{own}
use Rattle.iol_core.specs.Statuses.{Work, Status, Off, Starting, Ready, ReadyLocked, ReadyEmpty, Uploading, Storing, Downloading, Mismatch}
use Rattle.iol_headline.specs.Conversations.{HasPage}

-- an event reports neither the work of a port nor a status of a settled port, which are `off`, `lost`, `ready` of any kind,
-- `mismatch` and `failed` (own)
abbrev pub IsUnsettled : Event → Type 0
IsUnsettled (Attended port work) = ⊥
IsUnsettled (Changed port Starting) = Unit {0}
IsUnsettled (Changed port Uploading) = Unit {0}
IsUnsettled (Changed port Storing) = Unit {0}
IsUnsettled (Changed port Downloading) = Unit {0}
IsUnsettled (Changed port status) = ⊥
IsUnsettled told = Unit {0}

-- none of these events reports the work of a port, or that it has settled (own)
abbrev pub AreUnsettled : List Event → Type 0
AreUnsettled [] = Unit {0}
AreUnsettled (told ∷ more) = IsUnsettled told × AreUnsettled more

-- this is the work that a port got last, and it has not settled since (own)
pub record WasToldLast (port : ℕ) (work : Work) (events : List Event) : Type 0 where
  pub older : List Event
  pub since : List Event
  pub split : events ≡ older ++ Attended port work ∷ since
  pub unsettled : AreUnsettled since

-- by the work that it got last a port is not IOL_MANUAL (own)
pub record IsOff (port : ℕ) (events : List Event) : Type 0 where
  pub work : Work
  pub last : WasToldLast port work events
  pub manual : is_manual work.config.mode ≡ false

-- by the work that it got last a port is IOL_MANUAL, and the last page of its device, which was not lost since, fits or has this
-- fault (own)
pub record IsJudged (port : ℕ) (fault : Option IdentFault) (events : List Event) : Type 0 where
  pub work : Work
  pub connection : ℕ
  pub page : PageValue
  pub last : WasToldLast port work events
  pub manual : is_manual work.config.mode ≡ true
  pub shown : HasPage port connection page events
  pub judged : ident_fault work.config page ≡ fault

-- what a port's own events say if it settles with a status (own)
abbrev pub SettlesBy : ℕ → List Event → Status → Type 0
SettlesBy port events Off = IsOff port events
SettlesBy port events Ready = IsJudged port None events
SettlesBy port events ReadyLocked = IsJudged port None events
SettlesBy port events ReadyEmpty = IsJudged port None events
SettlesBy port events (Mismatch fault) = IsJudged port (Some fault) events
SettlesBy port events status = Unit {0}

-- a port becomes `off`, `ready` of any kind or `mismatch` only if its own events say so (own)
abbrev pub SettledRight : List Stamp → Event → Type 0
SettledRight before (Changed port status) = SettlesBy port (own port before) status
SettledRight before _ = Unit {0}
