-- What is accepted once the disk has failed.
use Rattle.std.specs.Prelude.{◌≡◌, List, [], ◌∷◌}
use Rattle.iol_core.specs.Events.{Stamp}
use Rattle.iol_core.specs.Words.{accepted, IsFailure}

-- once a failure of the disk is reported, no more commands are accepted (own)
abbrev pub NoneOnceFailed : List Stamp → Type 0
NoneOnceFailed [] = Unit {0}
NoneOnceFailed (e ∷ events) = (IsFailure e.event → accepted events ≡ []) × NoneOnceFailed events
