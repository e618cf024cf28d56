-- The answers of a session.
use Rattle.std.specs.Prelude.{◌≡◌, Option, None, Some, Result, Ok, Err}
use Rattle.iol_handed.specs.Master.{HandedMasterView}
use Rattle.iol_handed.specs.Opening.{OpeningView}
use Rattle.iol_handed.specs.OpeningAnswers.{OpeningServes}
use Rattle.iol_handed.specs.Running.{RunningServes}
use Rattle.iol_handed.specs.Sessions.{SessionView, ended, opening}
use Rattle.iol_handed.specs.declared.ask.SessionAnswer.{SessionAnswer}
use Rattle.iol_handed.specs.declared.ask.SessionAnswer.TheVariants as answer
use Rattle.iol_handed.specs.declared.ask.Ask.{Ask}
use Rattle.iol_handed.specs.declared.ask.Ask.TheVariants as ask

-- a session answers by the flash that is being opened, or by its master; a session with neither is closed (own)
abbrev pub ServesAt : Option OpeningView → Option HandedMasterView → Ask → SessionView → SessionAnswer → Type 0
ServesAt (Some flash) master asked new said = OpeningServes asked flash new said
ServesAt None (Some master) asked new said = RunningServes asked master new said
ServesAt None None asked new said = (said ≡ answer.Closed) × (new ≡ ended)

-- the flash that a request opens, if it opens one (own)
abbrev pub opened_by : Ask → Option OpeningView
opened_by (ask.Open flash) = Some flash
opened_by asked = None

-- a request opens a flash, or it is another one, which the session serves (own)
abbrev pub OpensOrIs : Ask → Result OpeningView Ask → Type 0
OpensOrIs asked (Ok flash) = opened_by asked ≡ Some flash
OpensOrIs asked (Err same) = (same ≡ asked) × (opened_by asked ≡ None)

abbrev pub OpensOrServes : Option OpeningView → Ask → SessionView → SessionView → SessionAnswer → Type 0
OpensOrServes (Some flash) asked old new said = (said ≡ answer.Done) × (new ≡ opening flash)
OpensOrServes None asked old new said = ServesAt old.opening old.running asked new said

-- the answer of a session to a request: in any state it opens a flash that is handed to it (own)
abbrev pub Serves : Ask → SessionView → SessionView → SessionAnswer → Type 0
Serves asked old new said = OpensOrServes (opened_by asked) asked old new said
