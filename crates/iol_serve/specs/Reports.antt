-- The statuses in answers.
use Rattle.iol_front.specs.Fronts.{Start}
use Rattle.iol_headline.specs.Statuses.{IsLastReported}
use Rattle.iol_answers.specs.declared.report.PortReport.{PortReport}

-- a lawful trace that began as the front did reported this status of the port last (own)
abbrev pub IsReported : Start → PortReport → Type 0
IsReported start report = IsLastReported start report.port report.status
