use Rattle.std.proofs.Common.{All}
use Rattle.iol_serve.specs.Reports.{IsReported}
use Rattle.iol_serve.proofs.responding.Responder.reports.Given as goal

-- the reports so far
abbrev pub invariant-loop-number : goal.invariant-loop-number
invariant-loop-number g l = All (IsReported g.F.Name.front.start) l.reports.items
