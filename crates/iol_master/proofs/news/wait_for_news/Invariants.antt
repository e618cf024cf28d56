use Rattle.std.proofs.Common.{◌≡◌}
use mathlib.Core.List.{IsPrefix}
use Rattle.iol_master.proofs.news.wait_for_news.Given as goal

-- nothing was reported so far, and the pass has seen no less than at the start
abbrev pub invariant-loop : goal.invariant-loop
invariant-loop g l = IsPrefix l.fn.pass l.pass × (l.known ≡ l.fn.known)
