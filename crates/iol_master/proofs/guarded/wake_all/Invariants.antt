use Rattle.std.proofs.Common.{◌≡◌, ℕ, ◌<◌, ◌≤◌, length, get_or}
use Rattle.iol_master.specs.Wakes.{woken_again}
use Rattle.iol_master.proofs.guarded.wake_all.Given as goal

-- the ports so far are woken, and the others are not woken yet
abbrev pub invariant-loop-count : goal.invariant-loop-count
invariant-loop-count l = record {
  length : length l.wakes ≡ length l.fn.wakes;
  woken : (k : ℕ) → k < l.count-index → get_or l.wakes k 0 ≡ woken_again (get_or l.fn.wakes k 0);
  left : (k : ℕ) → l.count-index ≤ k → get_or l.wakes k 0 ≡ get_or l.fn.wakes k 0;
}
