use Rattle.std.proofs.Common.{◌≡◌, ◌+◌, ◌≤◌, vec_capacity, vec_len}
use Rattle.iol_master.proofs.master.start_workers.Given as goal

-- the list of workers has capacity for the ports that are left, and workers and ports left are together the number of ports
abbrev pub invariant-loop-port : goal.invariant-loop-port
invariant-loop-port g l = record {
  room : vec_len l.workers + vec_len l.served ≤ vec_capacity l.workers;
  each : vec_len l.workers + vec_len l.served ≡ vec_len l.fn.served;
}

abbrev pub decreases-loop-port : goal.decreases-loop-port
decreases-loop-port g l = vec_len l.served
