use Rattle.std.proofs.Common.{◌≡◌, ◌+◌, vec_len}
use Rattle.iol_serve.proofs.command.port_links.Given as goal

-- the links so far, and those of simulated devices that are left
abbrev pub invariant-loop-place : goal.invariant-loop-place
invariant-loop-place g l = record {
  links : vec_len l.links ≡ l.place;
  simulated : vec_len l.simulated + l.place ≡ l.ports;
}
