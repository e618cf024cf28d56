use Rattle.std.proofs.Common.{arith}
use Rattle.std.proofs.lemmas.Grind.{common_steps}
use Rattle.iol_commands.proofs.event_text.write_event.Goals as goal

pub returns-in_ok-write_octets-in-Exchange : goal.returns-in_ok-write_octets-in-Exchange
returns-in_ok-write_octets-in-Exchange g c = grind (arith, common_steps)
