use Rattle.std.proofs.Common.{rules}
use Rattle.iol_view.proofs.map_commands.map_of_disk.Goals as goal

pub returns-clause-text : goal.returns-clause-text
returns-clause-text g c =
    let map = c.in_ok-map.map in
    (map.outcome, map.lines.items, search rules, search rules)
