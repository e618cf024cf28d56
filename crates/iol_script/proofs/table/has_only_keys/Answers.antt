use Rattle.std.proofs.Common.{◌≡◌, rules}
use Rattle.std.specs.BTreeMap.{keys}
use Rattle.iol_script.proofs.Keys.{keys_of-entries}
use Rattle.iol_script.proofs.table.has_only_keys.Goals as goal

pub loop-key-init : goal.loop-key-init
loop-key-init c =
    let all_left : c.into_iter-key-iterator.result ≡ keys c.args.table.now = search rules in
    rw (all_left, keys_of-entries c.args.table.now.entries)
