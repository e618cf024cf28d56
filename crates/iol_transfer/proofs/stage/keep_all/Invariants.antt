use Rattle.std.proofs.Common.{◌≡◌, fold, take}
use Rattle.iol_transfer.specs.List.{kept_with}
use Rattle.iol_transfer.proofs.stage.keep_all.Given as goal

abbrev pub invariant-loop-key : goal.invariant-loop-key
invariant-loop-key l = l.keys.items ≡ fold kept_with l.fn.keys.items (take l.key-index l.listed)
