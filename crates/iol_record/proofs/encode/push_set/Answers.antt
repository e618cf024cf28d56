use Rattle.std.proofs.Common.{◌∙◌, ap, ◌++◌, List, ℕ, length}
use Rattle.std.specs.List.{flat_map}
use Rattle.std.specs.Int.{w16, w32, to_be_bytes}
use Rattle.iol_types.specs.Parts.{entry_octets}
use Rattle.iol_record.proofs.Spellings.{three_after}
use Rattle.iol_record.proofs.encode.push_set.Goals as goal

pub returns-clause-octets : goal.returns-clause-octets
returns-clause-octets c =
    let set = c.args.set.now in
    three_after c.args.octets.now.items (to_be_bytes w16 set.vendor ++ to_be_bytes w32 set.device)
    (to_be_bytes w32 set.checksum ++ to_be_bytes w16 (length set.entries)) (flat_map entry_octets set.entries)
    (c.in_ok-push_device.ensures
    ∙ ap (λ (front : List ℕ). front ++ (to_be_bytes w16 set.vendor ++ to_be_bytes w32 set.device)) c.in_ok-reserve.ensures.items)
    c.in_ok-push_counts.ensures c.in_ok-push_entries.ensures
