use Rattle.std.proofs.Common.{rules, ◌+◌, take, slice_get, []}
use Rattle.std.specs.List.{flat_map}
use Rattle.std.specs.Option.{option_map_or}
use Rattle.std.proofs.lemmas.Grind.{put_two}
use Rattle.iol_texts.specs.Recovered.{entry_line}
use Rattle.iol_texts.proofs.PortLines.{entries_next}
use Rattle.iol_texts.proofs.entry_text.write_entries.Goals as goal

pub loop-place-preserved : goal.loop-place-preserved
loop-place-preserved g c = λ plain.
    let place = c.loop-place.place in
    let entries = c.args.set.now.entries in
    put_two g.W.Write.write_str_gives c.args.f.now c.loop-place.f c.write_entry_at.new.f (flat_map entry_line (take place entries))
    (option_map_or entry_line (slice_get entries place) []) (flat_map entry_line (take (place + 1) entries)) (c.loop-place.invariant plain)
    (search rules) (entries_next entries place)
