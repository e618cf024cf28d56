use Rattle.std.proofs.Common.{rules, ◌+◌, ◌<◌, length, take, get_or}
use Rattle.std.specs.List.{flat_map}
use Rattle.std.proofs.lemmas.Grind.{put_two}
use Rattle.iol_texts.specs.Texts.{hex_of}
use Rattle.iol_texts.proofs.Hexadecimal.{hex_hole}
use Rattle.iol_texts.proofs.OctetLines.{packed_next}
use Rattle.iol_texts.proofs.entry_text.write_octets.Goals as goal

pub loop-octet-preserved : goal.loop-octet-preserved
loop-octet-preserved g c = λ plain.
    let i = c.loop-octet.octet-index in
    let octets = c.args.octets.now in
    let within : i < length octets = search rules in
    put_two g.W.Write.write_str_gives c.if-not-is_empty.f c.loop-octet.f c.write.new.self (flat_map hex_of (take i octets))
    (hex_hole 2 (get_or octets i 0)) (flat_map hex_of (take (i + 1) octets)) (c.loop-octet.invariant plain) (search rules)
    (packed_next octets i within (search rules))
