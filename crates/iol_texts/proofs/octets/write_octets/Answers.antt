use Rattle.std.proofs.Common.{rules, ◌+◌, ◌<◌, length, ◌++◌, take, get_or}
use Rattle.std.specs.Prelude.{codes}
use Rattle.std.proofs.lemmas.Grind.{put_two}
use Rattle.iol_texts.specs.Texts.{spaced}
use Rattle.iol_texts.proofs.Hexadecimal.{hex_hole}
use Rattle.iol_texts.proofs.OctetLines.{spaced_next}
use Rattle.iol_texts.proofs.octets.write_octets.Goals as goal

pub loop-octet-preserved : goal.loop-octet-preserved
loop-octet-preserved g c = λ plain.
    let i = c.loop-octet.octet-index in
    let octets = c.args.octets.now in
    let within : i < length octets = search rules in
    put_two g.W.Write.write_str_gives c.args.f.now c.loop-octet.f c.write.new.self (spaced (take i octets))
    (codes " " ++ hex_hole 2 (get_or octets i 0)) (spaced (take (i + 1) octets)) (c.loop-octet.invariant plain) (search rules)
    (spaced_next octets i within (search rules))
