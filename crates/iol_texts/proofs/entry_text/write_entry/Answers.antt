use Rattle.std.proofs.Common.{rules, ◌<◌, ◌^◌, ◌++◌, append_assoc, arith}
use Rattle.std.specs.Prelude.{codes}
use Rattle.std.proofs.lemmas.Grind.{put_three}
use Rattle.iol_texts.specs.Recovered.{octets_text, entry_line}
use Rattle.iol_texts.proofs.Hexadecimal.{hex_hole, hex_two, hex_four}
use Rattle.iol_texts.proofs.entry_text.write_entry.Goals as goal

pub returns : goal.returns
returns g c = λ plain ok.
    let key = c.args.key in
    let index : key.index < 2 ^ 16 = omega arith in
    let subindex : key.subindex < 2 ^ 8 = omega arith in
    put_three g.W.Write.write_str_gives c.args.f.now c.write.new.self c.write_octets.new.f c.write_str.new.self
    (codes "entry " ++ (hex_hole 4 key.index ++ (codes "." ++ hex_hole 2 key.subindex))) (octets_text c.args.octets.now) (codes "\n")
    (entry_line (key, c.args.octets.now)) (search rules) (search rules) (search rules)
    (simp (append_assoc, hex_four key.index index, hex_two key.subindex subindex))
