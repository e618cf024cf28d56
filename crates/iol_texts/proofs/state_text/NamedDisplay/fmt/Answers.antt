use Rattle.std.proofs.Common.{rules, ◌<◌, ◌^◌, ◌++◌, append_assoc, arith}
use Rattle.std.specs.Prelude.{codes}
use Rattle.std.specs.Fmt.{decimal}
use Rattle.std.proofs.lemmas.Grind.{put_two}
use Rattle.iol_texts.specs.Recovered.{config_text}
use Rattle.iol_texts.proofs.Hexadecimal.{hex_hole, hex_four, hex_six}
use Rattle.iol_texts.proofs.state_text.NamedDisplay.fmt.Goals as goal

pub returns-clause-writes : goal.returns-clause-writes
returns-clause-writes g c = λ plain ok.
    let config = c.args.self.now.0 in
    let number = c.number-device.result in
    let vendor : config.vendor < 2 ^ 16 = omega arith in
    let device : number < 2 ^ 24 = omega arith in
    put_two g.W.Write.write_str_gives c.args.f.now c.write.new.self c.write-2.new.self
    (codes "mode " ++ (decimal c.to_octet-mode.result ++ (codes " validation " ++ (decimal c.to_octet-validation.result ++ codes " "))))
    (codes "vendor " ++ (hex_hole 4 config.vendor ++ (codes " device " ++ hex_hole 6 number))) (config_text config) (search rules)
    (search rules) (simp (append_assoc, hex_four config.vendor vendor, hex_six number device) (cc))
