use Rattle.std.proofs.Common.{rules, ◌<◌, ◌^◌, ◌++◌, append_assoc, arith}
use Rattle.std.specs.Prelude.{codes}
use Rattle.std.specs.Option.{option_map}
use Rattle.std.specs.Fmt.{decimal}
use Rattle.std.proofs.lemmas.Grind.{put_two}
use Rattle.iol_types.specs.Port.{stored_of}
use Rattle.iol_texts.specs.Recovered.{set_text}
use Rattle.iol_texts.proofs.Hexadecimal.{hex_hole, hex_four, hex_six, hex_eight}
use Rattle.iol_texts.proofs.state_text.SetTextDisplay.fmt.Goals as goal

pub returns-clause-writes : goal.returns-clause-writes
returns-clause-writes g c = λ plain ok.
    let recorded = (stored_of c.in-Some.stored.now).recorded in
    let number = c.number-device.result in
    let sum = c.checksum-checksum.result in
    let vendor : recorded.vendor < 2 ^ 16 = omega arith in
    let device : number < 2 ^ 24 = omega arith in
    let checksum : sum < 2 ^ 32 = omega arith in
    put_two g.W.Write.write_str_gives c.args.f.now c.write.new.self c.write-2.new.self
    (decimal c.len-entries.result ++ (codes " entries " ++ (decimal c.octets-octets.result ++ (codes " octets checksum "
    ++ (hex_hole 8 sum ++ codes " ")))))
    (codes "under " ++ (decimal c.to_octet-mode.result ++ (codes " " ++ (decimal c.to_octet-validation.result ++ (codes " "
    ++ (hex_hole 4 recorded.vendor ++ (codes " " ++ hex_hole 6 number)))))))
    (set_text (option_map (λ stored. stored_of stored.now) c.args.self.now.0)) (search rules) (search rules)
    (simp (append_assoc, hex_four recorded.vendor vendor, hex_six number device, hex_eight sum checksum) (rw c.in-Some.is (cc)))
