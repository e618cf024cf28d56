use Rattle.std.proofs.Common.{rules, ◌++◌, append_assoc}
use Rattle.std.specs.Prelude.{codes}
use Rattle.std.proofs.lemmas.Grind.{put_two}
use Rattle.iol_texts.specs.Texts.{hex_of, hex_digits}
use Rattle.iol_explain.specs.Pages.{page_words}
use Rattle.iol_explain.proofs.page_words.write_page.Goals as goal

pub returns : goal.returns
returns g c = λ plain ok.
    put_two g.W.Write.write_str_gives c.args.f.now c.write.new.self c.write-2.new.self
    (codes "VendorID " ++ (hex_digits 4 c.vendor.result ++ (codes ", DeviceID " ++ (hex_digits 6 c.device.result ++ codes ", "))))
    (codes "RevisionID " ++ (hex_of c.revision.result ++ (codes ", " ++ c.isdu_text-isdu.result.now))) (page_words c.args.page)
    (search rules) (search rules) (simp append_assoc (cc))
