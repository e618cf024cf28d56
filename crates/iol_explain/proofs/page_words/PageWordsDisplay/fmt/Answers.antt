use Rattle.std.proofs.Common.{subst}
use Rattle.std.specs.Fmt.{WritesOnOk}
use Rattle.iol_link.specs.Page.{PageValue}
use Rattle.iol_explain.specs.Pages.{page_words}
use Rattle.iol_explain.proofs.page_words.PageWordsDisplay.fmt.Goals as goal

pub returns-clause-writes : goal.returns-clause-writes
returns-clause-writes g c =
    subst (λ (page : PageValue). WritesOnOk g.W.Write.write_str_gives c.args.f.now c.write_page.result (page_words page) c.write_page.new.f)
    c.read.ensures c.write_page.ensures
