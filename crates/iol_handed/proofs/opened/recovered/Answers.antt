use Rattle.std.proofs.Common.{◌≡◌, ℕ, List, Ok, ap, sym, ◌∙◌, subst}
use Rattle.iol_disk.specs.Content.{reads}
use Rattle.iol_layout.specs.Meaning.{standing_in}
use Rattle.iol_handed.specs.Log.{content_of}
use Rattle.iol_handed.proofs.Openings.{found-weaker, refused-weaker}
use Rattle.iol_handed.proofs.opened.recovered.Goals as goal

-- the disk reads as the flash did, since nothing was handed out yet
pub returns-in-Ok-clause-found : goal.returns-in-Ok-clause-found
returns-in-Ok-clause-found g c =
    found-weaker c.found.result _ _ (λ found same truthful.
    subst (λ (log : List ℕ). standing_in c.args.disk.sectors (reads (content_of g.W.Flash.image log)) ≡ Ok c.in-Ok.journal.standing)
    c.requires.fresh (c.in-Ok.ensures.found truthful)
    ∙ ap (λ j. Ok j.standing) (sym same))
    c.found.ensures.found

pub returns-in-Ok-clause-refused : goal.returns-in-Ok-clause-refused
returns-in-Ok-clause-refused g c = refused-weaker c.found.result _ _ (λ cause wrong. absurd wrong) c.found.ensures.no_cause
