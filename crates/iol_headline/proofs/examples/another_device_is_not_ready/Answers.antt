use Rattle.std.proofs.Common.{refl, ◌∷◌, []}
use Rattle.std.specs.Prelude.{Some, None}
use Rattle.iol_link.specs.Page.{page_of}
use Rattle.iol_link.specs.declared.validation.IdentFault.TheVariants.{Device}
use Rattle.iol_core.specs.Events.{Page, Attended, Changed, stamped}
use Rattle.iol_core.specs.Own.{own}
use Rattle.iol_core.specs.Statuses.{Starting}
use Rattle.iol_headline.proofs.LastTold.{one_judgement}
use Rattle.iol_headline.proofs.Revisions.{none_some}
use Rattle.iol_headline.proofs.examples.another_device_is_not_ready.Goals as goal
use Rattle.iol_headline.specs.Examples.{example_work, other_page, other_device}
use Rattle.iol_headline.specs.Settled.{IsJudged}

judged : IsJudged 1 (Some Device) (own 1 (stamped 7 other_device))
judged = record {
  work = example_work None;
  connection = 0;
  page = page_of other_page;
  last = record { older = []; since = Changed 1 Starting ∷ Page 1 0 other_page ∷ []; split = refl; unsettled = (tt, (tt, tt)) };
  manual = refl;
  shown = record {
    before = Attended 1 (example_work None) ∷ Changed 1 Starting ∷ [];
    octets = other_page;
    since = [];
    split = refl;
    page_is = refl;
    connected = tt;
  };
  judged = refl;
}

refused : IsJudged 1 None (own 1 (stamped 7 other_device)) → ⊥
refused is = none_some Device (one_judgement 1 None (Some Device) (own 1 (stamped 7 other_device)) is judged)

pub returns-clause-mismatch : goal.returns-clause-mismatch
returns-clause-mismatch c = judged

pub returns-clause-ready : goal.returns-clause-ready
returns-clause-ready c law = refused law
