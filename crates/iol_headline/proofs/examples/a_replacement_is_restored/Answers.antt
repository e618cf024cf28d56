use Rattle.std.proofs.Common.{refl, ℕ, subst}
use Rattle.std.specs.Prelude.{Some, None}
use Rattle.iol_types.specs.State.{empty_state}
use Rattle.iol_link.specs.declared.messages.Request.{Request}
use Rattle.iol_core.specs.Events.{stamped}
use Rattle.iol_headline.proofs.ExampleTalks.{writes_first, writes_second}
use Rattle.iol_headline.proofs.ExampleLaws.{first_write, second_write, replaced_examined, judged_restored}
use Rattle.iol_headline.proofs.Sending.{one_request}
use Rattle.iol_headline.proofs.examples.a_replacement_is_restored.Goals as goal
use Rattle.iol_headline.specs.Downloads.{IsDownloadOf}
use Rattle.iol_headline.specs.Examples.{example_config, example_set, restoring, half_restored}

pub returns-clause-work : goal.returns-clause-work
returns-clause-work c = record {
  kept = record {
    config = example_config;
    revision = 1;
    stored = Some (record { set = example_set 0x7F; recorded = example_config });
    previous = None;
  };
  there = refl;
  config = refl;
  revision = refl;
  checksum = refl;
}

pub returns-clause-decided : goal.returns-clause-decided
returns-clause-decided c = replaced_examined

pub returns-clause-first : goal.returns-clause-first
returns-clause-first c port connection request sent writes =
    subst (λ (p : ℕ). IsDownloadOf 0 (empty_state 2) p connection request (stamped 7 restoring)) sent.0
    (subst (λ (c : ℕ). IsDownloadOf 0 (empty_state 2) 1 c request (stamped 7 restoring)) sent.1
    (subst (λ (r : Request). IsDownloadOf 0 (empty_state 2) 1 1 r (stamped 7 restoring)) (one_request _ _ request writes_first sent.2)
    first_write))

pub returns-clause-second : goal.returns-clause-second
returns-clause-second c port connection request sent writes =
    subst (λ (p : ℕ). IsDownloadOf 0 (empty_state 2) p connection request (stamped 7 half_restored)) sent.0
    (subst (λ (c : ℕ). IsDownloadOf 0 (empty_state 2) 1 c request (stamped 7 half_restored)) sent.1
    (subst (λ (r : Request). IsDownloadOf 0 (empty_state 2) 1 1 r (stamped 7 half_restored)) (one_request _ _ request writes_second sent.2)
    second_write))

pub returns-clause-ready : goal.returns-clause-ready
returns-clause-ready c = judged_restored
