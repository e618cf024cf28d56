-- The run of a script begins with an empty journal, and what is recovered after its stop holds all that was acknowledged.
use Rattle.std.proofs.Common.{◌≡◌, ◌≤◌, ◌+◌, ℕ, IsTrue, List, length, take, inr, Result, Ok, ap, sym, ◌∙◌, subst, arith}
use Rattle.std.proofs.lemmas.List.{take_all, length-replicate}
use Rattle.iol_types.specs.State.{State, after, empty_state, blank}
use Rattle.iol_disk.proofs.Images.{reads-is_image}
use Rattle.iol_disk.specs.Content.{Image, IsImage, reads}
use Rattle.iol_disk.specs.Disk.{Disk}
use Rattle.iol_journal.specs.Formatting.{EachIsEmptyJournal}
use Rattle.iol_journal.specs.Kept.{KeptMeans}
use Rattle.iol_journal.specs.Meaning.{Standing, Cause, standing_in, meaning}
use Rattle.iol_journal.specs.Runs.{HasPrefix}
use Rattle.iol_record.specs.Reading.{◌>>=◌}
use Rattle.iol_run.proofs.Crash.{means_is, meaning_of, one_meaning}
use Rattle.iol_run.specs.Causes.{FailsFor}
use Rattle.iol_run.specs.Schedules.{told_in}
use Rattle.iol_run.specs.declared.schedule.RunFault.TheVariants as fault
use Rattle.iol_run.specs.declared.schedule.Trace.{Trace}
use Rattle.iol_script.specs.Script.{Said}
use Rattle.iol_sim.specs.SimLink.{Sim}
use Rattle.iol_core.specs.CrashPrefix.{CrashPrefix}
use Rattle.iol_core.specs.Events.{Stamp}
use Rattle.iol_core.specs.Words.{accepted, acked}
use Rattle.iol_journal.specs.Geometry.{Geometry}
use Rattle.iol_commands.specs.Played.{IsRunOf, HoldsAcknowledged}

-- a disk with an empty journal reads as number 0 and the empty state
empty_read : (given : Disk) (g : Geometry) → IsTrue given.honest → EachIsEmptyJournal given g
    → KeptMeans given.sectors 0 (empty_state g.ports) (reads given.content)
empty_read given g honest empty = (empty honest (reads given.content) (reads-is_image given.content)).empty

-- its journal has number 0 and the empty state
begins : (given : Disk) (g : Geometry) (journal : Standing) → IsTrue given.honest → EachIsEmptyJournal given g
    → standing_in given.sectors (reads given.content) ≡ Ok journal → (journal.number ≡ 0) × (journal.state ≡ empty_state g.ports)
begins given g journal honest empty stands =
    means_is given.sectors (reads given.content) journal 0 (empty_state g.ports) stands (empty_read given g honest empty).1

-- there is a link for each of its ports
pub links_fit : {D : Type 0} (disk : D → Disk) (given left : D) (g : Geometry) (links : ℕ) → IsTrue (disk given).honest
    → EachIsEmptyJournal (disk given) g → links ≡ g.ports → FailsFor disk given links (fault.Ports left) → ⊥
links_fit disk given left g links honest empty same fails =
    let shown = fails honest in
    shown.2
    (same ∙ (sym (length-replicate g.ports blank) ∙ ap length (sym (begins (disk given) g shown.0 honest empty shown.1).1)))

-- what a stop at the end leaves holds all that was acknowledged
pub holds : {D : Type 0} (disk : D → Disk) (said : Said) (geometry : Geometry) (given : D) (trace : Trace D Sim) (image : Image)
    (number : ℕ) (state : State) → IsTrue (disk given).honest → IsTrue (disk trace.disk).honest
    → IsRunOf disk said geometry given trace → IsImage (disk trace.disk).content image
    → meaning (disk trace.disk).sectors image ≡ Ok (record { number = number; state = state })
    → HoldsAcknowledged geometry.ports (told_in trace) number state
holds disk said geometry given trace image number state honest last run left means = record {
  within = subst (λ (n : ℕ). n ≤ length (accepted events)) counted prefix.within;
  reaches =
      subst (λ (n : ℕ). acked 0 events ≤ n) same.0
      (subst (λ (es : List Stamp). acked 0 es ≤ 0 + prefix.count) (take_all (length events) events (omega arith)) prefix.reaches);
  state_is = sym same.1
      ∙ ap (λ (n : ℕ). after (empty_state geometry.ports) (take n (accepted events))) counted;
}
  where
    events : List Stamp
    events = told_in trace

    at : (run.headline.run.journal.standing.number ≡ 0) × (run.headline.run.journal.standing.state ≡ empty_state geometry.ports)
    at = begins (disk given) geometry run.headline.run.journal.standing honest run.empty (run.headline.run.recovered.found honest)

    crash : CrashPrefix (disk trace.disk) trace.begun 0 (empty_state geometry.ports) events
    crash =
        subst (λ (n : ℕ). CrashPrefix (disk trace.disk) trace.begun n (empty_state geometry.ports) events) at.0
        (subst (λ (s : State). CrashPrefix (disk trace.disk) trace.begun run.headline.run.journal.standing.number s events) at.1
        (run.headline.crash_prefix honest (empty_read (disk given) geometry honest run.empty).0))

    prefix : HasPrefix (disk trace.disk).sectors 0 (empty_state geometry.ports) (accepted events)
        (acked 0 (take (length events) events)) image
    prefix = crash.images last (length events) image (inr left)

    same : (0 + prefix.count ≡ number) × (after (empty_state geometry.ports) (take prefix.count (accepted events)) ≡ state)
    same =
        one_meaning (0 + prefix.count) number (after (empty_state geometry.ports) (take prefix.count (accepted events))) state
        (sym prefix.means.1 ∙ means)

    counted : prefix.count ≡ number
    counted = omega (arith, same.0)

-- an image with this journal means its number and its state
pub means_so : (sectors : ℕ) (image : Image) (journal : Standing) (number : ℕ) (state : State) → standing_in sectors image ≡ Ok journal
    → number ≡ journal.number → state ≡ journal.state → meaning sectors image ≡ Ok (record { number = number; state = state })
means_so sectors image journal number state stands counted same =
    ap (λ (r : Result Standing Cause). r >>= λ s. Ok (record { number = s.number; state = s.state })) stands
    ∙ (ap (λ (n : ℕ). meaning_of n journal.state) (sym counted) ∙ ap (meaning_of number) (sym same))
