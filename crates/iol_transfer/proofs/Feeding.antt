-- The claims of `feed` of an upload about the exchanges since it began follow from its effect on the
-- upload.
use Rattle.std.proofs.Common.{◌≡◌, ℕ, ◌⊎◌, inl, inr, List, [], ◌∷◌, ◌++◌, refl, ap, sym, ◌∙◌, subst}
use Rattle.std.specs.Prelude.{Result, Ok, Err}
use Rattle.iol_types.specs.DataSet.{SetValue, IsSet}
use Rattle.iol_link.specs.declared.messages.Answer.{Answer}
use Rattle.iol_transfer.specs.declared.fault.TransferFault.{TransferFault}
use Rattle.iol_transfer.specs.declared.fault.TransferFault.TheVariants as fault
use Rattle.iol_transfer.specs.declared.stage.UploadStage.{UploadStage}
use Rattle.iol_transfer.specs.declared.upload.UploadStep.{UploadStep}
use Rattle.iol_transfer.specs.declared.upload.UploadStep.TheVariants as step_is
use Rattle.iol_transfer.specs.Exchanges.{Exchange}
use Rattle.iol_transfer.specs.Upload.{IsFinished}
use Rattle.iol_transfer.specs.Asked.{IsShort, IsNext, NeedsMemory, EndsIn}
use Rattle.iol_transfer.specs.Machine.{Machine, Outcome, More, Whole, Fault, begun, asked, step, answered, Leads, IsSinceBegin}
use Rattle.iol_transfer.specs.Fields.{asks_of, IsStageAfter, IsOutcome, GoesOn, IfMore, IfWhole, IfFault, IsWholeOrMemory}
use Rattle.iol_transfer.proofs.GoingOn.{under-way}
use Rattle.iol_transfer.proofs.Ending.{whole-finished}
use Rattle.iol_transfer.proofs.Finishing.{finished-whole}
use Rattle.iol_transfer.proofs.Faults.{ends-in}

-- if an upload continues with the stage after these octets, this is the outcome
pub stage-outcome : (old between new : Machine) (answer : Answer) (next : Result UploadStage TransferFault) (result : UploadStep)
    (outcome : Outcome)
    → between.vendor ≡ old.vendor → between.device ≡ old.device → GoesOn between next result new → IsStageAfter old answer next outcome
    → IsOutcome old answer result new outcome
stage-outcome old between new answer (Ok stage) step_is.More outcome vendor device goes is =
    let same : new ≡ record { vendor = old.vendor; device = old.device; asks = asks_of stage; busy = 0 } =
    goes ∙ (λ j. record { vendor = vendor j; device = device j; asks = asks_of stage; busy = 0 }) in
    is ∙ ap More (sym same)
stage-outcome old between new answer (Ok stage) (step_is.Whole set) outcome vendor device goes is = absurd goes
stage-outcome old between new answer (Ok stage) (step_is.Fault why) outcome vendor device goes is = absurd goes
stage-outcome old between new answer (Err why) step_is.More outcome vendor device goes is = absurd goes
stage-outcome old between new answer (Err why) (step_is.Whole set) outcome vendor device goes is = absurd goes
stage-outcome old between new answer (Err why) (step_is.Fault other) outcome vendor device goes is =
    subst (λ w. (outcome ≡ Fault w) ⊎ ((w ≡ fault.Memory) × NeedsMemory old.asks answer)) (sym goes) is

-- the request that is sent next
pub next-is : (vendor device : ℕ) (conversation : List Exchange) (machine : Machine) → IsSinceBegin vendor device conversation machine
    → IsNext conversation (asked machine)
next-is vendor device conversation machine since =
    record {
      asks = machine.asks;
      busy = machine.busy;
      asking =
          (under-way vendor device conversation machine since).asking;
      request_is = refl;
    }

leads-on : (conversation : List Exchange) (first last after : Machine) (exchange : Exchange) → Leads first conversation last
    → exchange.request ≡ asked last → step last exchange.answer ≡ More after → Leads first (conversation ++ exchange ∷ []) after
leads-on [] first last after exchange leads asks goes =
    subst (λ m. (exchange.request ≡ asked m) × (next : Machine) × (step m exchange.answer ≡ More next) × (next ≡ after)) (sym leads)
    (asks, after, goes, refl)
leads-on (one ∷ more) first last after exchange leads asks goes =
    (leads.0, leads.1, leads.2, leads-on more leads.1 last after exchange leads.3 asks goes)

pub fed-more : (old new : Machine) (answer : Answer) (result : UploadStep) → IsOutcome old answer result new (step old answer)
    → IfMore result ((vendor device : ℕ) (conversation : List Exchange) → IsSinceBegin vendor device conversation old
    → IsSinceBegin vendor device (conversation ++ answered old answer ∷ []) new)
fed-more old new answer step_is.More is =
    λ vendor device conversation since. leads-on conversation (begun vendor device) old new (answered old answer) since refl is
fed-more old new answer (step_is.Whole set) is = tt
fed-more old new answer (step_is.Fault why) is = tt

pub fed-whole : (old new : Machine) (answer : Answer) (result : UploadStep) → IsOutcome old answer result new (step old answer)
    → IfWhole result IsSet
    → IfWhole result (λ set. (vendor device : ℕ) (conversation : List Exchange) → IsSinceBegin vendor device conversation old
    → IsFinished vendor device (conversation ++ answered old answer ∷ []) set)
fed-whole old new answer step_is.More is good = tt
fed-whole old new answer (step_is.Whole set) is good =
    λ vendor device conversation since. whole-finished vendor device conversation old answer set since is good
fed-whole old new answer (step_is.Fault why) is good = tt

pub fed-only : (old new : Machine) (answer : Answer) (result : UploadStep) → IsOutcome old answer result new (step old answer)
    → (vendor device : ℕ) (conversation : List Exchange) (set : SetValue) → IsSinceBegin vendor device conversation old
    → IsFinished vendor device (conversation ++ answered old answer ∷ []) set → IsWholeOrMemory result set
fed-only old new answer result is vendor device conversation set since finished = by result is
  where
    whole : step old answer ≡ Whole set
    whole = finished-whole vendor device conversation old answer set since finished

    by : (result : UploadStep) → IsOutcome old answer result new (step old answer) → IsWholeOrMemory result set
    by step_is.More is = let both = sym is ∙ whole in cc
    by (step_is.Whole read) is = let both = sym is ∙ whole in cc
    by (step_is.Fault why) (inl is) = let both = sym is ∙ whole in cc
    by (step_is.Fault why) (inr memory) = memory.0

pub fed-fault : (old new : Machine) (answer : Answer) (result : UploadStep) → IsOutcome old answer result new (step old answer)
    → IsShort answer
    → IfFault result (λ why. (vendor device : ℕ) (conversation : List Exchange) → IsSinceBegin vendor device conversation old
    → EndsIn conversation answer why)
fed-fault old new answer step_is.More is short = tt
fed-fault old new answer (step_is.Whole set) is short = tt
fed-fault old new answer (step_is.Fault why) is short =
    λ vendor device conversation since. ends-in vendor device conversation old answer why since short is
