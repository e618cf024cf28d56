use Rattle.std.proofs.Common.{◌≤◌, ◌∙◌, ℕ, ap, sym, subst, arith}
use Rattle.iol_journal.specs.Checkpoints.{next_stage, IsStage}
use Rattle.iol_journal.proofs.BegunCalls.{few_sectors, asks_stage, answers_stage}
use Rattle.iol_journal.proofs.begun.Begun.next_stage.Goals as goal

pub next-requires-clause-short : goal.next-requires-clause-short
next-requires-clause-short c =
    let begun = c.requires.begun in
    few_sectors begun.0 begun.1 c.args.self.now begun.2 c.first_sectors-sectors.result
    (subst (λ (n : ℕ). n ≤ 256) begun.3 c.requires.few) c.first_sectors-sectors.ensures.some c.first_sectors-sectors.ensures.none

pub next-requires-clause-stage : goal.next-requires-clause-stage
next-requires-clause-stage c =
    let begun = c.requires.begun in
    subst (λ (n : ℕ). IsStage n c.len.result c.first_sectors-sectors.result c.len-2.result c.args.self.now.stage) (sym begun.3)
    (asks_stage begun.0 begun.1 c.args.self.now begun.2 c.len.result c.first_sectors-sectors.result c.len-2.result
    (omega (arith, c.len.ensures, c.args.self.now.plan.records.ok)) (omega (arith, c.len-2.ensures, c.args.self.now.owed.ok))
    c.first_sectors-sectors.ensures.some)

pub returns : goal.returns
returns c d s is same =
    c.next.ensures ∙ ap (λ (n : ℕ). next_stage n c.len.result c.first_sectors-sectors.result c.len-2.result c.args.self.now.stage) same
    ∙ answers_stage d s c.args.self.now is c.len.result c.first_sectors-sectors.result c.len-2.result
    (omega (arith, c.len.ensures, c.args.self.now.plan.records.ok)) (omega (arith, c.len-2.ensures, c.args.self.now.owed.ok))
    c.first_sectors-sectors.ensures.some
