use Rattle.std.proofs.Common.{◌≡◌, ℕ, List, IfErr, IfOk, length, vec_len, sym, ap, ◌∙◌, subst}
use Rattle.iol_types.specs.Command.{CommandValue}
use Rattle.iol_journal.specs.Journals.{JournalView}
use Rattle.iol_flush.specs.Stages.{HasHistory}
use Rattle.iol_master.specs.Endings.{IsStartFault}
use Rattle.iol_master.proofs.master.Master.start.Goals as goal

-- the publisher has published nothing
pub new-requires-2-after_bounds : goal.new-requires-2-after_bounds
new-requires-2-after_bounds g c lifetimes outlives =
    subst (λ (list : List CommandValue). HasHistory g.F.Name.front.start list c.args.journal.history)
    (sym (c.new.ensures.publisher ∙ c.requires.publisher)) c.requires.journal

pub returns-clause-started : goal.returns-clause-started
returns-clause-started g c =
    subst (λ (first : JournalView g.row.D.Denot). IfOk c.begin.result (λ master. master ≡ first)) c.new-2.ensures c.begin.ensures.started

-- there is a link for each port
pub returns-clause-fault : goal.returns-clause-fault
returns-clause-fault g c =
    let disk = g.D.SectorDisk.disk in
    let start = g.F.Name.front.start in
    let links : vec_len c.args.links ≡ length start.state =
    sym c.len.ensures
    ∙ (c.if-len-from.false ∙ (c.from.ensures ∙ (c.ports-ports.ensures.count ∙ ap length c.requires.state))) in
    subst (λ (count : ℕ). IfErr c.begin.result (IsStartFault disk start c.args.journal count)) (sym links)
    (subst (λ (first : JournalView g.row.D.Denot). IfErr c.begin.result (IsStartFault disk start first (length start.state)))
    c.new-2.ensures c.begin.ensures.fault)
