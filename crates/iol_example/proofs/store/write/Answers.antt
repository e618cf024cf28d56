use Rattle.std.proofs.Common.{rules, ◌≡◌, List, ◌∷◌, [], ◌++◌, Err, ap, refl, ◌∙◌, subst}
use Rattle.std.proofs.lemmas.Result.{err_from_is_err_and}
use Rattle.iol_types.specs.Command.{CommandValue, value_of}
use Rattle.iol_disk.specs.Calls.{Call}
use Rattle.iol_journal.specs.Batches.{batch_calls}
use Rattle.iol_journal.specs.Journals.{WritingView, calls_left}
use Rattle.iol_journal.specs.Body.{values}
use Rattle.iol_journal.specs.Meaning.{Standing}
use Rattle.iol_journal.specs.Runs.{with_batch_begun, with_batch_written}
use Rattle.iol_journal.specs.Running.{IsRunWriting}
use Rattle.iol_example.specs.Store.{left_disk, freeing_calls, with_slot, IsRefusal, MakesCalls, RestsAt}
use Rattle.iol_example.proofs.CallLaws.{ended_early, then_makes}
use Rattle.iol_example.proofs.StoreLaws.{rests_at, or_after, batch_after, faulted_run, none_refused, refused_as_it_was}
use Rattle.iol_example.proofs.StoreLaws.{run_of_queued, written_is, written_rests}
use Rattle.iol_example.proofs.store.write.Goals as goal

-- no slot was freed
pub returns-in_err-journal-clause-any_moment : goal.returns-in_err-journal-clause-any_moment
returns-in_err-journal-clause-any_moment g c = λ rests.
    let p = err_from_is_err_and c.from_residual.result c.from_residual.ensures.1 in
    rw (p.1, p.2) (or_after _ (g.D.SectorDisk.disk (left_disk (Err c.in_err-journal.field-0.0))) _ _ (value_of c.args.command ∷ [])
    (c.in_err-journal.ensures.any_moment rests))

pub returns-in_err-journal-clause-refused : goal.returns-in_err-journal-clause-refused
returns-in_err-journal-clause-refused g c = λ rests.
    let p = err_from_is_err_and c.from_residual.result c.from_residual.ensures.1 in
    rw (p.1, p.2) (refused_as_it_was g.D.SectorDisk.disk c.args.journal (Err c.in_err-journal.field-0.0) c.in_err-journal.ensures.refused
    rests)

pub returns-in_err-journal-clause-calls : goal.returns-in_err-journal-clause-calls
returns-in_err-journal-clause-calls g c =
    let d = g.D.SectorDisk.disk in
    let j = c.args.journal in
    let p = err_from_is_err_and c.from_residual.result c.from_residual.ensures.1 in
    rw (p.1, p.2)
    (ended_early d (freeing_calls j) (batch_calls (with_slot j) (value_of c.args.command ∷ [])) (d j.disk)
    c.in_err-journal.field-0.0
    c.in_err-journal.ensures.calls)

pub returns-in_err-journal-clause-run : goal.returns-in_err-journal-clause-run
returns-in_err-journal-clause-run g c = λ r behind queued run.
    let p = err_from_is_err_and c.from_residual.result c.from_residual.ensures.1 in
    let written = with_batch_written (with_batch_begun r (value_of c.args.command ∷ []) behind) in
    rw (p.1, p.2) (faulted_run g.D.SectorDisk.disk r r written c.in_err-journal.field-0.0 (c.in_err-journal.ensures.run r run))

-- out of memory
pub returns-in_default-clause-any_moment : goal.returns-in_default-clause-any_moment
returns-in_default-clause-any_moment g c = λ rests.
    or_after _ _ _ _ (value_of c.args.command ∷ []) (c.in_ok-journal.ensures.any_moment rests)

pub returns-in_default-clause-refused : goal.returns-in_default-clause-refused
returns-in_default-clause-refused g c = λ rests.
    let same = c.in_ok-journal.ensures.same in
    rests_at g.D.SectorDisk.disk _ _ c.in_ok-journal.journal (c.in_ok-journal.ensures.rests rests) same.0 same.1

pub returns-in_default-clause-run : goal.returns-in_default-clause-run
returns-in_default-clause-run g c = λ r behind queued run. c.in_ok-journal.ensures.run r run

pub returns-in_default-clause-calls : goal.returns-in_default-clause-calls
returns-in_default-clause-calls g c = record {
  first = freeing_calls c.args.journal;
  left = batch_calls (with_slot c.args.journal) (value_of c.args.command ∷ []);
  order = refl;
  made = c.in_ok-journal.ensures.calls;
}

-- the batch was begun
pub returns-in-Ok-begin-clause-any_moment : goal.returns-in-Ok-begin-clause-any_moment
returns-in-Ok-begin-clause-any_moment g c = λ rests.
    let freed = c.in_ok-journal.ensures in
    let begun = c.in-Ok-begin.ensures in
    batch_after _ _ _ _ _ _ _ _ _ _
    (ap (λ (w : WritingView g.row.D.Denot). g.D.SectorDisk.disk w.disk) begun.begun)
    (ap (λ (w : WritingView g.row.D.Denot). w.standing.number) begun.begun ∙ freed.same.0)
    (ap (λ (w : WritingView g.row.D.Denot). w.standing.state) begun.begun ∙ freed.same.1)
    (ap (λ (w : WritingView g.row.D.Denot). w.commands) begun.begun ∙ ap values c.in-Ok.ensures.items)
    (freed.any_moment rests)
    (c.finish.ensures.any_moment (begun.underway (freed.rests rests).0))

pub returns-in-Ok-begin-clause-written : goal.returns-in-Ok-begin-clause-written
returns-in-Ok-begin-clause-written g c =
    let freed = c.in_ok-journal.ensures in
    let begun = c.in-Ok-begin.ensures in
    written_is c.in-Ok-begin.writing _ _ (value_of c.args.command) c.finish.result
    (ap (λ (w : WritingView g.row.D.Denot). w.standing.number) begun.begun ∙ freed.same.0)
    (ap (λ (w : WritingView g.row.D.Denot). w.standing.state) begun.begun ∙ freed.same.1)
    (ap (λ (w : WritingView g.row.D.Denot). w.commands) begun.begun ∙ ap values c.in-Ok.ensures.items)
    c.finish.ensures.done

pub returns-in-Ok-begin-clause-cause : goal.returns-in-Ok-begin-clause-cause
returns-in-Ok-begin-clause-cause g c =
    none_refused (λ back cause. IsRefusal back.standing (value_of c.args.command) cause) c.finish.result c.finish.ensures.taken

pub returns-in-Ok-begin-clause-refused : goal.returns-in-Ok-begin-clause-refused
returns-in-Ok-begin-clause-refused g c = λ rests.
    let s = c.args.journal.standing in
    none_refused (λ back _. RestsAt g.D.SectorDisk.disk s.number s.state back) c.finish.result c.finish.ensures.taken

pub returns-in-Ok-begin-clause-durable : goal.returns-in-Ok-begin-clause-durable
returns-in-Ok-begin-clause-durable g c = λ rests.
    let freed = c.in_ok-journal.ensures in
    let begun = c.in-Ok-begin.ensures in
    written_rests g.D.SectorDisk.disk c.in-Ok-begin.writing _ _ (value_of c.args.command) c.finish.result
    (ap (λ (w : WritingView g.row.D.Denot). w.standing.number) begun.begun ∙ freed.same.0)
    (ap (λ (w : WritingView g.row.D.Denot). w.standing.state) begun.begun ∙ freed.same.1)
    (ap (λ (w : WritingView g.row.D.Denot). w.commands) begun.begun ∙ ap values c.in-Ok.ensures.items)
    c.finish.ensures.done
    (c.finish.ensures.rests (begun.underway (freed.rests rests).0) (begun.beside (freed.rests rests).1))

pub returns-in-Ok-begin-clause-run : goal.returns-in-Ok-begin-clause-run
returns-in-Ok-begin-clause-run g c = λ r behind queued run.
    let d = g.D.SectorDisk.disk in
    let writes = subst (λ (cs : List CommandValue). r.queued ≡ cs ++ behind
    → IsRunWriting d (with_batch_begun r cs behind) c.in-Ok-begin.writing)
    (ap values c.in-Ok.ensures.items)
    (λ first. c.in-Ok-begin.ensures.run r behind first (c.in_ok-journal.ensures.run r run)) queued in
    run_of_queued d r (value_of c.args.command ∷ []) behind _ c.finish.result run.2 queued c.finish.ensures.taken
    (c.finish.ensures.run _ writes)

pub returns-in-Ok-begin-clause-calls : goal.returns-in-Ok-begin-clause-calls
returns-in-Ok-begin-clause-calls g c =
    let d = g.D.SectorDisk.disk in
    let j = c.args.journal in
    let freed = c.in_ok-journal in
    let begun = c.in-Ok-begin in
    let order = begun.ensures.calls
    ∙ (ap (λ (s : Standing). batch_calls s (values c.in-Ok.commands.items)) freed.ensures.slot
    ∙ ap (λ (cs : List CommandValue). batch_calls (with_slot j) cs) (ap values c.in-Ok.ensures.items)) in
    then_makes d (freeing_calls j) (batch_calls (with_slot j) (value_of c.args.command ∷ [])) (d j.disk)
    (d freed.journal.disk) c.finish.result
    freed.ensures.calls
    (subst (λ (calls : List Call). MakesCalls d calls (d freed.journal.disk) c.finish.result) order
    (subst (λ (disk : g.row.D.Denot). MakesCalls d (calls_left begun.writing) (d disk) c.finish.result)
    (ap (λ (w : WritingView g.row.D.Denot). w.disk) begun.ensures.begun)
    c.finish.ensures.calls))

-- the batch was refused
pub returns-in-Err-clause-any_moment : goal.returns-in-Err-clause-any_moment
returns-in-Err-clause-any_moment g c = λ rests.
    rw c.in-Err.ensures.back.0 (or_after _ _ _ _ (value_of c.args.command ∷ []) (c.in_ok-journal.ensures.any_moment rests))

pub returns-in-Err-clause-refused : goal.returns-in-Err-clause-refused
returns-in-Err-clause-refused g c = λ rests.
    let same = c.in_ok-journal.ensures.same in
    rw c.in-Err.ensures.back.0
    (rests_at g.D.SectorDisk.disk _ _ c.in_ok-journal.journal (c.in_ok-journal.ensures.rests rests) same.0 same.1)

pub returns-in-Err-clause-cause : goal.returns-in-Err-clause-cause
returns-in-Err-clause-cause g c = search rules

pub returns-in-Err-clause-run : goal.returns-in-Err-clause-run
returns-in-Err-clause-run g c = λ r behind queued run. rw c.in-Err.ensures.back.0 (c.in_ok-journal.ensures.run r run)

pub returns-in-Err-clause-calls : goal.returns-in-Err-clause-calls
returns-in-Err-clause-calls g c = rw c.in-Err.ensures.back.0 (record {
  first = freeing_calls c.args.journal;
  left = batch_calls (with_slot c.args.journal) (value_of c.args.command ∷ []);
  order = refl;
  made = c.in_ok-journal.ensures.calls;
})
