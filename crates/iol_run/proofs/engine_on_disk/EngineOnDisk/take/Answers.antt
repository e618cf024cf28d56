use Rattle.std.proofs.Common.{◌≡◌, ◌≤◌, ◌+◌, ℕ, true, None, Option, IfSome, length, ap, sym, ◌∙◌, subst}
use Rattle.std.proofs.lemmas.List.{length-map}
use Rattle.iol_types.specs.Command.{value_of}
use Rattle.iol_types.specs.State.{legal}
use Rattle.iol_core.specs.Batches.{IsTake, IsTaken}
use Rattle.iol_flush.specs.Stages as flush
use Rattle.iol_flush.specs.Steps.{HasTaken}
use Rattle.iol_journal.specs.Body.{values}
use Rattle.iol_journal.specs.declared.batch.Batch.{Batch}
use Rattle.iol_flush.specs.Stages.{room_of, FitsArea}
use Rattle.iol_journal.specs.Numbers.{LAST_NUMBER}
use Rattle.iol_run.specs.EngineOnDisk.{EngineOnDiskView}
use Rattle.iol_run.specs.CoreOnDisk.{CoreOnDiskView, IsInStep}
use Rattle.iol_engine.specs.Events.{told_of}
use Rattle.iol_run.specs.Turns.{Takes}
use Rattle.iol_run.specs.declared.turn.Turned.{Turned}
use Rattle.iol_run.proofs.Batches.{given_in_step, given_running}
use Rattle.iol_run.proofs.InStep.{from_none, master_is, to_none}
use Rattle.iol_run.proofs.engine_on_disk.EngineOnDisk.take.Goals as goal

pub invariant_of-self : goal.invariant_of-self
invariant_of-self g c =
    let i = c.self.inside in
    let none : i.committed ≡ None = ap (λ (m : EngineOnDiskView g.row.D.Denot). m.master.committed) c.self.view_is ∙ c.requires.needs.0 in
    let batch = c.in-Ok-Some.batch in
    let start = g.F.Name.front.start in
    let stands = subst (λ (m : CoreOnDiskView g.row.D.Denot). flush.IsInStep start m.flusher.stage m.flusher.published) (sym
    (master_is c.self.view_is))
    c.requires.stands in
    let took = subst (λ (o : Option Batch). IsTake i.engine.core c.room.result c.take_batch.new.self.core o) c.in-Ok-Some.field-0-is
    c.in-Ok-Some.ensures.take in
    let room = room_of i.flusher.stage in
    let is : IsTaken i.engine.core room c.take_batch.new.self.core batch =
    subst (λ (room : ℕ). IsTaken i.engine.core room c.take_batch.new.self.core batch) c.room.ensures.room took in
    let passes = subst (λ (o : Option Batch). IfSome o (λ b. legal i.engine.core.durable
    (values b.commands.items) ≡ true)) c.in-Ok-Some.field-0-is
    c.in-Ok-Some.ensures.legal in
    let most = subst (λ (o : Option Batch).
    IfSome o (λ b. (length b.commands.items ≤ 64) × (b.first + length b.commands.items ≤ LAST_NUMBER + 1))) c.in-Ok-Some.field-0-is
    c.in-Ok-Some.ensures.bound in
    let bound = subst (λ (n : ℕ). (n ≤ 64) × (batch.first + n ≤ LAST_NUMBER + 1)) (sym (length-map batch.commands.items value_of)) most in
    subst (λ o. IsInStep start c.take_batch.new.self.core c.give.new.self o) (sym none)
    (given_in_step start i.engine.core c.take_batch.new.self.core i.flusher c.give.new.self batch room c.in-Ok.ensures.gift
    c.give.ensures.published
    stands is (subst (FitsArea i.flusher.stage) c.room.ensures.room c.room.ensures.fits)
    passes bound (subst (λ o. IsInStep start i.engine.core i.flusher o) none c.self.invariant))

pub returns-in-Ok-clause-turn : goal.returns-in-Ok-clause-turn
returns-in-Ok-clause-turn g c =
    let i = c.self.inside in
    let V = CoreOnDiskView g.row.D.Denot in
    let none : i.committed ≡ None = ap (λ (m : EngineOnDiskView g.row.D.Denot). m.master.committed) c.self.view_is ∙ c.requires.needs.0 in
    let batch = c.in-Ok-Some.batch in
    let took = subst (λ (o : Option Batch). IsTake i.engine.core c.room.result c.take_batch.new.self.core o) c.in-Ok-Some.field-0-is
    c.in-Ok-Some.ensures.take in
    let room = room_of i.flusher.stage in
    let is : IsTaken i.engine.core room c.take_batch.new.self.core batch =
    subst (λ (room : ℕ). IsTaken i.engine.core room c.take_batch.new.self.core batch) c.room.ensures.room took in
    subst (λ (t : Turned).
    Takes c.args.self.now.master (record { core = c.take_batch.new.self.core; flusher = c.give.new.self; committed = i.committed })
    (told_of c.silent.result.event) t) (sym c.silent.ensures.0) (
      batch,
      subst (λ (m : V). IsTaken m.core (room_of m.flusher.stage) c.take_batch.new.self.core batch) (master_is c.self.view_is) is,
      subst (λ (m : V). HasTaken m.flusher.stage batch c.give.new.self.stage) (master_is c.self.view_is) c.in-Ok.ensures.gift,
      subst (λ (m : V). c.give.new.self.published ≡ m.flusher.published) (master_is c.self.view_is) c.give.ensures.published,
      none,
      c.silent.ensures.1,
    )

pub returns-in-Ok-clause-run : goal.returns-in-Ok-clause-run
returns-in-Ok-clause-run g c =
    let i = c.self.inside in
    let none : i.committed ≡ None = ap (λ (m : EngineOnDiskView g.row.D.Denot). m.master.committed) c.self.view_is ∙ c.requires.needs.0 in
    let batch = c.in-Ok-Some.batch in
    let took = subst (λ (o : Option Batch). IsTake i.engine.core c.room.result c.take_batch.new.self.core o) c.in-Ok-Some.field-0-is
    c.in-Ok-Some.ensures.take in
    let room = room_of i.flusher.stage in
    let is : IsTaken i.engine.core room c.take_batch.new.self.core batch =
    subst (λ (room : ℕ). IsTaken i.engine.core room c.take_batch.new.self.core batch) c.room.ensures.room took in
    to_none g.D.SectorDisk.disk g.F.Name.front.start c.args.self.now.master c.take_batch.new.self.core c.give.new.self i.committed none
    (from_none g.D.SectorDisk.disk g.F.Name.front.start c.args.self.now.master _ i.engine.core i.flusher i.committed
    (master_is c.self.view_is) none
    (given_running g.D.SectorDisk.disk g.F.Name.front.start i.engine.core c.take_batch.new.self.core i.flusher c.give.new.self batch room
    c.in-Ok.ensures.gift c.give.ensures.published is))
