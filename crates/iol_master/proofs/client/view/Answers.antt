use Rattle.std.proofs.Common.{◌≡◌, ◌+◌, ◌≤◌, Some, length, ap}
use Rattle.iol_types.specs.State.{port_numbered}
use Rattle.iol_core.specs.Standing.{state_at}
use Rattle.iol_core.specs.declared.port.View.{View}
use Rattle.iol_master.specs.Callers.{GuardedView}
use Rattle.iol_master.proofs.Reading.{first_of, lawful_view, no_views, refused_known, second_of, views}
use Rattle.iol_master.proofs.client.view.Goals as goal

pub returns-clause-number : goal.returns-clause-number
returns-clause-number g c =
    let start = g.F.Name.front.start in
    first_of (λ (view : View). view.number ≤ start.number + length c.view.new.pass)
    (λ (view : View). port_numbered (state_at start c.view.new.pass view.number) c.args.port ≡ Some view.port) c.view.result
    (views start c.deref_mut.result.now.engine.core c.view.new.self.engine.core c.view.new.pass c.args.port c.view.result
    c.view.ensures.view (ap (λ (v : GuardedView). v.engine.core) c.view.ensures.others) c.view.ensures.stands c.view.ensures.met)

pub returns-clause-port : goal.returns-clause-port
returns-clause-port g c =
    let start = g.F.Name.front.start in
    second_of (λ (view : View). view.number ≤ start.number + length c.view.new.pass)
    (λ (view : View). port_numbered (state_at start c.view.new.pass view.number) c.args.port ≡ Some view.port) c.view.result
    (views start c.deref_mut.result.now.engine.core c.view.new.self.engine.core c.view.new.pass c.args.port c.view.result
    c.view.ensures.view (ap (λ (v : GuardedView). v.engine.core) c.view.ensures.others) c.view.ensures.stands c.view.ensures.met)

pub returns-clause-unknown : goal.returns-clause-unknown
returns-clause-unknown g c =
    no_views g.F.Name.front.start c.deref_mut.result.now.engine.core c.view.new.self.engine.core c.args.port c.view.result
    c.view.ensures.view (ap (λ (v : GuardedView). v.engine.core) c.view.ensures.others) c.view.ensures.stands

pub returns-clause-memory : goal.returns-clause-memory
returns-clause-memory g c =
    refused_known g.F.Name.front.start c.deref_mut.result.now.engine.core c.view.new.self.engine.core c.args.port c.view.result
    c.view.ensures.memory (ap (λ (v : GuardedView). v.engine.core) c.view.ensures.others) c.view.ensures.stands

pub returns-clause-lawful : goal.returns-clause-lawful
returns-clause-lawful g c =
    lawful_view g.F.Name.front.start c.deref_mut.result.now.engine.core c.view.new.self.engine.core c.view.new.pass c.args.port
    c.view.result c.view.ensures.view (ap (λ (v : GuardedView). v.engine.core) c.view.ensures.others) c.view.ensures.stands
    c.view.ensures.met c.view.ensures.lawful
