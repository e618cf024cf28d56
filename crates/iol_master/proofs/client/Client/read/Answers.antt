use Rattle.std.proofs.Common.{◌≡◌, ◌-◌, ℕ, List, take, Some, Result, Ok, Err, IfOk, rules}
use Rattle.iol_types.specs.Command.{CommandValue}
use Rattle.iol_types.specs.State.{port_numbered}
use Rattle.iol_core.specs.Standing.{state_at}
use Rattle.iol_core.specs.declared.port.View.{View}
use Rattle.iol_front.specs.Fronts.{Start}
use Rattle.iol_headline.proofs.Lists.{sets_uploaded}
use Rattle.iol_headline.specs.Lists.{IsLawfulList, SetsWereUploaded}
use Rattle.iol_master.proofs.client.Client.read.Goals as goal

-- the port in a view after a lawful list has the sets of that list
sets_of : {E : Type 0} (start : Start) (seen : List CommandValue) (port : ℕ) (answer : Result View E)
    → IfOk answer (λ (view : View). IsLawfulList start view.number (take (view.number - start.number) seen))
    → IfOk answer (λ (view : View). port_numbered (state_at start seen view.number) port ≡ Some view.port)
    → IfOk answer (λ (view : View). SetsWereUploaded start view.number (take (view.number - start.number) seen) port view.port)
sets_of start seen port (Ok view) list there =
    sets_uploaded start view.number (take (view.number - start.number) seen) port view.port list there
sets_of start seen port (Err why) list there = tt

pub returns-clause-number : goal.returns-clause-number
returns-clause-number g c = search rules

pub returns-clause-sets : goal.returns-clause-sets
returns-clause-sets g c =
    let start = g.F.Name.front.start in
    let list :
    IfOk c.match-view.result (λ (view : View). IsLawfulList start view.number (take (view.number - start.number) c.view.new.pass)) =
    search rules in
    let there :
    IfOk c.match-view.result (λ (view : View).
    port_numbered (state_at start c.view.new.pass view.number) c.args.port ≡ Some view.port) =
    search rules in
    sets_of start c.view.new.pass c.args.port c.match-view.result list there
