use Rattle.std.proofs.Common.{◌≡◌, ◌<◌, ◌-◌, ◌++◌, ℕ, nat_le, Bool, true, List, get_or, map, length, Some, slice_get, slice_set, refl, ap}
use Rattle.std.proofs.Common.{sym, ◌∙◌, subst, arith}
use Rattle.std.proofs.lemmas.Bool.Decides.{nat_tests}
use Rattle.std.proofs.lemmas.List.{map-set}
use Rattle.std.proofs.lemmas.Option.{slice_get_read, slice_get-map}
use Rattle.std.specs.Option.{option_map}
use Rattle.iol_engine.specs.Events.{told_of}
use Rattle.iol_run.specs.EngineOnDisk.{ports_with}
use Rattle.iol_run.specs.Ports.{StepsIf}
use Rattle.iol_run.proofs.step.step_port.Goals as goal

-- the link at a port's place is the link of the port
link_at : {L : Type 0} (links : List L) (place port : ℕ) (link : L) → place ≡ port - 1 → place < length links
    → link ≡ get_or links place link → slice_get links (port - 1) ≡ Some link
link_at links place port link at within is = ap (slice_get links) (sym at) ∙ slice_get_read links (length links) place link refl within is

pub step-requires-clause-connection : goal.step-requires-clause-connection
step-requires-clause-connection g c κs within =
    let number = g.L.DeviceLink.number in
    let links = c.args.links.now.items in
    let place = c.place-place.result in
    let at : place ≡ c.args.port - 1 = omega (arith, c.place-place.ensures.place) in
    let there : place < length links = omega (arith, c.if-place-len.true, c.len.ensures) in
    ap (λ (ns : List ℕ). slice_get ns (c.args.port - 1)) c.requires.links
    ∙ (slice_get-map number links (c.args.port - 1)
    ∙ ap (option_map number) (link_at links place c.args.port c.index_mut.result.now at there c.index_mut.ensures.value))

pub returns-then-place-len-clause-links : goal.returns-then-place-len-clause-links
returns-then-place-len-clause-links g c =
    let number = g.L.DeviceLink.number in
    let links = c.args.links.now.items in
    let place = c.place-place.result in
    let at : place ≡ c.args.port - 1 = omega (arith, c.place-place.ensures.place) in
    c.step.ensures.connections
    ∙ (ap (λ (ns : List ℕ). slice_set ns (c.args.port - 1) (number c.step.new.link)) c.requires.links
    ∙ (ap (λ (n : ℕ). slice_set (map number links) n (number c.step.new.link)) (sym at)
    ∙ sym (map-set number links place c.step.new.link)))

pub returns-then-place-len-clause-steps : goal.returns-then-place-len-clause-steps
returns-then-place-len-clause-steps g c =
    let l = g.L.DeviceLink in
    let is = c.step.ensures.steps in
    let links = c.args.links.now.items in
    let place = c.place-place.result in
    let at : place ≡ c.args.port - 1 = omega (arith, c.place-place.ensures.place) in
    let within : place < length links = omega (arith, c.if-place-len.true, c.len.ensures) in
    let there : nat_le c.args.port (length links) ≡ true = grind (arith, nat_tests, within, c.place-place.ensures.place) in
    subst (λ (b : Bool).
    StepsIf l.number l.steps b c.args.port c.args.master.now.master c.step.new.self.master (ports_with c.args.master.now links)
    (ports_with c.step.new.self (slice_set links place c.step.new.link))
    (told_of c.step.result.called ++ told_of c.step.result.status)) (sym there) (record {
      before = is.before;
      after = is.after;
      link = c.index_mut.result.now;
      linked = c.step.new.link;
      called = is.called;
      status = is.status;
      some = is.some;
      machine_is = is.machine_is;
      link_is = link_at links place c.args.port c.index_mut.result.now at within c.index_mut.ensures.value;
      steps_as = is.steps_as;
      told_is = is.told_is;
      machines = is.last_is;
      links = ap (λ (n : ℕ). slice_set links n c.step.new.link) at;
      flusher = c.step.ensures.others.0;
      committed = c.step.ensures.others.1;
    })
