use Rattle.std.proofs.Common.{◌≡◌, None, refl, ap, sym, ◌∙◌}
use Rattle.iol_types.specs.Command.{Configure, Clear, Store, Rollback, value_of}
use Rattle.iol_types.specs.State.{State, configured, cleared, with_set, exchanged, fault_at, store_fault, rollback_fault, check, apply}
use Rattle.iol_types.proofs.PortLemmas.{lent, numbered, changes, same_device}
use Rattle.iol_types.proofs.master_state.MasterState.apply.Goals as goal

pub store-requires-clause-device : goal.store-requires-clause-device
store-requires-clause-device c =
    let set = c.in-Store.set.value in
    let state = c.args.self.now in
    let found = lent c.self.inside.ports c.place-in-Store.result c.in-Some-get_mut-2.state.now
    (c.in-Some-get_mut-2.ensures.variant.0 refl) c.in-Some-get_mut-2.ensures.value in
    let passes : check c.self.inside.ports.items (Store c.in-Store.port c.in-Store.revision set) ≡ None =
    ap (λ (state : State). check state (Store c.in-Store.port c.in-Store.revision set)) c.self.view_is
    ∙ ap (λ command. check state (value_of command)) (sym c.in-Store.is) ∙ c.requires in
    same_device c.in-Some-get_mut-2.state.now c.in-Store.revision set
    (ap (λ port. fault_at port (λ port. store_fault port c.in-Store.revision set))
    (sym (numbered c.self.inside.ports.items c.in-Store.port c.place-in-Store.result c.in-Some-get_mut-2.state.now
    c.place-in-Store.ensures.place found)) ∙ passes)

pub roll_back-requires : goal.roll_back-requires
roll_back-requires c =
    let state = c.args.self.now in
    let found = lent c.self.inside.ports c.place-in-Rollback.result c.in-Some-get_mut-3.state.now
    (c.in-Some-get_mut-3.ensures.variant.0 refl) c.in-Some-get_mut-3.ensures.value in
    let passes : check c.self.inside.ports.items (Rollback c.in-Rollback.port) ≡ None =
    ap (λ (state : State). check state (Rollback c.in-Rollback.port)) c.self.view_is
    ∙ ap (λ command. check state (value_of command)) (sym c.in-Rollback.is) ∙ c.requires in
    ap (λ port. fault_at port rollback_fault)
    (sym (numbered c.self.inside.ports.items c.in-Rollback.port c.place-in-Rollback.result c.in-Some-get_mut-3.state.now
    c.place-in-Rollback.ensures.place found)) ∙ passes

pub returns-in-Some : goal.returns-in-Some
returns-in-Some c =
    let found = lent c.self.inside.ports c.place.result c.in-Some.state.now (c.in-Some.ensures.variant.0 refl) c.in-Some.ensures.value in
    changes c.self.inside.ports.items c.in-Configure.port c.place.result c.in-Some.state.now c.configure.new.self
    (λ port. configured port c.in-Configure.config) c.place.ensures.place found c.configure.ensures
    ∙ ap (λ (state : State). apply state (Configure c.in-Configure.port c.in-Configure.config)) c.self.view_is
    ∙ ap (λ command. apply c.args.self.now (value_of command)) (sym c.in-Configure.is)

pub returns-in-Some-get_mut : goal.returns-in-Some-get_mut
returns-in-Some-get_mut c =
    let found = lent c.self.inside.ports c.place-in-Clear.result c.in-Some-get_mut.state.now (c.in-Some-get_mut.ensures.variant.0 refl)
    c.in-Some-get_mut.ensures.value in
    changes c.self.inside.ports.items c.in-Clear.port c.place-in-Clear.result c.in-Some-get_mut.state.now c.clear.new.self cleared
    c.place-in-Clear.ensures.place found c.clear.ensures
    ∙ ap (λ (state : State). apply state (Clear c.in-Clear.port)) c.self.view_is
    ∙ ap (λ command. apply c.args.self.now (value_of command)) (sym c.in-Clear.is)

pub returns-in-Some-get_mut-2 : goal.returns-in-Some-get_mut-2
returns-in-Some-get_mut-2 c =
    let set = c.in-Store.set.value in
    let found = lent c.self.inside.ports c.place-in-Store.result c.in-Some-get_mut-2.state.now
    (c.in-Some-get_mut-2.ensures.variant.0 refl) c.in-Some-get_mut-2.ensures.value in
    changes c.self.inside.ports.items c.in-Store.port c.place-in-Store.result c.in-Some-get_mut-2.state.now c.store.new.self
    (λ port. with_set port set) c.place-in-Store.ensures.place found c.store.ensures
    ∙ ap (λ (state : State). apply state (Store c.in-Store.port c.in-Store.revision set)) c.self.view_is
    ∙ ap (λ command. apply c.args.self.now (value_of command)) (sym c.in-Store.is)

pub returns-in-Some-get_mut-3 : goal.returns-in-Some-get_mut-3
returns-in-Some-get_mut-3 c =
    let found = lent c.self.inside.ports c.place-in-Rollback.result c.in-Some-get_mut-3.state.now
    (c.in-Some-get_mut-3.ensures.variant.0 refl) c.in-Some-get_mut-3.ensures.value in
    changes c.self.inside.ports.items c.in-Rollback.port c.place-in-Rollback.result c.in-Some-get_mut-3.state.now c.roll_back.new.self
    exchanged c.place-in-Rollback.ensures.place found c.roll_back.ensures
    ∙ ap (λ (state : State). apply state (Rollback c.in-Rollback.port)) c.self.view_is
    ∙ ap (λ command. apply c.args.self.now (value_of command)) (sym c.in-Rollback.is)
