-- A session is kept by the address of its box, and owns what the box does.
use Rattle.std.proofs.Common.{◌≡◌, List, [], ◌∷◌, ◌++◌, refl, subst, sym}
use Rattle.std.proofs.alloc.Global.TheLaws as heap_laws
use Rattle.std.proofs.raw_atomic.Walks.{proved_at, leaves}
use Rattle.std.specs.contracts.alloc.Global as heap
use Rattle.std.specs.contracts.impls.GlobalAllocator.TheImpl.{ghosts}
use Rattle.std.specs.declared.alloc.Global.{Global}
use Rattle.std_alloc.specs.Box.Ownership.{box_owns}
use Rattle.iol_handed.specs.Sessions.{ended}
use Rattle.iol_handed.specs.contracts.session.Session as session
use Rattle.iol_c.proofs.Machine.{Apart, apart_good, apart_out, two, word, word_good, word_in}
use Rattle.iol_c.proofs.kept.Kept.of.Code as code
use Rattle.iol_c.proofs.kept.Kept.of.Statement.{statement}
use Rattle.iol_c.specs.Boxes.{boxed_at}
use Rattle.iol_c.specs.contracts.kept.Kept.of as f
use base.Logic.{SProp, emp, ent, id⊢}
use contract.Monad.{fact, fact_i}
use contract.Running.{tables}
use denote.Exit.{no}
use denote.Param.{bounded, param}
use denote.RattleType.{RattleType, owns}
use denote.RawPtr.{block_ptr}
use denote.Signature.{plain, types_at}
use denote.Steps.{nothing}
use denote.Triple.Entry.{alive}
use denote.Triple.Walked.{Goes-dropped, Stays, stay_dropped, walk_of}
use mathlib.Core.Bool.{true}
use mir.MapTy.{inst_fn}
use mir.Syntax.{a_type, dcons, dnil}
use mir.Val.{Val, vptr}
use prog.Wp.{WpFn}
use types.ByLocal.{alloc_all, free_all, get, get_in, look_at, pass_all, sets}
use types.Kit.{‵, raw, ◌⊛◌, ◌$◌, ◌∵◌, !, by, fjoin, fpack, fsplit, keep, move, qed, split, suffices, use0}
use types.Part.{agg, sub, whole}
use types.Run.{and_then, enter, fld, no_more, of_opd, returns, stop, true_lit}

pub of_spec : {M : Type 1} → statement M
of_spec 𝓤 𝓛 𝓜 𝓡 wired F L g d met =
    let 𝓣 = tables 𝓤 𝓛.H 𝓜 𝓡 𝓡.env in let S = f.signature F g d in let E = f.ended F g d in let c = f.clauses F g d 𝓛 𝓜.mem 𝓡.returns in
    let given = bounded (a_type ∷ []) (F, tt) (dcons d dnil) in let fn = inst_fn given code.function in
    let R : RattleType = session.the_row (param 0 F) g in let A : RattleType = Apart R heap.the_row heap_laws.the_row_laws ghosts in
    let spent : Stays E.signature.params E.kept = (stay_dropped (plain (λ _. A)) no, tt) in
    proved_at 𝓛 E spent c 𝓜 𝓡 (Goes-dropped 𝓛 1 (plain (λ _. A)) no (λ κs x w. refl), tt) (f.Key.name given) fn (code.unfolded 𝓤 𝓛.H 𝓜
    𝓡 wired (F, tt) d) (λ y are.
    let Post : Val → SProp 𝓤 = (walk_of 𝓛 E spent c).post y in
    let Runs : List Val → SProp 𝓤 = λ values. WpFn 𝓤 𝓛.H 𝓣.C 𝓣.Λ fn values Post in let x = y.0.3.0 in
    qed 𝓛 ((raw (alive 𝓛 S y.0.0 y.0.1) ⊛
    ‵ (owns (types_at S.params y.0.0) y.0.3 y.0.4)) ∷ raw ((c y.0.0 y.0.3).requires y.1) ∷ []) ∵ split ! $ move ! (1 ∷ []) $ fsplit ! $
    apart_out R heap.the_row heap_laws.the_row_laws ghosts ! x y.0.4.0 (λ b o h place is good. let value : Val = two (vptr b o) h in
    let at = block_ptr b o in
    -- [the session in its box; the allocator; nothing; the tokens; what is required]
    suffices ! (Runs (value ∷ [])) (subst (λ (values : List Val). ent 𝓤 (Runs (value
    ∷ [])) (Runs values)) (sym (λ i. is i ++ [])) (id⊢ 𝓤 (Runs (value ∷ [])))) $
    enter ! 𝓣.C 𝓣.Λ fn (value ∷ []) Post $
    alloc_all ! (λ l. pass_all ! refl (apart_good R heap.the_row heap_laws.the_row_laws ghosts b o h good, tt) $
    sets ! (of_opd ! (get_in ! (fld ! refl (stop !)) (sub ! 0 refl (whole !)))) refl (tt, tt) $
    sets ! (agg ! (and_then ! (get ! refl) (and_then ! (true_lit !) (no_more !)))) refl (word_good at true) $
    fpack ! Global (λ alloc. box_owns (ghosts.dealloc_token alloc) R at x.value) x.alloc $
    word_in ! at true (boxed_at R ended true at x.value) $
    use0 𝓛 (raw (fact 𝓤 ((true ≡ true) × (x.value ≡ x.value)))) (fact_i 𝓤 ((true ≡ true) × (x.value ≡ x.value)) (emp 𝓤) (refl, refl)) $
    nothing ! $ nothing ! $ fjoin ! $
    -- [nothing; the fact; the result; the allocator; nothing; the tokens; what is required]
    returns ! (look_at ! 0 refl) $ free_all ! refl $ keep ! (5 ∷ 0 ∷ 2 ∷ 1 ∷ []) $
    by ! (leaves 𝓛 E spent c y (word at true) (record { at = at; is_open = true; session = x.value }) (tt, tt) (tt, tt)))))
