-- A box is taken apart by one call, which hands over what it owns.
use Rattle.std.proofs.Common.{◌≡◌, List, [], ◌∷◌, ◌++◌, ap, refl, subst, sym, ◌∙◌}
use Rattle.std.proofs.raw_atomic.Walks.{proved_at, leaves}
use Rattle.std_alloc.proofs.BoxSteps.Form as box
use Rattle.std_alloc.proofs.BoxSteps.Steps.{box_in, box_out}
use Rattle.std_alloc.proofs.boxed.Box.into_raw_with_allocator.Met.{met as callee_met}
use Rattle.std_alloc.specs.Box.Ownership.{box_owns}
use Rattle.std_alloc.specs.contracts.boxed.Box.into_raw_with_allocator as callee
use Rattle.core.proofs.alloc.Calls.{Goes-blank, handle_tells}
use Rattle.core.proofs.atomic.Steps.{fm}
use Rattle.iol_c.proofs.Machine.{apart_good, apart_in, two}
use Rattle.iol_c.proofs.apart.Apart.of.Code as code
use Rattle.iol_c.proofs.apart.Apart.of.Statement.{statement}
use Rattle.iol_c.specs.contracts.apart.Apart.of as f
use base.Fml.{flft, fsep, ftrue}
use base.Logic.{SProp, emp, ent, fst∗, id⊢, never}
use contract.Monad.{fact, fact_i}
use contract.Running.{tables}
use denote.Builtin.{RawPtr}
use denote.Exit.{no}
use denote.Param.{bounded, layout, param}
use denote.Param.Laws.{param_laws}
use denote.RattleType.{RattleType, owns}
use denote.RawPtr.{Ptr, block_ptr, in_a_block, null_ptr, ptr_val}
use denote.Signature.{plain, types_at}
use denote.Steps.{heard, nothing, only}
use denote.Struct.Tuple.{Tuple}
use denote.Triple.Call.{calls_at}
use denote.Triple.Spec.{triple_of}
use denote.Triple.Walked.{Stays, stay_dropped, walk_of}
use mir.MapTy.{inst_fn}
use mir.Raw.{raw as bare}
use mir.Syntax.{a_type, dcons, dnil}
use mir.Val.{Val, of_list, vptr, vstruct}
use prog.Wp.{WpFn}
use types.ByLocal.{alloc_all, free_all, get, get_in, lands_as, look_at, pass_all, sets}
use types.Kit.{‵, raw, ◌⊛◌, ◌$◌, ◌∵◌, !, await, by, drop, feq_l, fjoin, fpick, fsplit, join, keep, later, move, pick, qed, rewrite, some}
use types.Kit.{split, split3, suffices, use0, use1}
use types.Logic.{sem}
use types.Part.{agg, sub, whole}
use types.Run.{and_then, enter, fld, no_more, of_opd, returns, stop}

pub of_spec : {M : Type 1} → statement M
of_spec 𝓤 𝓛 𝓜 𝓡 wired T A LT LA g d dx dd allocator glue glued =
    let 𝓣 = tables 𝓤 𝓛.H 𝓜 𝓡 𝓡.env in let E = f.ended T A g d dx dd in let c = f.clauses T A g d dx dd 𝓛 𝓜.mem 𝓡.returns in
    let given = bounded (a_type ∷ a_type ∷ []) (T, (A, tt)) (dcons d (dcons dx (dcons dd dnil))) in let fn = inst_fn given code.function in
    let R : RattleType = param 0 T in let Z : RattleType = param 1 A in let LZ = param_laws 1 A LA in
    let B : box.Bx = record { row = T; laws = LT; al = record { row = A; laws = LA; g = g; d = d; drops = dd } } in
    let spent : Stays E.signature.params E.kept = (stay_dropped (plain (λ _. box.B B)) no, tt) in
    proved_at 𝓛 E spent c 𝓜 𝓡 (Goes-blank 𝓛 2 (plain (λ _. box.B B)) no (λ κs x w. tt), tt) (f.Key.name given) fn (code.unfolded 𝓤 𝓛.H
    𝓜 𝓡 wired (T, (A, tt)) d dx dd) (λ y are.
    let κs = y.0.0 in let qs = y.0.1 in let x = y.0.3.0 in let a = x.alloc in
    let tokens = ‵ (flft κs.0 qs.0) ⊛ ‵ (flft κs.1.0 qs.1.0) ⊛ ‵ ftrue in
    let Post : Val → SProp 𝓤 = (walk_of 𝓛 E spent c).post y in
    let Runs : List Val → SProp 𝓤 = λ values. WpFn 𝓤 𝓛.H 𝓣.C 𝓣.Λ fn values Post in
    qed 𝓛 ((tokens ⊛ ‵ (owns (types_at E.signature.params κs) y.0.3 y.0.4)) ∷ raw ((c κs y.0.3).requires y.1) ∷ []) ∵ split ! $
    move ! (1 ∷ []) $ fsplit ! $
    box_out B ! x y.0.4.0 (λ b o h place is good. box_in B ! x b o x.value place refl $
    -- [the box; nothing; the tokens; what is required]
    let w : Val = box.word B h b o in let typed = apart_good R Z LZ g b o h good in
    let called = triple_of 𝓛 (callee.signature T A g d dd dx) (callee.spec T A g d dd dx 𝓛 𝓜.mem 𝓡.returns) in
    let z : called.Ghost = ((κs, qs, tt, (x, tt), (w ∷ [], tt)), tt) in let Both : RattleType = Tuple (RawPtr ∷ Z ∷ []) in
    fjoin ! $ move ! (1 ∷ 0 ∷ []) $ join ! $ join ! $ use1 𝓛 (raw (called.pre z)) (id⊢ 𝓤 _) $
    suffices ! (Runs (w ∷ [])) (subst (λ (values : List Val). ent 𝓤 (Runs (w
    ∷ [])) (Runs values)) (sym (λ i. is i ++ [])) (id⊢ 𝓤 (Runs (w ∷ [])))) $
    enter ! 𝓣.C 𝓣.Λ fn (w ∷ []) Post $ alloc_all ! (λ l. pass_all ! refl (typed, tt) $ sets ! (of_opd ! (get ! refl)) refl typed $
    calls_at ! (fm 𝓛 𝓜 𝓡) called (callee_met 𝓤 𝓛 𝓜 𝓡 (code.calls-std_alloc::boxed::Box::into_raw_with_allocator 𝓡.env wired) T A LT LA
    g d dd dx allocator glued glue) z (and_then ! (get ! refl) (no_more !)) (λ u.
    use1 𝓛 (later (some (λ (r : Ptr × A.Denot). (tokens ⊛ ‵ (Both.own_val r (u ∷ []))) ⊛ some (λ (_ : (Unit {0} × (Unit {0}
    × Unit {0})) × Unit {0}).
    ‵ (fsep (fsep ftrue (fsep ftrue ftrue)) ftrue) ⊛ (raw (fact 𝓤 (r.1 ≡ a)) ⊛
    ‵ (box_owns (g.dealloc_token a) R r.0 x.value)))))) (id⊢ 𝓤 _) $
    await ! tt $ pick ! (λ r. split ! $ move ! (1 ∷ []) $ pick ! (λ _. split3 ! $ drop ! $ heard ! (r.1 ≡ a) (λ same.
    in_a_block ! r.0 (λ p. box_owns (g.dealloc_token a) R p x.value) (fst∗ 𝓤 (never 𝓤) (sem 𝓛 (g.dealloc_token a (bare (layout T))
    null_ptr))) (λ b' o' place'.
    -- [the value in its box; the tokens with the result; nothing; what is required]
    move ! (1 ∷ []) $ split ! $ move ! (1 ∷ []) $ fpick ! (λ each. fsplit ! $ feq_l ! (λ both. fsplit ! $ feq_l ! (λ at. fsplit ! $
    rewrite ! 0 (λ (alloc : A.Denot). ‵ (A.own_val alloc each.1.0)) same refl $ handle_tells B.al ! a each.1.0 (λ h' alloc good'.
    let made = apart_good R Z LZ g b' o' h' good' in
    lands_as ! (ap only (both ∙ (λ i. vstruct (of_list ((at ∙ ap (λ (p : Ptr). ptr_val p ∷ []) place') i ++ (alloc i ++ [])))
    ∷ []))) refl made $
    sets ! (of_opd ! (get_in ! (fld ! refl (stop !)) (sub ! 0 refl (whole !)))) refl (tt, tt) $
    sets ! (of_opd ! (get_in ! (fld ! refl (stop !)) (sub ! 1 refl (whole !)))) refl good' $
    sets ! (of_opd ! (get ! refl)) refl good' $ sets ! (agg ! (and_then ! (get ! refl) (and_then ! (get ! refl) (no_more !)))) refl made $
    move ! (3 ∷ 0 ∷ []) $ apart_in R Z LZ g ! b' o' h' a x.value $
    use0 𝓛 (raw (fact 𝓤 (x.value ≡ x.value))) (fact_i 𝓤 (x.value ≡ x.value) (emp 𝓤) refl) $ nothing ! $ nothing ! $ fjoin ! $
    -- [nothing; the fact; the result; nothing; the tokens; what is required]
    returns ! (look_at ! 0 refl) $ free_all ! refl $ keep ! (4 ∷ 0 ∷ 2 ∷ 1 ∷ []) $
    by ! (leaves 𝓛 E spent c y (two (vptr b' o') h') (record { at = block_ptr b' o'; alloc = a; value = x.value }) ((tt, (tt, tt)), tt)
    (tt, tt))))))))))))))
