-- A box is made again by one call, which takes over what is owned.
use Rattle.std.proofs.Common.{◌≡◌, List, [], ◌∷◌, ◌++◌, ap, refl, subst, sym}
use Rattle.std.proofs.raw_atomic.Walks.{proved_at, leaves}
use Rattle.std_alloc.proofs.BoxSteps.Form as box
use Rattle.std_alloc.proofs.BoxSteps.Steps.{box_in, box_out}
use Rattle.std_alloc.proofs.boxed.Box.from_raw.Met.{met as callee_met}
use Rattle.std_alloc.specs.contracts.boxed.Box.from_raw as callee
use Rattle.core.proofs.alloc.Calls.{Goes-blank}
use Rattle.core.proofs.alloc.Shapes.{after}
use Rattle.core.proofs.atomic.Steps.{fm}
use Rattle.core.proofs.cell.Inside.{Good}
use Rattle.iol_c.proofs.Machine.{Apart, apart_good, apart_out, two}
use Rattle.iol_c.proofs.apart.Apart.into_box.Code as code
use Rattle.iol_c.proofs.apart.Apart.into_box.Statement.{statement}
use Rattle.iol_c.specs.contracts.apart.Apart.into_box as f
use base.Fml.{flft, ftrue}
use base.Logic.{SProp, ent, id⊢}
use contract.BorrowLft.{◌⊑◌}
use contract.Monad.{fact}
use contract.Running.{tables}
use denote.Exit.{no}
use denote.Param.{bounded, layout, param}
use denote.Param.Laws.{param_laws}
use denote.RattleType.{RattleType, owns}
use denote.RawPtr.{block_ptr}
use denote.Signature.{plain, types_at}
use denote.Steps.{nothing, only}
use denote.Triple.Call.{calls_at_last}
use denote.Triple.Clauses.{Lasts, lasts}
use denote.Triple.Spec.{triple_of}
use denote.Triple.Walked.{Stays, stay_dropped, walk_of}
use mir.MapTy.{inst_fn}
use mir.Syntax.{a_type, dcons, dnil}
use mir.Val.{Val, vptr}
use prog.Wp.{WpFn}
use types.ByLocal.{alloc_all, env, free_all, get, get_in, lands_last, look_at, pass_all, sets}
use types.Kit.{‵, raw, ◌⊛◌, ◌$◌, ◌∵◌, !, at_ret, await, by, drop, feq_i, fjoin, fsplit, join, keep, later, move, pick, qed, rewrite, some}
use types.Kit.{split, split3, suffices, use1}
use types.Part.{sub, whole}
use types.Run.{and_then, blocks, enter, exec, first, fld, no_more, of_opd, returns, stop}

pub into_box_spec : {M : Type 1} → statement M
into_box_spec 𝓤 𝓛 𝓜 𝓡 wired T A LT LA g d dx dd allocator glue glued =
    let 𝓣 = tables 𝓤 𝓛.H 𝓜 𝓡 𝓡.env in let E = f.ended T A g d dx dd in let c = f.clauses T A g d dx dd 𝓛 𝓜.mem 𝓡.returns in
    let given = bounded (a_type ∷ a_type ∷ []) (T, (A, tt)) (dcons d (dcons dx (dcons dd dnil))) in let fn = inst_fn given code.function in
    let R : RattleType = param 0 T in let Z : RattleType = param 1 A in let LZ = param_laws 1 A LA in let P : RattleType = Apart R Z LZ g in
    let B : box.Bx = record { row = T; laws = LT; al = record { row = A; laws = LA; g = g; d = d; drops = dd } } in
    let spent : Stays E.signature.params E.kept = (stay_dropped (plain (λ _. P)) no, tt) in
    proved_at 𝓛 E spent c 𝓜 𝓡 (Goes-blank 𝓛 2 (plain (λ _. P)) no (λ κs x w. tt), tt) (f.Key.name given) fn (code.unfolded 𝓤 𝓛.H 𝓜 𝓡
    wired (T, (A, tt)) d dx dd) (λ y are.
    let κs = y.0.0 in let qs = y.0.1 in let x = y.0.3.0 in let a = x.alloc in
    let tokens = ‵ (flft κs.0 qs.0) ⊛ ‵ (flft κs.1.0 qs.1.0) ⊛ ‵ ftrue in
    let Post : Val → SProp 𝓤 = (walk_of 𝓛 E spent c).post y in
    let Runs : List Val → SProp 𝓤 = λ values. WpFn 𝓤 𝓛.H 𝓣.C 𝓣.Λ fn values Post in
    qed 𝓛 ((tokens ⊛ ‵ (owns (types_at E.signature.params κs) y.0.3 y.0.4)) ∷ raw ((c κs y.0.3).requires y.1) ∷ []) ∵ split ! $
    move ! (1 ∷ []) $ fsplit ! $
    apart_out R Z LZ g ! x y.0.4.0 (λ b o h place is good.
    -- [the value in its box; the allocator; nothing; the tokens; what is required]
    let w : Val = two (vptr b o) h in let typed = apart_good R Z LZ g b o h good in
    let called = triple_of 𝓛 (callee.signature T A g d dd) (callee.spec T A g d dd 𝓛 𝓜.mem 𝓡.returns) in
    let z : called.Ghost = ((κs, qs, tt, (a, (block_ptr b o, tt)), (h ∷ [], (vptr b o ∷ [], tt))), x.value) in
    let Whole : RattleType = box.B B in
    move ! (4 ∷ []) $ use1 𝓛 (raw (fact 𝓤 (κs.0 ⊑ T.lives)) ⊛ raw (fact 𝓤 (κs.1.0 ⊑ A.lives)) ⊛ ‵ ftrue) (id⊢ 𝓤 _) $ split3 ! $
    move ! (2 ∷ []) $ drop ! $
    move ! (1 ∷ 2 ∷ []) $ join ! $ move ! (1 ∷ 0 ∷ []) $ join ! $
    move ! (2 ∷ []) $ feq_i ! (List Val) (vptr b o ∷ []) (vptr b o ∷ []) refl $ fjoin ! $ move ! (2 ∷ 0 ∷ []) $ fjoin ! $
    move ! (2 ∷ 0 ∷ []) $ join ! $ join ! $ use1 𝓛 (raw (called.pre z)) (id⊢ 𝓤 _) $
    suffices ! (Runs (w ∷ [])) (subst (λ (values : List Val). ent 𝓤 (Runs (w
    ∷ [])) (Runs values)) (sym (λ i. is i ++ [])) (id⊢ 𝓤 (Runs (w ∷ [])))) $
    enter ! 𝓣.C 𝓣.Λ fn (w ∷ []) Post $ alloc_all ! (λ l. pass_all ! refl (typed, tt) $
    sets ! (of_opd ! (get_in ! (fld ! refl (stop !)) (sub ! 0 refl (whole !)))) refl (tt, tt) $
    sets ! (of_opd ! (get_in ! (fld ! refl (stop !)) (sub ! 1 refl (whole !)))) refl good $ first ! $ blocks ! $
    sets ! (of_opd ! (get ! refl)) refl good $
    calls_at_last ! (fm 𝓛 𝓜 𝓡) called (callee_met 𝓤 𝓛 𝓜 𝓡 (code.calls-std_alloc::boxed::Box::from_raw 𝓡.env wired) T A LT LA g d dd
    allocator glued) z (and_then ! (get ! refl) (and_then ! (get ! refl) (no_more !))) (λ u.
    use1 𝓛 (later (some (λ (r : Whole.Denot). (tokens ⊛ ‵ (Whole.own_val r (u ∷ []))) ⊛
    some (λ (ends : Lasts (callee.ended T A g d dd) κs z.0.3).
    ‵ (lasts (callee.ended T A g d dd) κs z.0.3 ends) ⊛ (raw (fact 𝓤 (r.value ≡ x.value)) ⊛
    raw (fact 𝓤 (r.alloc ≡ a))))))) (id⊢ 𝓤 (called.post z u)) $
    await ! tt $ pick ! (λ r. split ! $ move ! (1 ∷ []) $ pick ! (λ _. split3 ! $ drop ! $ move ! (2 ∷ []) $ split ! $ move ! (1 ∷ []) $
    -- [the box; the tokens; its value; its allocator; nothing]
    box_out B ! r (u ∷ []) (λ b' o' h' place' is_u good'. box_in B ! r b' o' r.value place' refl $
    rewrite ! 0 (λ (values : List Val). ‵ (Whole.own_val r values)) (sym is_u) refl $
    let good_u : Good (layout Whole) u = subst (Good (layout Whole)) (sym (ap only is_u)) (apart_good R Z LZ g b' o' h' good') in
    lands_last ! refl good_u $ exec ! 𝓣.C 𝓣.Λ (env fn.locals l) (after 3 fn.body) (at_ret (env fn.locals l) Post) $
    sets ! (of_opd ! (get ! refl)) refl good_u $ nothing ! $ nothing ! $ fjoin ! $
    returns ! (look_at ! 0 refl) $ free_all ! refl $ keep ! (2 ∷ 0 ∷ 1 ∷ 3 ∷ []) $
    by ! (leaves 𝓛 E spent c y u r ((tt, (tt, tt)), tt) (tt, tt)))))))))
