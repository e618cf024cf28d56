-- The session is had back by the address of its box, where it is there.
use Rattle.std.proofs.Common.{◌≡◌, List, [], ◌∷◌, ◌++◌, lit<, refl, subst, sym}
use Rattle.std.proofs.alloc.Global.TheLaws as heap_laws
use Rattle.std.proofs.raw_atomic.Walks.{proved_at, leaves}
use Rattle.std.specs.Prelude.{MatchOption}
use Rattle.std.specs.contracts.alloc.Global as heap
use Rattle.std.specs.contracts.impls.GlobalAllocator.TheImpl.{ghosts}
use Rattle.std_alloc.proofs.ResultValues.{and_tt}
use Rattle.std_alloc.specs.Box.Ownership.{box_owns}
use Rattle.core.proofs.alloc.Calls.{handle_tells}
use Rattle.core.proofs.alloc.Shapes.{after}
use Rattle.core.proofs.atomic.Steps.{Ptr-Good}
use Rattle.core.proofs.cell.Inside.{Good}
use Rattle.core.proofs.option.Made.{Some-of, none_of}
use Rattle.core.specs.declared.option.Option.{Option}
use Rattle.core.specs.declared.option.Option.TheVariants.{None, Some}
use Rattle.iol_handed.specs.Sessions.{ended}
use Rattle.iol_handed.specs.contracts.session.Session as session
use Rattle.iol_c.proofs.Machine.{Apart, allocator, apart_good, apart_in, two, word, word_good, word_out}
use Rattle.iol_c.proofs.kept.Kept.into_apart.Code as code
use Rattle.iol_c.proofs.kept.Kept.into_apart.Statement.{statement}
use Rattle.iol_c.specs.Boxes.{boxed_at}
use Rattle.iol_c.specs.contracts.kept.Kept as kept
use Rattle.iol_c.specs.contracts.kept.Kept.into_apart as f
use base.Logic.{SProp, emp, ent, fst∗, id⊢, never}
use contract.Monad.{fact, fact_i}
use contract.Running.{tables}
use denote.Exit.{no, yes}
use denote.Memory.{lone}
use denote.Param.{bounded, layout, param}
use denote.RattleType.{RattleType, owns}
use denote.RawPtr.{Ptr, block_ptr, in_a_block, null_ptr}
use denote.Signature.{plain, type_at, types_at}
use denote.Steps.{nothing}
use denote.Triple.Entry.{alive}
use denote.Triple.Walked.{Goes-dropped, Stays, stay_dropped, walk_of}
use mathlib.Core.Bool.{Bool, false, true}
use mir.MapTy.{inst_fn}
use mir.Raw.{raw as bare}
use mir.Syntax.{a_type, dcons, dnil}
use mir.Val.{Val, vcons, vnil, vptr}
use prog.Wp.{WpFn}
use types.ByLocal.{alloc_all, env, free_all, get, get_in, look_at, pass_all, sets, sets_last}
use types.Kit.{‵, raw, ◌⊛◌, ◌$◌, ◌∵◌, !, at_ret, by, feq_l, fjoin3, fpick, fsplit, keep, move, qed, rewrite, split, suffices, use0}
use types.Kit.{use1}
use types.Logic.{sem}
use types.Match.{live}
use types.Part.{agg, sub, whole}
use types.Run.{and_then, branches, enter, exec, first, fld, lit, no_more, of_opd, returns, stop}

by_cases : {X : Type 1} (is_open : Bool) → (is_open ≡ false → X) → (is_open ≡ true → X) → X
by_cases false absent there = absent refl
by_cases true absent there = there refl

pub into_apart_spec : {M : Type 1} → statement M
into_apart_spec 𝓤 𝓛 𝓜 𝓡 wired F L g d met =
    let 𝓣 = tables 𝓤 𝓛.H 𝓜 𝓡 𝓡.env in let S = f.signature F g d in let E = f.ended F g d in let c = f.clauses F g d 𝓛 𝓜.mem 𝓡.returns in
    let given = bounded (a_type ∷ []) (F, tt) (dcons d dnil) in let fn = inst_fn given code.function in
    let Z : RattleType = heap.the_row in let LZ = heap_laws.the_row_laws in let R : RattleType = session.the_row (param 0 F) g in
    let A : RattleType = Apart R Z LZ ghosts in let K : RattleType = kept.the_row (param 0 F) g in
    let spent : Stays E.signature.params E.kept = (stay_dropped (plain (λ _. K)) no, (stay_dropped (plain (λ _. Z)) yes, tt)) in
    proved_at 𝓛 E spent c 𝓜 𝓡 (
      Goes-dropped 𝓛 1 (plain (λ _. K)) no (λ κs x w. refl),
      (Goes-dropped 𝓛 1 (plain (λ _. Z)) yes (λ κs x w. refl), tt),
    ) (f.Key.name given) fn (code.unfolded 𝓤 𝓛.H 𝓜 𝓡 wired (F, tt) d) (λ y are.
    let x = y.0.3.0 in let a = y.0.3.1.0 in let Out : RattleType = type_at S.result y.0.0 in
    let Post : Val → SProp 𝓤 = (walk_of 𝓛 E spent c).post y in
    let Runs : List Val → SProp 𝓤 = λ values. WpFn 𝓤 𝓛.H 𝓣.C 𝓣.Λ fn values Post in
    let Says : Option A.Denot → Type 0 = λ r.
    MatchOption r ((x.is_open ≡ false) × (x.session ≡ ended)) (λ apart. (x.is_open ≡ true) × (apart.value ≡ x.session)) in
    qed 𝓛 ((raw (alive 𝓛 S y.0.0 y.0.1) ⊛
    ‵ (owns (types_at S.params y.0.0) y.0.3 y.0.4)) ∷ raw ((c y.0.0 y.0.3).requires y.1) ∷ []) ∵ split ! $ move ! (1 ∷ []) $ fsplit ! $
    word_out ! x.at x.is_open (boxed_at R ended x.is_open x.at x.session) y.0.4.0 (λ is. move ! (1 ∷ []) $ fsplit ! $
    handle_tells (allocator R Z LZ ghosts) ! a y.0.4.1.0 (λ h is_h good. move ! (2 ∷ []) $
    -- [what is kept; the allocator; nothing; the tokens; what is required]
    by_cases x.is_open
    (λ absent. rewrite ! 0 (λ (t : Bool). ‵ (boxed_at R ended t x.at x.session)) absent refl $ feq_l ! (λ is_ended.
    let w : Val = word x.at false in let out : Val = live 0 vnil in
    let good_out : Good (layout Out) out = (tt, (record { fits = lit< tt }, tt)) in
    suffices ! (Runs (w ∷ h ∷ [])) (subst (λ (values : List Val). ent 𝓤 (Runs (w ∷ h ∷ [])) (Runs values))
    (sym (λ i. subst (λ (t : Bool). y.0.4.0 ≡ word x.at t ∷ []) absent is i ++ (is_h i ++ []))) (id⊢ 𝓤 (Runs (w ∷ h ∷ [])))) $
    enter ! 𝓣.C 𝓣.Λ fn (w ∷ h ∷ []) Post $ alloc_all ! (λ l. pass_all ! refl (word_good x.at false, (good, tt)) $
    sets ! (of_opd ! (get_in ! (fld ! refl (stop !)) (sub ! 0 refl (whole !)))) refl (Ptr-Good x.at) $
    sets ! (of_opd ! (get_in ! (fld ! refl (stop !)) (sub ! 1 refl (whole !)))) refl (tt, tt) $
    sets ! (of_opd ! (get ! refl)) refl (tt, tt) $
    first ! $ branches ! (get ! refl) (λ wrong. absurd wrong) (λ _.
    sets_last ! (agg ! (and_then ! (lit ! tt) (no_more !))) refl good_out $
    exec ! 𝓣.C 𝓣.Λ (env fn.locals l) (after 4 fn.body) (at_ret (env fn.locals l) Post) $
    sets ! (of_opd ! (get ! refl)) refl good_out $
    use0 𝓛 (‵ (Out.own_val None (out ∷ []))) (none_of 𝓛 A) $
    use0 𝓛 (raw (fact 𝓤 (Says None))) (fact_i 𝓤 (Says None) (emp 𝓤) (absent, is_ended)) $ nothing ! $ nothing ! $ nothing ! $ fjoin3 ! $
    -- [nothing; the fact; the result; the allocator; nothing; the tokens; what is required]
    returns ! (look_at ! 0 refl) $ free_all ! refl $ keep ! (5 ∷ 0 ∷ 2 ∷ 1 ∷ []) $
    by ! (leaves 𝓛 E spent c y out None (tt, (tt, tt)) (tt, (tt, tt)))))))
    (λ there. rewrite ! 0 (λ (t : Bool). ‵ (boxed_at R ended t x.at x.session)) there refl $ fpick ! (λ alloc.
    in_a_block ! x.at (λ p. box_owns (ghosts.dealloc_token alloc) R p x.session) (fst∗ 𝓤 (never 𝓤) (sem 𝓛 (ghosts.dealloc_token alloc
    (bare (lone R.mir)) null_ptr))) (λ b o place.
    let w : Val = word (block_ptr b o) true in let apart : Val = two (vptr b o) h in
    let typed = apart_good R Z LZ ghosts b o h good in let out : Val = live 1 (vcons apart vnil) in
    let good_out : Good (layout Out) out = (and_tt _ typed.0, (record { fits = lit< tt }, (typed.1, tt))) in
    let made : A.Denot = record { at = block_ptr b o; alloc = a; value = x.session } in
    let is_w : y.0.4.0 ≡ w ∷ [] = subst (λ (p : Ptr). y.0.4.0 ≡ word p true ∷ []) place (subst (λ (t : Bool). y.0.4.0 ≡ word x.at t
    ∷ []) there is) in
    suffices ! (Runs (w ∷ h ∷ [])) (subst (λ (values : List Val). ent 𝓤 (Runs (w ∷ h
    ∷ [])) (Runs values)) (sym (λ i. is_w i ++ (is_h i ++ []))) (id⊢ 𝓤 (Runs (w ∷ h ∷ [])))) $
    enter ! 𝓣.C 𝓣.Λ fn (w ∷ h ∷ []) Post $ alloc_all ! (λ l. pass_all ! refl (word_good (block_ptr b o) true, (good, tt)) $
    sets ! (of_opd ! (get_in ! (fld ! refl (stop !)) (sub ! 0 refl (whole !)))) refl (tt, tt) $
    sets ! (of_opd ! (get_in ! (fld ! refl (stop !)) (sub ! 1 refl (whole !)))) refl (tt, tt) $
    sets ! (of_opd ! (get ! refl)) refl (tt, tt) $
    first ! $ branches ! (get ! refl) (λ _.
    sets ! (agg ! (and_then ! (get ! refl) (and_then ! (get ! refl) (no_more !)))) refl typed $
    sets_last ! (agg ! (and_then ! (lit ! tt) (and_then ! (get ! refl) (no_more !)))) refl good_out $
    exec ! 𝓣.C 𝓣.Λ (env fn.locals l) (after 4 fn.body) (at_ret (env fn.locals l) Post) $
    sets ! (of_opd ! (get ! refl)) refl good_out $ apart_in R Z LZ ghosts ! b o h a x.session $
    use1 𝓛 (‵ (Out.own_val (Some made) (out ∷ []))) (Some-of 𝓛 A made apart) $
    use0 𝓛 (raw (fact 𝓤 (Says (Some made)))) (fact_i 𝓤 (Says (Some made)) (emp 𝓤) (there, refl)) $ nothing ! $ nothing ! $ nothing ! $
    fjoin3 ! $
    -- [nothing; the fact; the result; nothing; the tokens; what is required]
    returns ! (look_at ! 0 refl) $ free_all ! refl $ keep ! (4 ∷ 0 ∷ 2 ∷ 1 ∷ []) $
    by ! (leaves 𝓛 E spent c y out (Some made) (tt, (tt, tt)) (tt, (tt, tt)))) (λ wrong. absurd wrong))))))))
