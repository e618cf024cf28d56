-- A new session is named by the front that it is to have, and what comes back is kept.
use Rattle.std.proofs.Common.{◌≡◌, List, [], ◌∷◌, ◌++◌, refl, subst, sym}
use Rattle.std.proofs.alloc.Global.TheLaws as heap_laws
use Rattle.std.proofs.raw_atomic.Walks.{proved_at, leaves}
use Rattle.std.specs.Prelude.{IfSome}
use Rattle.std.specs.contracts.alloc.Global as heap
use Rattle.std.specs.contracts.impls.GlobalAllocator.TheImpl.{ghosts}
use Rattle.core.proofs.alloc.Calls.{Goes-blank, handle_tells}
use Rattle.core.proofs.atomic.Steps.{Ptr-Good, fm}
use Rattle.core.proofs.cell.Inside.{Good}
use Rattle.core.proofs.option.Option.TheLaws.{the_row_laws as option_laws}
use Rattle.core.specs.contracts.option.Option as option
use Rattle.iol_front.specs.contracts.name.BrandName.TheImpl.{dict}
use Rattle.iol_handed.proofs.opening.Opening.TheLaws as opening_laws
use Rattle.iol_handed.proofs.found.FoundJournal.TheLaws as found_laws
use Rattle.iol_handed.proofs.flash.UnknownFlash.TheLaws as flash_laws
use Rattle.iol_handed.specs.contracts.flash.UnknownFlash as flash
use Rattle.iol_handed.specs.contracts.flash.UnknownFlashFlash.TheImpl.{ghosts as flash_ghosts}
use Rattle.iol_handed.specs.contracts.opening.Opening as opening
use Rattle.iol_handed.specs.contracts.found.FoundJournal as found
use Rattle.iol_c.proofs.Machine.{allocator, both_tt, two, word, word_good}
use Rattle.iol_c.proofs.Named.{named_laws}
use Rattle.iol_c.proofs.Spent.{found_leaves, found_row, front_in, is_named}
use Rattle.iol_c.proofs.Taken.{handed_back, handle_of, may_name, taken_over}
use Rattle.iol_c.proofs.handle.Handle.make.Code as code
use Rattle.iol_c.proofs.handle.Handle.make.Statement.{statement}
use Rattle.iol_c.proofs.hosting.make.Met.{met as callee_met}
use Rattle.iol_c.specs.Handles.{name_of, named}
use Rattle.iol_c.specs.Hosting.{IsMade}
use Rattle.iol_c.specs.contracts.handle.Handle as handle
use Rattle.iol_c.specs.contracts.handle.Handle.make as f
use Rattle.iol_c.specs.contracts.hosting.make as callee
use Rattle.iol_c.specs.contracts.kept.Kept as kept
use base.Fml.{flft, ftrue}
use base.Fraction.{full_share}
use base.Logic.{SProp, emp, ent, id⊢}
use contract.Monad.{fact, fact_i}
use contract.Running.{tables}
use denote.Exit.{rest, yes}
use denote.Param.{layout, param}
use denote.RattleType.{RattleType, owns}
use denote.Signature.{plain, types_at}
use denote.Steps.{heard, nothing}
use denote.Struct.Tuple.{Tuple}
use denote.Triple.Call.{calls_at}
use denote.Triple.Clauses.{Lasts, lasts}
use denote.Triple.Entry.{alive}
use denote.Triple.Spec.{triple_of}
use denote.Triple.Walked.{Goes-dropped, Stays, stay_dropped, walk_of}
use mir.Val.{Val, has_ty}
use prog.Wp.{WpFn}
use types.ByLocal.{alloc_all, free_all, get, get_in, lands_as, look_at, pass_all, sets}
use types.Kit.{‵, raw, ◌⊛◌, ◌$◌, ◌∵◌, !, await, by, drop, fjoin, fjoin3, fsplit, join, keep, later, move, pick, qed, some}
use types.Kit.{split, suffices, use0, use1}
use types.Part.{agg, sub, whole}
use types.Run.{and_then, enter, fld, no_more, of_opd, returns, stop}

pub make_spec : {M : Type 1} → statement M
make_spec 𝓤 𝓛 𝓜 𝓡 wired =
    let 𝓣 = tables 𝓤 𝓛.H 𝓜 𝓡 𝓡.env in let S = f.signature in let E = f.ended in let c = f.clauses 𝓛 𝓜.mem 𝓡.returns in
    let fn = code.function in
    let Z : RattleType = heap.the_row in let LZ = heap_laws.the_row_laws in let H : RattleType = handle.the_row in
    let W : RattleType = flash.the_row in let LW = flash_laws.the_row_laws in
    let A : RattleType = found_row in let LA = option_laws (found.the_row W flash_ghosts) (found_laws.the_row_laws W flash_ghosts LW) in
    let B : RattleType = option.the_row (opening.the_row W flash_ghosts) in
    let LB = option_laws (opening.the_row W flash_ghosts) (opening_laws.the_row_laws W flash_ghosts LW) in
    let spent : Stays E.signature.params E.kept = (stay_dropped (plain (λ _. Z)) yes, (stay_dropped (plain (λ _. A)) yes, tt)) in
    proved_at 𝓛 E spent c 𝓜 𝓡 (
      Goes-dropped 𝓛 0 (plain (λ _. Z)) yes (λ κs x w. refl),
      (
        Goes-blank 𝓛 0 (plain (λ _. A)) yes (λ κs x w.
            found_leaves x w),
        tt,
      ),
    ) f.Key.name fn (code.unfolded 𝓤 𝓛.H 𝓜 𝓡 wired) (λ y are.
    let a = y.0.3.0 in let start = y.0.3.1.0 in
    let Post : Val → SProp 𝓤 = (walk_of 𝓛 E spent c).post y in
    let Runs : List Val → SProp 𝓤 = λ values. WpFn 𝓤 𝓛.H 𝓣.C 𝓣.Λ fn values Post in
    qed 𝓛 ((raw (alive 𝓛 S y.0.0 y.0.1) ⊛
    ‵ (owns (types_at S.params y.0.0) y.0.3 y.0.4)) ∷ raw ((c y.0.0 y.0.3).requires y.1) ∷ []) ∵ split ! $ move ! (1 ∷ []) $ fsplit ! $
    handle_tells (allocator Z Z LZ ghosts) ! a y.0.4.0 (λ h is_h good_h. move ! (1 ∷ []) $ fsplit ! $
    handle_tells (allocator Z A LA (record { dealloc_token = λ _ _ _. ftrue })) ! start y.0.4.1.0 (λ q is_q good_q.
    -- [what was found; nothing; the allocator; the tokens; what is required]
    let front = front_in start in let g = name_of front in let P : RattleType = param 0 named in let K : RattleType = kept.the_row P g in
    let called = triple_of 𝓛 (callee.signature named g dict) (callee.spec named g dict 𝓛 𝓜.mem 𝓡.returns) in
    let z : called.Ghost = ((([], tt), (full_share, tt), tt, (a, (start, tt)), (h ∷ [], (q ∷ [], tt))), tt) in
    suffices ! (Runs (h ∷ q ∷ [])) (subst (λ (values : List Val). ent 𝓤 (Runs (h ∷ q
    ∷ [])) (Runs values)) (sym (λ i. is_h i ++ (is_q i ++ []))) (id⊢ 𝓤 (Runs (h ∷ q ∷ [])))) $
    enter ! 𝓣.C 𝓣.Λ fn (h ∷ q ∷ []) Post $ alloc_all ! (λ l. pass_all ! refl (good_h, (good_q, tt)) $
    sets ! (of_opd ! (get ! refl)) refl good_q $
    fjoin ! $ move ! (1 ∷ 0 ∷ []) $ fjoin ! $
    use0 𝓛 (raw (fact 𝓤 (IfSome start (λ found. found.front ≡ front)))) (fact_i 𝓤 (IfSome start (λ found. found.front ≡ front)) (emp 𝓤)
    (is_named start)) $
    may_name ! _ $ move ! (1 ∷ []) $
    nothing ! $ use0 𝓛 (‵ (flft [] full_share)) (𝓛.lfts.lft-nil full_share) $ join ! $ join ! $ join ! $
    use1 𝓛 (raw (called.pre z)) (id⊢ 𝓤 _) $
    calls_at ! (fm 𝓛 𝓜 𝓡) called (callee_met 𝓤 𝓛 𝓜 𝓡 (code.calls-iol_c::hosting::make 𝓡.env wired) named named_laws g dict (λ _ _ _ _.
    record {})) z
    (and_then ! (get ! refl) (and_then ! (get ! refl) (no_more !))) (λ u.
    use1 𝓛 (later (some (λ (r : K.Denot × B.Denot). ((‵ (flft [] full_share) ⊛ ‵ ftrue) ⊛ ‵ ((Tuple (K ∷ B ∷ [])).own_val r (u ∷ []))) ⊛
    some (λ (ends : Lasts (callee.ended named g dict) ([], tt) z.0.3). ‵ (lasts (callee.ended named g dict) ([], tt) z.0.3 ends) ⊛
    raw (fact 𝓤 (IsMade start r.0.is_open r.0.session r.1)))))) (id⊢ 𝓤 (called.post z u)) $
    await ! tt $ pick ! (λ r. split ! $ move ! (1 ∷ []) $ pick ! (λ _. split ! $ drop ! $
    heard ! (IsMade start r.0.is_open r.0.session r.1) (λ made. split ! $ drop ! $
    taken_over front B LB r.0 r.1 ! refl u (λ v good_v is_out.
    -- [what is kept; what is answered; the tokens; what is required]
    let good' = word_good r.0.at r.0.is_open in let out : Val = two (word r.0.at r.0.is_open) v in
    let after : H.Denot = handle_of front r.0 in
    let good_out : Good (layout (Tuple (H ∷ B ∷ []))) out =
    (both_tt (has_ty (layout H) (word r.0.at r.0.is_open)) (has_ty (layout B) v) good'.0 good_v.0, (good'.1, (good_v.1, tt))) in
    lands_as ! is_out refl good_out $
    sets ! (of_opd ! (get_in ! (fld ! refl (stop !)) (sub ! 0 refl (whole !)))) refl good' $
    sets ! (of_opd ! (get_in ! (fld ! refl (stop !)) (sub ! 1 refl (whole !)))) refl good_v $
    sets ! (of_opd ! (get_in ! (fld ! refl (stop !)) (sub ! 0 refl (whole !)))) refl (Ptr-Good r.0.at) $
    sets ! (of_opd ! (get_in ! (fld ! refl (stop !)) (sub ! 1 refl (whole !)))) refl (tt, tt) $
    sets ! (of_opd ! (get ! refl)) refl (Ptr-Good r.0.at) $
    sets ! (agg ! (and_then ! (get ! refl) (and_then ! (get ! refl) (no_more !)))) refl good' $
    sets ! (of_opd ! (get ! refl)) refl good_v $
    sets ! (agg ! (and_then ! (get ! refl) (and_then ! (get ! refl) (no_more !)))) refl good_out $
    handed_back front B LB r.0 r.1 ! v $
    use0 𝓛 (raw (fact 𝓤 (IsMade start after.is_open after.session r.1))) (fact_i 𝓤 (IsMade start after.is_open after.session r.1) (emp
    𝓤) made) $
    nothing ! $ nothing ! $ nothing ! $ fjoin3 ! $
    -- [nothing; the fact; the result; the tokens; what is required]
    returns ! (look_at ! 0 refl) $ free_all ! refl $ keep ! (3 ∷ 0 ∷ 2 ∷ 1 ∷ []) $
    by ! (leaves 𝓛 E spent c y out (after, r.1) (tt, (rest (A.exit yes) start, tt)) (tt, (tt, tt))))))))))))
