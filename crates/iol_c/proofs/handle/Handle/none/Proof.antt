-- A handle with no session owns nothing.
use Rattle.std.proofs.Common.{◌≡◌, [], ◌∷◌, refl}
use Rattle.std.proofs.raw_atomic.Walks.{proved_at, leaves}
use Rattle.iol_front.specs.Fronts.{FrontId, no_front}
use Rattle.iol_handed.specs.Sessions.{SessionView, ended}
use Rattle.iol_c.proofs.Machine.{word, word_good, word_in}
use Rattle.iol_c.proofs.handle.Handle.none.Code as code
use Rattle.iol_c.proofs.handle.Handle.none.Statement.{statement}
use Rattle.iol_c.specs.Boxes.{boxed_at}
use Rattle.iol_c.specs.Handles.{handle_owns, session_of}
use Rattle.iol_c.specs.contracts.handle.Handle.none as f
use base.Logic.{emp}
use contract.Monad.{fact, fact_i}
use contract.Running.{tables}
use denote.RattleType.{owns}
use denote.RawPtr.{null_ptr}
use denote.Signature.{types_at}
use denote.Steps.{nothing}
use denote.Triple.Entry.{alive}
use denote.Triple.Walked.{walk_of}
use mathlib.Core.Bool.{false}
use types.ByLocal.{alloc_all, free_all, look_at, pass_all, sets}
use types.Kit.{‵, raw, ◌⊛◌, ◌$◌, ◌∵◌, !, by, feq_i, fpack, keep, qed, split, use0}
use types.Part.{agg}
use types.Run.{and_then, enter, false_lit, lit, no_more, returns}

pub none_spec : {M : Type 1} → statement M
none_spec 𝓤 𝓛 𝓜 𝓡 wired =
    let 𝓣 = tables 𝓤 𝓛.H 𝓜 𝓡 𝓡.env in let S = f.signature in let E = f.ended in let c = f.clauses 𝓛 𝓜.mem 𝓡.returns in
    let fn = code.function in
    proved_at 𝓛 E tt c 𝓜 𝓡 tt f.Key.name fn (code.unfolded 𝓤 𝓛.H 𝓜 𝓡 wired) (λ y are.
    let W = walk_of 𝓛 E tt c in
    qed 𝓛 ((raw (alive 𝓛 S y.0.0 y.0.1) ⊛
    ‵ (owns (types_at S.params y.0.0) y.0.3 y.0.4)) ∷ raw ((c y.0.0 y.0.3).requires y.1) ∷ []) ∵ split ! $
    enter ! 𝓣.C 𝓣.Λ fn [] (W.post y) $ alloc_all ! (λ l. pass_all ! refl tt $
    sets ! (agg ! (and_then ! (lit ! tt) (and_then ! (false_lit !) (no_more !)))) refl (word_good null_ptr false) $
    feq_i ! SessionView ended ended refl $ fpack ! FrontId (λ front. boxed_at (session_of front) ended false null_ptr ended) no_front $
    word_in ! null_ptr false (handle_owns false null_ptr ended) $
    use0 𝓛 (raw (fact 𝓤 ((false ≡ false) × (ended ≡ ended)))) (fact_i 𝓤 ((false ≡ false) × (ended ≡ ended)) (emp 𝓤) (refl, refl)) $
    nothing ! $
    returns ! (look_at ! 0 refl) $ free_all ! refl $ keep ! (3 ∷ 0 ∷ 2 ∷ 1 ∷ []) $
    by ! (leaves 𝓛 E tt c y (word null_ptr false) (record { at = null_ptr; is_open = false; session = ended }) tt tt)))
