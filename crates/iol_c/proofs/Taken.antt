-- What a call hands back under the name of a front is kept in a handle, beside another value. Assumes `Logic`.
use Rattle.std.proofs.Common.{◌≡◌, List, [], ◌∷◌, ap, refl, ◌∙◌}
use Rattle.core.proofs.cell.Inside.{Good}
use Rattle.iol_front.specs.Fronts.{FrontId}
use Rattle.iol_handed.specs.Sessions.{ended}
use Rattle.iol_c.proofs.Machine.{pair_in, pair_out, two, word, word_in, word_out}
use Rattle.iol_c.proofs.Named.{named_laws, named_send, named_sync}
use Rattle.iol_c.proofs.kept.Kept.TheLaws as kept_laws
use Rattle.iol_c.specs.Boxes.{boxed_at}
use Rattle.iol_c.specs.Handles.{handle_owns, name_of, named, session_of}
use Rattle.iol_c.specs.contracts.handle.Handle as handle
use Rattle.iol_c.specs.contracts.kept.Kept as kept
use base.Logic.{emp}
use contract.BorrowLft.{◌⊑◌, ⊑_static}
use contract.Monad.{fact, fact_i}
use denote.Param.{layout, param}
use denote.Param.Laws.{Laws, param_laws}
use denote.Param.Send.{IsSend, IsSync}
use denote.RattleType.{RattleType}
use denote.Steps.{only}
use denote.Struct.Tuple.{Tuple}
use mir.Val.{Val}
use seplogic.Ra.Ura.{Ura}
use types.Kit.{Goal, Item, Seq, Step, step, ‵, raw, ◌⊛◌, ◌$◌, fpack, join, use0}
use types.Logic.{Logic}

abbrev pub kept_row : FrontId → RattleType
kept_row front = kept.the_row (param 0 named) (name_of front)

-- the handle of what is kept
abbrev pub handle_of : (front : FrontId) → (kept_row front).Denot → handle.the_row.Denot
handle_of front kept = record { at = kept.at; is_open = kept.is_open; session = kept.session }

module _ {M : Type 1} {𝓤 : Ura M} {𝓛 : Logic 𝓤} {K : Type 0} {Γ : List (Item 𝓤)} {G : Goal 𝓤 𝓛.H} where
  -- what a call at a name asks of the type that stands for it
  pub may_name : K → (item : Item 𝓤) → Step K 𝓛 ((raw (fact 𝓤 ([] ⊑ named.lives)) ⊛ raw (fact 𝓤 (IsSend (param 0 named)))
      ⊛ raw (fact 𝓤 (IsSync (param 0 named))) ⊛ item) ∷ Γ) G (item ∷ Γ) G
  may_name k item = step (λ rest.
      use0 𝓛 (raw (fact 𝓤 (IsSync (param 0 named)))) (fact_i 𝓤 (IsSync (param 0 named)) (emp 𝓤) named_sync) $ join k $
      use0 𝓛 (raw (fact 𝓤 (IsSend (param 0 named)))) (fact_i 𝓤 (IsSend (param 0 named)) (emp 𝓤) named_send) $ join k $
      use0 𝓛 (raw (fact 𝓤 ([] ⊑ named.lives))) (fact_i 𝓤 ([] ⊑ named.lives) (emp 𝓤) (⊑_static [])) $ join k $ rest)

module _ (front : FrontId) (B : RattleType) (LB : Laws B)
    {M : Type 1} {𝓤 : Ura M} {𝓛 : Logic 𝓤} {K : Type 0} {Γ : List (Item 𝓤)} {G : Goal 𝓤 𝓛.H}
    (r : (kept_row front).Denot) (x : B.Denot) where
  pub taken_over : K → B.mir ≡ layout B ∷ [] → (u : Val)
      → ((v : Val) → Good (layout B) v → u ≡ two (word r.at r.is_open) v
      → Seq K 𝓛 (‵ (boxed_at (session_of front) ended r.is_open r.at r.session) ∷ ‵ (B.own_val x (v ∷ [])) ∷ Γ) G)
      → Seq K 𝓛 (‵ ((Tuple (kept_row front ∷ B ∷ [])).own_val (r, x) (u ∷ [])) ∷ Γ) G
  taken_over k is_B u rest =
      let laws = kept_laws.the_row_laws (param 0 named) (name_of front) (param_laws 0 named named_laws) in
      pair_out (kept_row front) B r x k refl is_B (laws.lawful 𝓛) (LB.lawful 𝓛) (u ∷ []) (λ v v' good_v good_v' is_u.
      word_out k r.at r.is_open (boxed_at (session_of front) ended r.is_open r.at r.session) (v ∷ []) (λ is_v.
      rest v' good_v' (ap only is_u ∙ ap (λ (s : Val). two s v') (ap only is_v))))

  pub handed_back : K → (v : Val)
      → Step K 𝓛 (‵ ((Tuple (handle.the_row ∷ B ∷ [])).own_val (handle_of front r, x) (two (word r.at r.is_open) v ∷ [])) ∷ Γ) G
      (‵ (boxed_at (session_of front) ended r.is_open r.at r.session) ∷ ‵ (B.own_val x (v ∷ [])) ∷ Γ) G
  handed_back k v = step (λ rest.
      fpack k FrontId (λ (name : FrontId). boxed_at (session_of name) ended r.is_open r.at r.session) front $
      word_in k r.at r.is_open (handle_owns r.is_open r.at r.session) $
      pair_in handle.the_row B (handle_of front r) x k (word r.at r.is_open) v $ rest)
