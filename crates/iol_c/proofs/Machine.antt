-- What the machine has of a struct of two fields: what is owned of the struct is what is owned of the fields. Assumes `Logic`.
use Rattle.std.proofs.Common.{◌≡◌, ℕ, List, [], ◌∷◌, ◌++◌, refl, subst, ◌∙◌}
use Rattle.core.proofs.alloc.Calls.{Al, handle_tells}
use Rattle.core.proofs.atomic.Steps.{Ptr-Good}
use Rattle.core.proofs.cell.Inside.{Good, one}
use Rattle.core.specs.declared.alloc.Allocator.{Ghosts}
use Rattle.std_alloc.proofs.ResultValues.{and_tt}
use Rattle.std_alloc.specs.Box.Ownership.{box_owns}
use Rattle.iol_c.specs.contracts.apart.Apart as apart
use base.Fml.{Fml, fsep}
use base.Logic.{never, fst∗}
use denote.Builtin.{RawPtr, bool}
use denote.Laws.{Is, Lawful, Typed, shows}
use denote.Memory.{lone}
use denote.Param.{layout}
use denote.Param.Laws.{Laws}
use denote.RattleType.{RattleType, Valss}
use denote.RawPtr.{Ptr, block_ptr, null_ptr, ptr_val, in_a_block}
use denote.Steps.{nothing, peeks}
use denote.Struct.Struct.{Shape, Struct, within}
use denote.Struct.Tuple.{Tuple}
use lib.Dec.{T}
use mathlib.Core.Bool.{Bool, true, false, ◌&&◌}
use mir.Raw.{raw as bare}
use mir.Syntax.{Ty, dnil, impl, tnil, ty_ptr}
use mir.Val.{Val, WT, has_ty, of_list, vbool, vcons, vnil, vptr, vstruct}
use seplogic.Ra.Ura.{Ura}
use types.Kit.{Goal, Item, Seq, Step, step, ‵, ◌$◌, drop, feq_i, feq_l, fjoin, fjoin3, fpack, fpick, fsplit, fsplit3, move, rewrite}
use types.Logic.{Logic, sem}

abbrev pub two : Val → Val → Val
two first second = vstruct (vcons first (vcons second vnil))

pub both_tt : (first second : Bool) → T first → T second → T (first && (second && true))
both_tt true true x y = tt
both_tt true false x y = absurd y
both_tt false second x y = absurd x

-- an address and a truth value
abbrev pub word : Ptr → Bool → Val
word at is_open = two (ptr_val at) (vbool is_open)

pub word_good : (at : Ptr) (is_open : Bool) → T (has_ty ty_ptr (ptr_val at) && true) × WT (word at is_open)
word_good at is_open = (both_tt (has_ty ty_ptr (ptr_val at)) true (Ptr-Good at).0 tt, ((Ptr-Good at).1, (tt, tt)))

-- the fields of a struct, which is all that is owned of it by its fields
abbrev pub fields_of : List RattleType → Shape
fields_of rows = record { name = []; args = []; types = []; fields = rows }

abbrev Word : Ptr → Bool → List Val → Fml
Word at is_open = (Struct (fields_of (RawPtr ∷ bool ∷ []))).own_val (at, (is_open, tt))

module _ {M : Type 1} {𝓤 : Ura M} {𝓛 : Logic 𝓤} {K : Type 0} {Γ : List (Item 𝓤)} {G : Goal 𝓤 𝓛.H} where
  -- a struct of an address and a truth value, beside what else it owns
  pub word_in : K → (at : Ptr) (is_open : Bool) (heap : Fml)
      → Step K 𝓛 (‵ (fsep (Word at is_open (word at is_open ∷ [])) heap) ∷ Γ) G (‵ heap ∷ Γ) G
  word_in k at is_open heap = step (λ rest. let value : Val = word at is_open in
      nothing k $ feq_i k (List Val) (vbool is_open ∷ []) (vbool is_open ∷ []) refl $ fjoin k $
      feq_i k (List Val) (ptr_val at ∷ []) (ptr_val at ∷ []) refl $ fjoin k $
      feq_i k (List Val) (value ∷ []) (value ∷ []) refl $ fjoin k $
      fpack k (Valss (RawPtr ∷ bool ∷ [])) (within (fields_of (RawPtr ∷ bool ∷ [])) (at, (is_open, tt)) (value ∷ []))
      (ptr_val at ∷ [], (vbool is_open ∷ [], tt)) $ fjoin k $ rest)

  pub word_out : K → (at : Ptr) (is_open : Bool) (heap : Fml) (values : List Val)
      → (values ≡ word at is_open ∷ [] → Seq K 𝓛 (‵ heap ∷ Γ) G)
      → Seq K 𝓛 (‵ (fsep (Word at is_open values) heap) ∷ Γ) G
  word_out k at is_open heap values rest =
      fsplit k $ fpick k (λ each. fsplit k $ feq_l k (λ whole. fsplit k $ feq_l k (λ first. fsplit k $ feq_l k (λ second. drop k $ rest
      (subst (λ (xs : List Val). values ≡ vstruct (of_list (ptr_val at ∷ (xs ++ []))) ∷ []) second
      (subst (λ (xs : List Val). values ≡ vstruct (of_list (xs ++ (each.1.0 ++ []))) ∷ []) first whole))))))

-- a box that is taken apart, at any type and allocator
module _ (R Z : RattleType) (L : Laws Z) (g : Ghosts Z.Denot) where
  abbrev pub Apart : RattleType
  Apart = apart.the_row R Z g

  abbrev pub allocator : Al
  allocator = record { row = Z; laws = L; g = g; d = impl [] tnil dnil; drops = impl [] tnil dnil }

  abbrev owned : Z.Denot → Ptr → R.Denot → Fml
  owned alloc at value = box_owns (g.dealloc_token alloc) R at value

  pub apart_good : (b o : ℕ) (h : Val) → Good (layout Z) h → T (has_ty (layout Z) h && true) × WT (two (vptr b o) h)
  apart_good b o h good = (and_tt (has_ty (layout Z) h) good.0, (tt, (good.1, tt)))

  module _ {M : Type 1} {𝓤 : Ura M} {𝓛 : Logic 𝓤} {K : Type 0} {Γ : List (Item 𝓤)} {G : Goal 𝓤 𝓛.H} where
    pub apart_in : K → (b o : ℕ) (h : Val) (alloc : Z.Denot) (value : R.Denot)
        → Step K 𝓛 (‵ (Apart.own_val (record { at = block_ptr b o; alloc = alloc; value = value }) (two (vptr b o) h ∷ [])) ∷ Γ) G
        (‵ (owned alloc (block_ptr b o) value) ∷ ‵ (Z.own_val alloc (h ∷ [])) ∷ Γ) G
    apart_in k b o h alloc value = step (λ rest. let whole : Val = two (vptr b o) h in
        nothing k $ move k (2 ∷ 0 ∷ []) $ fjoin k $ feq_i k (List Val) (vptr b o ∷ []) (vptr b o ∷ []) refl $ fjoin k $
        feq_i k (List Val) (whole ∷ []) (whole ∷ []) refl $ fjoin k $
        fpack k (Valss (RawPtr ∷ Z ∷ [])) (within (fields_of (RawPtr ∷ Z ∷ [])) (block_ptr b o, (alloc, tt)) (whole ∷ []))
        (vptr b o ∷ [], (h ∷ [], tt)) $ fjoin k $ rest)

    pub apart_out : K → (d : Apart.Denot) (values : List Val)
        → ((b o : ℕ) (h : Val) → d.at ≡ block_ptr b o → values ≡ two (vptr b o) h ∷ [] → Good (layout Z) h
        → Seq K 𝓛 (‵ (owned d.alloc (block_ptr b o) d.value) ∷ ‵ (Z.own_val d.alloc (h ∷ [])) ∷ Γ) G)
        → Seq K 𝓛 (‵ (Apart.own_val d values) ∷ Γ) G
    apart_out k d values rest =
        fsplit k $ fpick k (λ each. fsplit k $ feq_l k (λ whole. fsplit k $ feq_l k (λ first. fsplit k $
        handle_tells allocator k d.alloc each.1.0 (λ h second good. move k (1 ∷ []) $ drop k $ move k (1 ∷ []) $
        in_a_block k d.at (λ p. owned d.alloc p d.value) (fst∗ 𝓤 (never 𝓤)
        (sem 𝓛 (g.dealloc_token d.alloc (bare (lone R.mir)) null_ptr))) (λ b o place.
        rest b o h place
        (subst (λ (p : Ptr). values ≡ two (ptr_val p) h ∷ []) place
        (subst (λ (xs : List Val). values ≡ vstruct (of_list (ptr_val d.at ∷ (xs ++ []))) ∷ []) second
        (subst (λ (xs : List Val). values ≡ vstruct (of_list (xs ++ (each.1.0 ++ []))) ∷ []) first whole))) good)))))

-- a pair of values
module _ (P Q : RattleType) {M : Type 1} {𝓤 : Ura M} {𝓛 : Logic 𝓤} {K : Type 0} {Γ : List (Item 𝓤)} {G : Goal 𝓤 𝓛.H}
    (x : P.Denot) (y : Q.Denot) where
  pub pair_in : K → (v w : Val)
      → Step K 𝓛 (‵ ((Tuple (P ∷ Q ∷ [])).own_val (x, y) (two v w ∷ [])) ∷ Γ) G (‵ (P.own_val x (v ∷ [])) ∷ ‵ (Q.own_val y (w ∷ [])) ∷ Γ) G
  pair_in k v w = step (λ rest. nothing k $ move k (1 ∷ 2 ∷ 0 ∷ []) $ fjoin3 k $
      feq_i k (List Val) (two v w ∷ []) (two v w ∷ []) refl $ fjoin k $
      fpack k (Valss (P ∷ Q ∷ [])) (within (fields_of (P ∷ Q ∷ [])) (x, (y, tt)) (two v w ∷ [])) (v ∷ [], (w ∷ [], tt)) $ rest)

  pub pair_out : K → P.mir ≡ layout P ∷ [] → Q.mir ≡ layout Q ∷ [] → Lawful 𝓛 P → Lawful 𝓛 Q → (values : List Val)
      → ((v w : Val) → Good (layout P) v → Good (layout Q) w → values ≡ two v w ∷ []
      → Seq K 𝓛 (‵ (P.own_val x (v ∷ [])) ∷ ‵ (Q.own_val y (w ∷ [])) ∷ Γ) G)
      → Seq K 𝓛 (‵ ((Tuple (P ∷ Q ∷ [])).own_val (x, y) values) ∷ Γ) G
  pair_out k is_P is_Q LP LQ values rest =
      fpick k (λ each. fsplit k $ feq_l k (λ whole. fsplit3 k $
      peeks k P (Is P) (shows 𝓛 P) x each.0 (λ first. move k (1 ∷ []) $ peeks k Q (Is Q) (shows 𝓛 Q) y each.1.0 (λ second.
      let v = one (layout P) each.0 (subst (λ (types : List Ty). Typed types each.0) is_P (LP.typed x each.0 first)) in
      let w = one (layout Q) each.1.0 (subst (λ (types : List Ty). Typed types each.1.0) is_Q (LQ.typed y each.1.0 second)) in
      rewrite k 0 (λ (xs : List Val). ‵ (Q.own_val y xs)) w.1 refl $ rewrite k 1 (λ (xs : List Val). ‵ (P.own_val x xs)) v.1 refl $
      move k (2 ∷ []) $ drop k $ move k (1 ∷ 0 ∷ []) $
      rest v.0 w.0 v.2 w.2 (whole ∙ (λ i. vstruct (of_list (v.1 i ++ (w.1 i ++ []))) ∷ []))))))
