-- Each link has a port that is served over it.
use Rattle.std.proofs.Common.{◌≡◌, ◌⊎◌, inl, inr, refl, ◌<◌, ℕ, ◌+◌, zero, suc, List, [], ◌∷◌, ◌++◌, length, map, Some, slice_get}
use Rattle.std.proofs.Common.{sym, ap, ◌∙◌, length-append}
use Rattle.std.proofs.lemmas.List.{append_assoc, map-append}
use Rattle.iol_types.specs.declared.port_id.TheConstants.{PORTS}
use Rattle.iol_master.specs.declared.working.ServedPort.{ServedPort}

-- an item of a list with one more item is an item of the list before, or the new one at the end
got_further : {A : Type 0} (length_so_far k : ℕ) (there : List A) (new x : A)
    → (slice_get there k ≡ Some x) ⊎ ((k ≡ length_so_far) × (x ≡ new))
    → (slice_get there k ≡ Some x) ⊎ ((suc k ≡ suc length_so_far) × (x ≡ new))
got_further length_so_far k there new x (inl old) = inl old
got_further length_so_far k there new x (inr last) = inr (ap suc last.0, last.1)

got_of_more : {A : Type 0} (xs : List A) (new x : A) (k : ℕ) → slice_get (xs ++ new ∷ []) k ≡ Some x
    → (slice_get xs k ≡ Some x) ⊎ ((k ≡ length xs) × (x ≡ new))
got_of_more [] new x zero is = inr (refl, same is)
  where
    same : Some new ≡ Some x → x ≡ new
    same one = cc
got_of_more [] new x (suc k) is = absurd cc
got_of_more (y ∷ xs) new x zero is = inl is
got_of_more (y ∷ xs) new x (suc k) is = got_further (length xs) k xs new x (got_of_more xs new x k is)

pub longer_by_one : {A : Type 0} (before after : List A) (new : A) → after ≡ before ++ new ∷ [] → length after ≡ length before + 1
longer_by_one before after new more = ap length more ∙ length-append before (new ∷ [])

module _ {L F : Type 0} where
  -- one more link is served
  pub over_more : (links left behind : List L) (before after : List (ServedPort L F)) (new : ServedPort L F)
      → map (λ (its : ServedPort L F). its.link) before ++ left ≡ links → left ≡ new.link ∷ behind → after ≡ before ++ new ∷ []
      → map (λ (its : ServedPort L F). its.link) after ++ behind ≡ links
  over_more links left behind before after new so_far next more =
      let link : ServedPort L F → L = λ (its : ServedPort L F). its.link in
      ap (λ (all : List (ServedPort L F)). map link all ++ behind) more
      ∙ (ap (λ (all : List L). all ++ behind) (map-append link before (new ∷ []))
      ∙ (append_assoc (map link before) (new.link ∷ []) behind ∙ (ap (λ (rest : List L). map link before ++ rest) (sym next) ∙ so_far)))

  its_port : (before : List (ServedPort L F)) (new its : ServedPort L F) (k : ℕ)
      → (slice_get before k ≡ Some its → its.port ≡ k + 1) → (k ≡ length before → new.port ≡ k + 1)
      → (slice_get before k ≡ Some its) ⊎ ((k ≡ length before) × (its ≡ new)) → its.port ≡ k + 1
  its_port before new its k so_far last (inl there) = so_far there
  its_port before new its k so_far last (inr (at, same)) = ap (λ (one : ServedPort L F). one.port) same ∙ last at

  -- the port at place k has the number k + 1
  pub port_more : (before after : List (ServedPort L F)) (new its : ServedPort L F) (k : ℕ)
      → ((k : ℕ) (its : ServedPort L F) → k < PORTS → slice_get before k ≡ Some its → its.port ≡ k + 1)
      → (k ≡ length before → new.port ≡ k + 1) → after ≡ before ++ new ∷ [] → k < PORTS → slice_get after k ≡ Some its
      → its.port ≡ k + 1
  port_more before after new its k so_far last more below there =
      its_port before new its k (so_far k its below) last
      (got_of_more before new its k (ap (λ (all : List (ServedPort L F)). slice_get all k) (sym more) ∙ there))
