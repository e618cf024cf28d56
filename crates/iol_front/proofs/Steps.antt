-- Each step of a seat keeps the rule of the word.
use Rattle.std.proofs.Common.{◌≡◌, ◌≢◌, ℕ, zero, suc, ◌+◌, ◌≤◌, ◌==◌, true, false, true≢false, List, [], ◌∷◌, ◌++◌, length, set, refl, sym}
use Rattle.std.proofs.Common.{ap, ◌∙◌, subst, ⊎_elim, arith, add-zero, length-append}
use Rattle.std.specs.Prelude.{slice_index, slice_set}
use mathlib.Core.Option.{some, some-injective}
use mathlib.Core.List.{IsPrefix}
use prog.Atomic.{either}
use lib.ListN.{get_elem?}
use Rattle.atomic_table.specs.Table.{Me, Step, keeps, step, opening, Allows, Splits, Joins}
use Rattle.atomic_table.proofs.Lists.{at_set, at_snoc, set_again, exchanged}
use Rattle.iol_types.specs.Command.{CommandValue}
use Rattle.iol_journal.specs.Body.{values}
use Rattle.iol_journal.specs.declared.batch.Batch.{Batch}
use Rattle.iol_journal.specs.Numbers.{LAST_NUMBER}
use Rattle.iol_front.specs.Fronts.{Start}
use Rattle.iol_front.specs.Seats.{SeatView, publisher, silent, another_of, told_by}
use Rattle.iol_front.specs.Rule.{IsSo, CountsList, Looked, Published, Retired}
use Rattle.iol_front.proofs.Prefixes.{prefix_self, prefix_nil, prefix_append, prefix_trans}

off : {P : Type 0} → false ≡ true → P
off h = absurd (true≢false (sym h))

so_here : (st : Start) (all : List CommandValue) (who id seat : ℕ) (w v : SeatView) → seat ≡ id → w ≡ v → IsSo st all who id w
    → IsSo st all who seat v
so_here st all who id seat w v p q h = subst (λ (x : SeatView). IsSo st all who seat x) q (subst (λ (k : ℕ). IsSo st all who k w) (sym p) h)

so_set : (st : Start) (all : List CommandValue) (who : ℕ) (views : List SeatView) (id : ℕ) (w : SeatView)
    → ((seat : ℕ) (v : SeatView) → seat ≢ id → get_elem? views seat ≡ some v → IsSo st all who seat v) → IsSo st all who id w
    → (seat : ℕ) (v : SeatView) → get_elem? (set views id w) seat ≡ some v → IsSo st all who seat v
so_set st all who views id w others mine seat v e =
    ⊎_elim (λ t. so_here st all who id seat w v t.0 t.1 mine) (λ t. others seat v t.0 t.1) (at_set views id seat w v e)

-- the first state satisfies the rule
pub begins : {S : Type 0} (st : Start) → st.number ≤ LAST_NUMBER → CountsList {S = S} st (opening (st.number ∷ []) [] (publisher st []))
begins st low = record {
  all = [];
  publisher = 0;
  word = rw add-zero refl;
  bound = rw add-zero low;
  seats = first;
}
  where
    first : (seat : ℕ) (v : SeatView) → get_elem? (publisher st [] ∷ []) seat ≡ some v → IsSo st [] 0 seat v
    first zero v e = subst (λ (x : SeatView). IsSo st [] 0 0 x) (some-injective (publisher st []) v e) (λ _.
        (refl, prefix_nil [], prefix_nil [], λ _. (refl, refl)))
    first (suc j) v e = absurd cc

module _ {S : Type 0} (st : Start) where
  pub looks : (slots id : ℕ) (sp : Step S) (v : SeatView) → v.says ≡ true
      → Allows (CountsList st) slots id (v, []) 0 (λ n. n) (Looked sp (v, []))
  looks slots id sp v says s k long at small =
      let mine = k.seats id v at says in
      let all : List CommandValue = k.all in
      let w : SeatView = record { says = v.says; publishes = v.publishes; start = v.start; seen = all; told = [] } in
      let found : slice_index s.words 0 ≡ st.number + length all = ap (λ ws. slice_index ws 0) k.word in
      let now : slice_index s.words 0 ≡ v.start.number + length all = found ∙ ap (λ (x : Start). x.number + length all) (sym mine.0) in (
        w,
        keeps,
        tt,
        record {
          all = all;
          publisher = k.publisher;
          word = ap (λ ws. slice_set ws 0 (slice_index ws 0)) k.word;
          bound = k.bound;
          seats = so_set st all k.publisher s.views id w (λ seat u _ e. k.seats seat u e) (λ _.
              (mine.0, prefix_self all, prefix_nil all, λ o. (refl, (mine.3 o).1)));
        },
        (
          record {
            same = refl;
            seen = mine.1;
            told = mine.2;
            whole = λ publishing. sym (mine.3 publishing).0;
            count = now;
            bound = subst (λ n. n ≤ LAST_NUMBER) (sym found) k.bound;
          },
          refl,
        ),
      )

  pub retires : (slots id : ℕ) (sp : Step S) (v : SeatView) → Allows (CountsList st) slots id (v, []) 0 (λ n. n) (Retired sp (v, []))
  retires slots id sp v s k long at small = (
    silent,
    keeps,
    tt,
    record {
      all = k.all;
      publisher = k.publisher;
      word = ap (λ ws. slice_set ws 0 (slice_index ws 0)) k.word;
      bound = k.bound;
      seats = so_set st k.all k.publisher s.views id silent (λ seat u _ e. k.seats seat u e) off;
    },
    (refl, refl),
  )

  pub splits : (id : ℕ) (v : SeatView) → Splits (CountsList {S = S} st) id v v (another_of v)
  splits id v s k at = record {
    all = k.all;
    publisher = k.publisher;
    word = k.word;
    bound = k.bound;
    seats = λ seat u e. ⊎_elim
        (λ was. k.seats seat u (subst (λ l. get_elem? l seat ≡ some u) (set_again s.views id v at) was))
        (λ (same : another_of v ≡ u).
        subst (λ (x : SeatView). IsSo st k.all k.publisher seat x) same (λ says. let mine = k.seats id v at says in
        (mine.0, mine.1, prefix_nil k.all, off)))
        (at_snoc (set s.views id v) (another_of v) u seat e);
  }

  pub joins : (id : ℕ) (v : SeatView) (other : ℕ) (w : SeatView) → w.says ≡ true
      → Joins (CountsList {S = S} st) id v other w (told_by v w) silent
  joins id v other w says s k at apart there =
      let theirs : IsSo st k.all k.publisher other w =
      ⊎_elim (λ (t : (other ≡ id) × (told_by v w ≡ w)). absurd (apart t.0)) (λ (t : (other ≢ id) × (get_elem? s.views other ≡ some w)).
      k.seats other w t.1) (at_set s.views id other (told_by v w) w there) in
      let mine : IsSo st k.all k.publisher id (told_by v w) = λ mine_says. let own = k.seats id v at mine_says in
      (own.0, own.1, (theirs says).1, own.3) in
      record {
        all = k.all;
        publisher = k.publisher;
        word = k.word;
        bound = k.bound;
        seats = so_set st k.all k.publisher (set s.views id (told_by v w)) other silent
            (λ seat u _ e. so_set st k.all k.publisher s.views id (told_by v w) (λ seat' u' _ e'. k.seats seat' u' e') mine seat u e) off;
      }

so_more : (st : Start) (all more : List CommandValue) (who seat : ℕ) (v : SeatView) → seat ≢ who → IsSo st all who seat v
    → IsSo st (all ++ more) who seat v
so_more st all more who seat v away h says =
    let own = h says in (
      own.0,
      prefix_trans v.seen all (all ++ more) own.1 (prefix_append all more),
      prefix_trans v.told all (all ++ more) own.2 (prefix_append all more),
      λ o. absurd (away (own.3 o).1),
    )

pub publishes : (st : Start) (slots id : ℕ) (v : SeatView) (b : Batch) (old new : ℕ) → v.says ≡ true → v.publishes ≡ true → old
    ≡ v.start.number + length v.seen → new ≡ old + length (values b.commands.items) → new ≤ LAST_NUMBER
    → Allows (CountsList st) slots id (v, []) 0 (λ n. either (n == old) new n) (Published (step slots 0 old new (some b)) (v, []))
publishes st slots id v b old new says publishing is long low s k len at small =
    let mine = k.seats id v at says in
    let whole = mine.3 publishing in
    let more : List CommandValue = (values b.commands.items) in
    let all : List CommandValue = k.all in
    let w : SeatView = record { says = v.says; publishes = v.publishes; start = v.start; seen = v.seen ++ more; told = v.told } in
    let found : slice_index s.words 0 ≡ st.number + length all = ap (λ ws. slice_index ws 0) k.word in
    let word : slice_index s.words 0 ≡ old = found
    ∙ (ap (λ l. st.number + length l) (sym whole.0) ∙ (ap (λ (x : Start). x.number + length v.seen) (sym mine.0) ∙ sym is)) in
    let sum : length (all ++ more) ≡ length all + length more = length-append all more in
    let low_all : st.number + length (all ++ more) ≤ LAST_NUMBER = omega (arith, found, word, sum, long, low) in
    let next : either (slice_index s.words 0 == old) new (slice_index s.words 0) ≡ st.number + length (all ++ more) =
    exchanged (slice_index s.words 0) old new (λ n. n ≡ st.number + length (all ++ more))
    (λ _. omega arith)
    (λ miss. absurd (miss word)) in (
      w,
      keeps,
      tt,
      record {
        all = all ++ more;
        publisher = k.publisher;
        word = ap (λ ws. slice_set ws 0 (either (slice_index s.words 0 == old) new (slice_index s.words 0))) k.word ∙ ap (λ n. n ∷ []) next;
        bound = low_all;
        seats = so_set st (all ++ more) k.publisher s.views id w
            (λ seat u away e. so_more st all more k.publisher seat u (λ same. away (same ∙ sym whole.1)) (k.seats seat u e))
            (λ _. (
              mine.0,
              subst (λ l. IsPrefix (l ++ more) (all ++ more)) (sym whole.0) (prefix_self (all ++ more)),
              prefix_trans v.told all (all ++ more) mine.2 (prefix_append all more),
              λ _. (ap (λ l. l ++ more) whole.0, whole.1),
            ));
      },
      (refl, refl),
    )

-- the steps of a seat that holds no slot
module _ {S : Type 0} (st : Start) where
  pub looks_as : (slots id : ℕ) (sp : Step S) (m : Me S SeatView) → m.0.says ≡ true → m.1 ≡ []
      → Allows (CountsList st) slots id m 0 (λ n. n) (Looked sp m)
  looks_as slots id sp m says bare =
      subst (λ (c : List (ℕ × S)). Allows (CountsList st) slots id (m.0, c) 0 (λ n. n) (Looked sp (m.0, c))) (sym bare)
      (looks st slots id sp m.0 says)

  pub retires_as : (slots id : ℕ) (sp : Step S) (m : Me S SeatView) → m.1 ≡ [] → Allows (CountsList st) slots id m 0 (λ n. n) (Retired sp m)
  retires_as slots id sp m bare =
      subst (λ (c : List (ℕ × S)). Allows (CountsList st) slots id (m.0, c) 0 (λ n. n) (Retired sp (m.0, c))) (sym bare)
      (retires st slots id sp m.0)

pub publishes_as : (st : Start) (slots id : ℕ) (m : Me Batch SeatView) (b : Batch) (old new : ℕ) → m.0.says ≡ true → m.0.publishes ≡ true
    → m.1 ≡ [] → old ≡ m.0.start.number + length m.0.seen → new ≡ old + length (values b.commands.items) → new ≤ LAST_NUMBER
    → Allows (CountsList st) slots id m 0 (λ n. either (n == old) new n) (Published (step slots 0 old new (some b)) m)
publishes_as st slots id m b old new says publishing bare is long low =
    subst (λ (c : List (ℕ × Batch)).
    Allows (CountsList st) slots id (m.0, c) 0 (λ n. either (n == old) new n) (Published (step slots 0 old new (some b)) (m.0, c)))
    (sym bare) (publishes st slots id m.0 b old new says publishing is long low)
