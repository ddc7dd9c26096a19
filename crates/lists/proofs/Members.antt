-- Members: the component with the k-th smallest id is member k.
--     ids_distinct                             where no id is repeated, an id stands at one place
--     smaller_at                               the lower bound of an id in the table is how many ids are below it
--     table_strict                             the table rises strictly
--     member_place, member_key                 key k of the table has the place and the id of member k
--     member_id_lem                                the id of member k is that of the component for which it stands
--     member_below, member_rises, member_inj   members are below the count, rise with the ids, and are distinct
-- Assumes nothing.
use Rattle.std.specs.Prelude.{Option, Some, None}
use mathlib.Core.Path.{◌≡◌, refl, sym, ap, ◌∙◌}
use mathlib.Core.Bool.{Bool, true, false}
use mathlib.Core.Logic.{◌↔◌, ⊎_elim}
use mathlib.Core.List.{List, [], ◌∷◌}
use Prim.Native.Nat.{ℕ, zero, suc, ◌+◌, ◌*◌, ◌/◌, ◌%◌, ◌≤◌, ◌<◌}
use native.Mathlib.Nat.{eq-or-lt_of_le, le_of_suc-le-suc}
use native.Mathlib.Omega.{arith}
use lib.ListN.{length, get_or}
use lib.Dec.{eqb, ltb}
use lib.IntN.{ℤ}
use borrow.Author.Tests.{eqb-true, eqb-false, ltb-true, lt-ltb, le-ltb}
use Rattle.tables.specs.Order.{one, tally, Distinct, StrictlyAscending, LowerBound}
use Rattle.tables.specs.Laws.{order?, tally_append, tally_rearranged, tally_below, distinct_rearranged, ascending_strict}
use Rattle.tables.specs.Pairs.{pair, span}
use Rattle.sets.specs.Members.{as_nat, count_below}
use Rattle.sets.proofs.Counts.{count_cong, count_le, count_none}
use Rattle.lists.specs.Records.{component, component_count}
use Rattle.lists.specs.First.{is_found}
use Rattle.lists.specs.Ids.{place_below, used_earlier, first_repeated, id_key, keys_up_to, IdTable, smaller_ids, member_of, MemberPlace, MemberId}
use Rattle.lists.proofs.Search.{never, none_found}
use Rattle.lists.proofs.Table.{table_rising, table_place, table_id}

-- ---- counting places

nat_mono : (a b : Bool) → (a ≡ true → b ≡ true) → as_nat a ≤ as_nat b
nat_mono true b h = rw (h refl) (omega arith)
nat_mono false b h = omega arith

module _ (P Q : ℕ → Bool) where
  pub count_mono : (n : ℕ) → ((i : ℕ) → i < n → P i ≡ true → Q i ≡ true) → count_below P n ≤ count_below Q n
  unfolding count_below
  count_mono zero h = omega arith
  count_mono (suc n) h = omega (arith, count_mono n (λ i l. h i (omega arith)), nat_mono (P n) (Q n) (h n (omega arith)))

  -- Q holds at a place more
  pub count_less : (n : ℕ) → ((i : ℕ) → i < n → P i ≡ true → Q i ≡ true) → (j : ℕ) → j < n → P j ≡ false → Q j ≡ true → count_below P n < count_below Q n
  unfolding count_below
  count_less zero h j l p q = absurd (omega arith)
  count_less (suc n) h j l p q =
      let most = nat_mono (P n) (Q n) (h n (omega arith)) in
      ⊎_elim
      (λ (same : j ≡ n).
      let none : as_nat (P n) ≡ 0 = rw (← same, p) in
      let some : as_nat (Q n) ≡ 1 = rw (← same, q) in
      omega (arith, count_mono n (λ i m. h i (omega arith))))
      (λ (less : j < n). omega (arith, count_less n (λ i m. h i (omega arith)) j less p q))
      (eq-or-lt_of_le (le_of_suc-le-suc l))

not_true : (b : Bool) → (b ≡ true → ⊥) → b ≡ false
not_true true h = absurd (h refl)
not_true false h = refl

-- the test holds at one place at most
pub count_once : (P : ℕ → Bool) (n : ℕ) → ((i j : ℕ) → i < j → j < n → P i ≡ true → P j ≡ true → ⊥) → count_below P n ≤ 1
unfolding count_below
count_once P zero h = omega arith
count_once P (suc n) h = go (P n) refl (count_once P n (λ i j l m. h i j l (omega arith)))
  where
    go : (t : Bool) → P n ≡ t → count_below P n ≤ 1 → count_below P n + as_nat t ≤ 1
    go true e rest = omega (arith, count_none P n (λ i l. not_true (P i) (λ q. h i n l (omega arith) q e)))
    go false e rest = omega arith

-- ---- ids that are used once

found_none : (f : Option ℕ) → is_found f ≡ false → f ≡ None
found_none (Some k) e = never (sym e)
found_none None e = refl

module _ (cs : List ℤ) (once : first_repeated cs ≡ None) where
  not_earlier : (j k : ℕ) → j < k → k < component_count cs → (component cs j).id ≡ (component cs k).id → ⊥
  unfolding first_repeated place_below
  not_earlier j k l h e =
      let id = (component cs k).id in
      let unused = none_found (used_earlier cs) 0 (component_count cs) once k (omega arith) (omega arith) in
      let none = none_found (λ i. eqb (component cs i).id id) 0 k (found_none (place_below cs k id) unused) j (omega arith) (omega arith) in
      eqb-false (component cs j).id id none e

  pub ids_distinct : (j k : ℕ) → j < component_count cs → k < component_count cs → (component cs j).id ≡ (component cs k).id → j ≡ k
  ids_distinct j k h l e =
      ⊎_elim
      (λ (le : j ≤ k). ⊎_elim (λ same. same) (λ less. absurd (not_earlier j k less l e)) (eq-or-lt_of_le le))
      (λ (more : k < j). absurd (not_earlier k j more h (sym e)))
      (order? j k)

-- ---- how many ids are below an id

ltb_more : (v a b : ℕ) → a ≤ b → ltb v a ≡ true → ltb v b ≡ true
ltb_more v a b h e = lt-ltb v b (omega (arith, ltb-true v a e))

module _ (cs : List ℤ) where
  smaller_mono : (a b : ℕ) → a ≤ b → smaller_ids cs a ≤ smaller_ids cs b
  unfolding smaller_ids
  smaller_mono a b h =
      count_mono (λ k. ltb (component cs k).id a) (λ k. ltb (component cs k).id b) (component_count cs)
      (λ i l. ltb_more (component cs i).id a b h)

  -- an id that is used counts below each greater one
  pub smaller_less : (j b : ℕ) → j < component_count cs → (component cs j).id < b → member_of cs j < smaller_ids cs b
  unfolding smaller_ids
  smaller_less j b h l =
      let a = (component cs j).id in
      count_less (λ k. ltb (component cs k).id a) (λ k. ltb (component cs k).id b) (component_count cs)
      (λ i m. ltb_more (component cs i).id a b (omega arith))
      j h (le-ltb a a (omega arith)) (lt-ltb a b l)

  pub member_below : (k : ℕ) → k < component_count cs → member_of cs k < component_count cs
  unfolding smaller_ids
  member_below k h =
      let id = (component cs k).id in
      let less = count_less (λ i. ltb (component cs i).id id) (λ _. true) (component_count cs) (λ i l e. refl) k h (le-ltb id id (omega arith)) refl in
      omega (arith, count_le (λ _. true) (component_count cs))

  pub member_rises : (j k : ℕ) → j < component_count cs → ((component cs j).id < (component cs k).id) ↔ (member_of cs j < member_of cs k)
  member_rises j k h = (
    smaller_less j (component cs k).id h,
    λ l. ⊎_elim
        (λ (le : (component cs k).id ≤ (component cs j).id). absurd (omega (arith, smaller_mono _ _ le)))
        (λ less. less)
        (order? (component cs k).id (component cs j).id),
  )

  pub member_inj : first_repeated cs ≡ None → (j k : ℕ) → j < component_count cs → k < component_count cs → member_of cs j ≡ member_of cs k → j ≡ k
  member_inj once j k h l e =
      let le : (component cs j).id ≤ (component cs k).id =
      ⊎_elim (λ m. m) (λ m. absurd (omega (arith, smaller_less k (component cs j).id l m))) (order? (component cs j).id (component cs k).id) in
      let ge : (component cs k).id ≤ (component cs j).id =
      ⊎_elim (λ m. m) (λ m. absurd (omega (arith, smaller_less j (component cs k).id h m))) (order? (component cs k).id (component cs j).id) in
      ids_distinct cs once j k h l (omega arith)

-- ---- the keys

one_nat : (b : Bool) → one b ≡ as_nat b
one_nat true = refl
one_nat false = refl

keys_tally : (p : ℕ → Bool) (cs : List ℤ) (n : ℕ) → tally p (keys_up_to cs n) ≡ count_below (λ k. p (id_key cs k)) n
unfolding keys_up_to count_below
keys_tally p cs zero = refl
keys_tally p cs (suc n) =
    omega (arith, tally_append p (keys_up_to cs n) (id_key cs n ∷ []), keys_tally p cs n, one_nat (p (id_key cs n)))

-- two places below the span make two keys
pub keys_distinct : (cs : List ℤ) (n : ℕ) → n ≤ span → Distinct (keys_up_to cs n)
keys_distinct cs n few = record {
  once = λ v. rw (keys_tally (eqb v) cs n) (count_once (λ k. eqb v (id_key cs k)) n (λ i j l h p q.
      let a = eqb-true v (id_key cs i) p in
      let b = eqb-true v (id_key cs j) q in
      omega arith));
}

key_below : (a k id : ℕ) → k < span → ltb (pair a k) (id * span) ≡ ltb a id
key_below a k id h =
    ⊎_elim
    (λ (l : id ≤ a). le-ltb (pair a k) (id * span) (omega arith) ∙ sym (le-ltb a id l))
    (λ (l : a < id). lt-ltb (pair a k) (id * span) (omega arith) ∙ sym (lt-ltb a id l))
    (order? id a)

-- ---- the table

module _ {cs : List ℤ} {keys : List ℕ} (t : IdTable cs keys) where
  pub smaller_at : (id : ℕ) {r : ℕ} → LowerBound keys (id * span) r → r ≡ smaller_ids cs id
  unfolding smaller_ids
  smaller_at id s =
      let n = component_count cs in
      sym (tally_below s (table_rising t)) ∙ tally_rearranged t.sorted.rearranged (λ v. ltb v (id * span))
      ∙ keys_tally (λ v. ltb v (id * span)) cs n
      ∙ count_cong (λ k. ltb (id_key cs k) (id * span)) (λ k. ltb (component cs k).id id) n
      (λ k h. key_below (component cs k).id k id (omega (arith, t.few)))

  pub table_strict : StrictlyAscending keys
  table_strict = ascending_strict (table_rising t) (distinct_rearranged t.sorted.rearranged (keys_distinct cs (component_count cs) t.few))

  module _ (k : ℕ) (h : k < length keys) where
    -- where no id is repeated, the keys before key k have smaller ids
    pub before_key : first_repeated cs ≡ None → (j : ℕ) → j < k → get_or keys j 0 < get_or keys k 0 / span * span
    before_key once j l =
        let g : j < length keys = omega arith in
        let less = table_strict.at j k l h in
        ⊎_elim
        (λ (le : get_or keys k 0 / span * span ≤ get_or keys j 0).
        let same : get_or keys j 0 / span ≡ get_or keys k 0 / span = omega arith in
        let place = ids_distinct cs once _ _ (table_place t j g) (table_place t k h) (table_id t j g ∙ same ∙ sym (table_id t k h)) in
        absurd (omega arith))
        (λ lt. lt)
        (order? (get_or keys k 0 / span * span) (get_or keys j 0))

    pub member_place : MemberPlace cs k (get_or keys k 0 % span)
    member_place = record {
      below = table_place t k h;
      member = λ once.
          ap (smaller_ids cs) (table_id t k h) ∙ sym (smaller_at (get_or keys k 0 / span) (record {
            within = omega arith;
            before = λ o. before_key once;
            from = λ o j l g. omega (arith, o.at k j l g);
          }));
    }

    pub member_key : MemberId cs k (get_or keys k 0 / span)
    member_key = record { place = get_or keys k 0 % span; stands = member_place; id = sym (table_id t k h) }

-- the id of member k is that of every component for which k stands
pub member_id_lem : {cs : List ℤ} {k r : ℕ} → MemberId cs k r → first_repeated cs ≡ None → (p : ℕ) → p < component_count cs → member_of cs p ≡ k
    → r ≡ (component cs p).id
member_id_lem {cs} m once p h e =
    m.id ∙ ap (λ (q : ℕ). (component cs q).id) (member_inj cs once m.place p m.stands.below h (m.stands.member once ∙ sym e))
