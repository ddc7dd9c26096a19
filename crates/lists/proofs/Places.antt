-- The table in which each id's list place is settled (`PlacesOfIds`), beside the sorted keys of the components (`IdTable`).
--     settled_places        where no id is repeated, the table of ids is such a table
--     places_table          and such a table is the table of ids
--     places_laws           what it says of an id, and that none is repeated
-- Assumes nothing.
use Rattle.std.specs.Prelude.{Some, None}
use mathlib.Core.Path.{◌≡◌, refl, sym, ◌∙◌}
use mathlib.Core.Bool.{Bool, true, false, false≢true}
use mathlib.Core.Logic.{⊎_elim}
use mathlib.Core.List.{List, [], ◌∷◌}
use Prim.Native.Nat.{ℕ, suc, ◌+◌, ◌≤◌, ◌<◌}
use native.Mathlib.Nat.{eq-or-lt_of_le}
use native.Mathlib.Omega.{arith}
use lib.ListN.{length, get_or}
use lib.Dec.{eqb}
use lib.IntN.{ℤ}
use borrow.Author.Tests.{eqb-true, eq-eqb, ne_eqb, ltb-true, lt-ltb}
use Rattle.tables.specs.Order.{one, count, member}
use Rattle.tables.specs.Laws.{order?, member_count, at_member, member_at, member_none}
use Rattle.tables.specs.Pairs.{span}
use Rattle.lists.specs.Records.{component, component_count}
use Rattle.lists.specs.Ids.{place_below, place_of, first_repeated, id_key, id_keys, IdTable}
use Rattle.lists.specs.Places.{id_at, place_at, PlacesOfIds, PlacesLaws}
use Rattle.lists.proofs.Search.{first_is, first_nothing}
use Rattle.lists.proofs.Table.{keys_length, keys_at, table_long, table_holds, table_place, table_id, unrepeated_none}
use Rattle.lists.proofs.Members.{keys_distinct, before_key}

-- ---- how often a value stands in a list

-- a list that rises strictly has no value twice
rising_once : (v : ℕ) (xs : List ℕ) → ((i j : ℕ) → i < j → j < length xs → get_or xs i 0 < get_or xs j 0) → count v xs ≤ 1
rising_once v [] rises = omega arith
rising_once v (x ∷ xs) rises = go (eqb v x) refl (rising_once v xs (λ i j l h. rises (suc i) (suc j) (omega arith) (omega arith)))
  where
    go : (t : Bool) → eqb v x ≡ t → count v xs ≤ 1 → one t + count v xs ≤ 1
    go false e rest = omega (arith, rest)
    go true e rest =
        let same = eqb-true v x e in
        let none = member_none v xs (λ k h q. omega (arith, rises 0 (suc k) (omega arith) (omega arith))) in
        ⊎_elim
        (λ (z : count v xs ≤ 0). omega arith)
        (λ (p : 0 < count v xs). absurd (false≢true (sym none ∙ member_count v xs ∙ lt-ltb 0 (count v xs) p)))
        (order? (count v xs) 0)

-- a value that stands in xs once at most, and then in ys
count_most : (v : ℕ) (xs ys : List ℕ) → count v xs ≤ 1 → (member v xs ≡ true → member v ys ≡ true) → count v xs ≤ count v ys
count_most v xs ys once stands =
    ⊎_elim
    (λ (z : count v xs ≤ 0). omega arith)
    (λ (p : 0 < count v xs). omega (arith, ltb-true 0 (count v ys) (sym (member_count v ys) ∙ stands (member_count v xs ∙ lt-ltb 0 (count v xs) p))))
    (order? (count v xs) 0)

-- ---- from the table of ids

module _ {cs : List ℤ} {keys : List ℕ} (t : IdTable cs keys) where
  pub settled_places : first_repeated cs ≡ None → PlacesOfIds cs keys
  settled_places once = record {
    long = table_long t;
    rising = λ i j l h. omega (arith, before_key t j h once i l);
    holds = λ k h.
        let (i, l, e) = member_at (id_key cs k) keys (table_holds t k h) in
        (i, l, omega (arith, e, h, t.few), omega (arith, e, h, t.few));
    only = λ i h. (table_place t i h, sym (table_id t i h));
  }

-- ---- and back

module _ {cs : List ℤ} {keys : List ℕ} (p : PlacesOfIds cs keys) where
  -- a list place is the second number of a key
  places_few : component_count cs ≤ span
  places_few =
      ⊎_elim
      (λ l. l)
      (λ (l : span < component_count cs). let at = p.holds span l in absurd (omega (arith, at.3)))
      (order? (component_count cs) span)

  key_held : (k : ℕ) → k < component_count cs → (i : ℕ) × (i < length keys) × (get_or keys i 0 ≡ id_key cs k)
  key_held k h = let at = p.holds k h in (at.0, at.1, omega (arith, at.2, at.3))

  keys_rise : (i j : ℕ) → i < j → j < length keys → get_or keys i 0 < get_or keys j 0
  keys_rise i j l h = omega (arith, p.rising i j l h)

  held : (v : ℕ) → member v (id_keys cs) ≡ true → member v keys ≡ true
  held v m =
      let n = component_count cs in
      let (k, h, e) = member_at v (id_keys cs) m in
      let inside : k < n = rw (keys_length cs n) at h in
      let at = key_held k inside in
      at_member v keys at.0 at.1 (at.2 ∙ sym (keys_at cs n k inside) ∙ e)

  kept : (v : ℕ) → member v keys ≡ true → member v (id_keys cs) ≡ true
  kept v m =
      let n = component_count cs in
      let (i, h, e) = member_at v keys m in
      let only = p.only i h in
      at_member v (id_keys cs) (place_at keys i) (rw (keys_length cs n) only.0)
      (keys_at cs n (place_at keys i) only.0 ∙ omega (arith, only.1, e))

  pub places_table : IdTable cs keys
  places_table = record {
    few = places_few;
    sorted = record {
      ascending = record {
        at = λ i j l h. ⊎_elim (λ (same : i ≡ j). rw same (omega arith)) (λ less. omega (arith, keys_rise i j less h)) (eq-or-lt_of_le l);
      };
      rearranged = record {
        same = λ v.
            let once = (keys_distinct cs (component_count cs) places_few).once v in
            omega (arith, count_most v keys (id_keys cs) (rising_once v keys keys_rise) (kept v), count_most v (id_keys cs) keys once (held v));
      };
      long = p.long ∙ sym (keys_length cs (component_count cs));
    };
  }

  pub places_unrepeated : first_repeated cs ≡ None
  places_unrepeated = unrepeated_none places_table (record { at = λ i h e. omega (arith, p.rising i (i + 1) (omega arith) h) })

  -- ---- what it says of an id

  -- an id has one entry
  same_entry : (i j : ℕ) → i < length keys → j < length keys → id_at keys i ≡ id_at keys j → i ≡ j
  same_entry i j h l e =
      ⊎_elim
      (λ (le : i ≤ j). ⊎_elim (λ same. same) (λ less. absurd (omega (arith, p.rising i j less l))) (eq-or-lt_of_le le))
      (λ (more : j < i). absurd (omega (arith, p.rising j i more h)))
      (order? i j)

  places_found : (i : ℕ) → i < length keys → place_of cs (id_at keys i) ≡ Some (place_at keys i)
  unfolding place_below
  places_found i h =
      let id = id_at keys i in
      let only = p.only i h in
      first_is (λ k. eqb (component cs k).id id) 0 (component_count cs) (place_at keys i) (omega arith) (omega (arith, only.0))
      (eq-eqb _ id (sym only.1))
      (λ k a b. ne_eqb (component cs k).id id (λ same.
      let at = p.holds k (omega (arith, only.0)) in
      let one : at.0 ≡ i = same_entry at.0 i at.1 h (at.2 ∙ same) in
      let place : place_at keys at.0 ≡ place_at keys i = rw one in
      omega (arith, at.3)))

  places_missing : (id : ℕ) → ((i : ℕ) → i < length keys → id_at keys i ≡ id → ⊥) → place_of cs id ≡ None
  unfolding place_below
  places_missing id none =
      first_nothing (λ k. eqb (component cs k).id id) 0 (component_count cs)
      (λ k a b. ne_eqb (component cs k).id id (λ same. let at = p.holds k (omega arith) in none at.0 at.1 (at.2 ∙ same)))

pub places_laws : (cs : List ℤ) (keys : List ℕ) → PlacesLaws cs keys
places_laws cs keys = record {
  found = places_found;
  missing = places_missing;
  unrepeated = places_unrepeated;
}
