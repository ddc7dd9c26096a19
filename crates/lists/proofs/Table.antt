-- The table of ids answers where an id stands.
--     keys_length, keys_at           the keys of the components by their places
--     keys_rise, keys_small          their places rise, and they have few bits
--     table_of                       sorted they are the table of ids
--     table_long, table_rising       the table has as many keys as there are components, rising
--     table_holds                    it has the key of each component
--     table_key                      and no other key
--     table_place, table_id          what a key says: a list place, and the id there
--     place_found, place_none        the lower bound of an id gives its list place, or that it has none
--     used_found, used_none          and whether an earlier component has it
--     unrepeated_none                where no neighbours in the table have one id, no id is used twice
-- Assumes nothing.
use Rattle.std.specs.Prelude.{Some, None}
use mathlib.Core.Path.{◌≡◌, refl, sym, ap, ◌∙◌}
use mathlib.Core.Bool.{Bool, true, false}
use mathlib.Core.Logic.{⊎_elim}
use mathlib.Core.List.{List, [], ◌∷◌}
use Prim.Native.Nat.{ℕ, zero, suc, ◌+◌, ◌*◌, ◌/◌, ◌%◌, ◌^◌, ◌≤◌, ◌<◌}
use native.Mathlib.Nat.{eq-or-lt_of_le, le_of_suc-le-suc}
use native.Mathlib.Omega.{arith}
use lib.ListN.{length, get_or, length-append, get_or-append}
use lib.Seq.{get_or_at, ext_get_or}
use lib.Dec.{eqb, ltb}
use lib.IntN.{ℤ}
use borrow.Author.Tests.{eq-eqb, ne_eqb, lt-ltb, le-ltb}
use Rattle.tables.specs.Order.{All, Ascending, Sorted, LowerBound, member}
use Rattle.tables.specs.Laws.{order?, at_all, at_member, member_at, member_rearranged}
use Rattle.tables.specs.Pairs.{pair, span}
use Rattle.tables.specs.Radix.{RisingBy}
use Rattle.lists.specs.Records.{component, component_count}
use Rattle.lists.specs.First.{is_found}
use Rattle.lists.specs.Ids.{place_below, place_of, used_earlier, id_key, keys_up_to, id_keys, IdTable, Unrepeated, first_repeated}
use Rattle.lists.specs.Within.{Components}
use Rattle.lists.proofs.Fields.{first_most}
use Rattle.lists.proofs.Search.{first_is, first_nothing, found_at, none_found}

-- ---- the keys

pub keys_length : (cs : List ℤ) (n : ℕ) → length (keys_up_to cs n) ≡ n
unfolding keys_up_to
keys_length cs zero = refl
keys_length cs (suc n) = rw (length-append, keys_length cs n) (omega arith)

pub keys_at : (cs : List ℤ) (n k : ℕ) → k < n → get_or (keys_up_to cs n) k 0 ≡ id_key cs k
unfolding keys_up_to
keys_at cs zero k h = absurd (omega arith)
keys_at cs (suc n) k h =
    ⊎_elim
    (λ (same : k ≡ n). rw same (get_or_at (keys_up_to cs n) (id_key cs n) [] 0 n (keys_length cs n)))
    (λ (less : k < n). get_or-append (keys_up_to cs n) (id_key cs n ∷ []) 0 k (rw (keys_length cs n) less) ∙ keys_at cs n k less)
    (eq-or-lt_of_le (le_of_suc-le-suc h))

-- as they are made, before the sort
module _ (cs : List ℤ) (keys : List ℕ) (w : Components cs) (long : length keys ≡ component_count cs)
    (each : (k : ℕ) → k < component_count cs → get_or keys k 0 ≡ id_key cs k) where
  key_place : (k : ℕ) → k < length keys → get_or keys k 0 % span ≡ k
  key_place k h = omega (arith, each k (omega arith), w.few)

  pub keys_rise : RisingBy (λ x. x % span) keys
  keys_rise = record { at = λ i j l h. omega (arith, key_place i (omega arith), key_place j h) }

  -- an id has 32 bits and a place 12
  pub keys_small : All (λ x. x < 2 ^ 60) keys
  keys_small = at_all (λ x. x < 2 ^ 60) keys (λ k h.
      let here : k < component_count cs = omega arith in
      omega (arith, each k here, w.few, first_most w k here (omega arith) 4294967295 refl refl))

pub table_of : (cs : List ℤ) {keys keys' : List ℕ} → component_count cs ≤ span → length keys ≡ component_count cs
    → ((k : ℕ) → k < component_count cs → get_or keys k 0 ≡ id_key cs k) → Sorted keys keys' → IdTable cs keys'
table_of cs {keys} {keys'} few long each s =
    let n = component_count cs in
    let same : keys ≡ id_keys cs = ext_get_or 0 keys (id_keys cs) (long ∙ sym (keys_length cs n)) (λ k h. each k (omega arith) ∙ sym (keys_at cs n k (omega arith))) in
    record { few = few; sorted = rw same at s }

-- ---- what the table has

module _ {cs : List ℤ} {keys : List ℕ} (t : IdTable cs keys) where
  pub table_long : length keys ≡ component_count cs
  table_long = t.sorted.long ∙ keys_length cs (component_count cs)

  pub table_rising : Ascending keys
  table_rising = t.sorted.ascending

  pub table_holds : (k : ℕ) → k < component_count cs → member (id_key cs k) keys ≡ true
  table_holds k h =
      let n = component_count cs in
      member_rearranged t.sorted.rearranged (id_key cs k)
      ∙ at_member (id_key cs k) (id_keys cs) k (rw (keys_length cs n) h) (keys_at cs n k h)

  -- a key of the table is that of some component
  pub table_key : (i : ℕ) → i < length keys → (k : ℕ) × (k < component_count cs) × (get_or keys i 0 ≡ id_key cs k)
  table_key i h =
      let v = get_or keys i 0 in
      let m = member_at v (id_keys cs) (sym (member_rearranged t.sorted.rearranged v) ∙ at_member v keys i h refl) in
      let l : m.0 < component_count cs = rw (keys_length cs (component_count cs)) at m.1 in
      (m.0, l, sym m.2 ∙ keys_at cs (component_count cs) m.0 l)

  module _ (i : ℕ) (h : i < length keys) where
    pub table_place : get_or keys i 0 % span < component_count cs
    table_place = let k = table_key i h in omega (arith, k.1, k.2, t.few)

    pub table_id : (component cs (get_or keys i 0 % span)).id ≡ get_or keys i 0 / span
    table_id =
        let k = table_key i h in
        let p : get_or keys i 0 % span ≡ k.0 = omega (arith, k.1, k.2, t.few) in
        let q : get_or keys i 0 / span ≡ (component cs k.0).id = omega (arith, k.1, k.2, t.few) in
        rw (p, q)

-- ---- the place of an id

module _ (cs : List ℤ) {keys : List ℕ} (t : IdTable cs keys) (id : ℕ) {i : ℕ} (s : LowerBound keys (id * span) i) where
  -- the key of a component with the id stands at i or after
  key_from : (k : ℕ) → k < component_count cs → (component cs k).id ≡ id → (j : ℕ) × (i ≤ j) × (j < length keys) × (get_or keys j 0 ≡ id * span + k)
  key_from k h e =
      let m = member_at (pair (component cs k).id k) keys (table_holds t k h) in
      let q : get_or keys m.0 0 ≡ id * span + k = m.2 ∙ ap (λ (x : ℕ). x * span + k) e in
      (m.0, ⊎_elim (λ l. l) (λ l. absurd (omega (arith, s.before (table_rising t) m.0 l, q))) (order? i m.0), m.1, q)

  pub place_found : i < length keys → get_or keys i 0 / span ≡ id → Some (get_or keys i 0 % span) ≡ place_of cs id
  unfolding place_below
  place_found h e =
      sym (first_is (λ k. eqb (component cs k).id id) 0 (component_count cs) (get_or keys i 0 % span) (omega arith) (omega (arith, table_place t i h))
      (eq-eqb _ id (table_id t i h ∙ e))
      (λ k a b. ne_eqb (component cs k).id id (λ q.
      let f = key_from k (omega (arith, table_place t i h)) q in
      let up = (table_rising t).at i f.0 f.1 f.2 in
      omega (arith, f.3, t.few))))

  pub place_none : (i < length keys → get_or keys i 0 / span ≡ id → ⊥) → None ≡ place_of cs id
  unfolding place_below
  place_none none =
      sym (first_nothing (λ k. eqb (component cs k).id id) 0 (component_count cs)
      (λ k a b. ne_eqb (component cs k).id id (λ q.
      let f = key_from k (omega arith) q in
      let h : i < length keys = omega (arith, f.1, f.2) in
      let up = (table_rising t).at i f.0 f.1 f.2 in
      let low = s.from (table_rising t) i (omega arith) h in
      none h (omega (arith, f.3, t.few)))))

-- ---- whether an earlier component has it

module _ (cs : List ℤ) (k : ℕ) (h : k < component_count cs) where
  pub used_found : (p : ℕ) → place_of cs (component cs k).id ≡ Some p → used_earlier cs k ≡ ltb p k
  unfolding place_below
  used_found p e =
      let test : ℕ → Bool = λ j. eqb (component cs j).id (component cs k).id in
      let f = found_at test 0 (component_count cs) p e in
      ⊎_elim
      (λ l. ap is_found (first_nothing test 0 k (λ j a b. f.first j a (omega arith))) ∙ sym (le-ltb p k l))
      (λ l. ap is_found (first_is test 0 k p (omega arith) (omega arith) f.passes f.first) ∙ sym (lt-ltb p k l))
      (order? k p)

  pub used_none : place_of cs (component cs k).id ≡ None → used_earlier cs k ≡ false
  unfolding place_below
  used_none e =
      let test : ℕ → Bool = λ j. eqb (component cs j).id (component cs k).id in
      ap is_found (first_nothing test 0 k (λ j a b. none_found test 0 (component_count cs) e j a (omega arith)))

-- an id that is used twice has two keys, and all between them have it too
pub unrepeated_none : {cs : List ℤ} {keys : List ℕ} → IdTable cs keys → Unrepeated keys → first_repeated cs ≡ None
unfolding first_repeated place_below
unrepeated_none {cs} {keys} t u = first_nothing (used_earlier cs) 0 (component_count cs) (λ k _ b.
    ap is_found (first_nothing (λ j. eqb (component cs j).id (component cs k).id) 0 k (λ j _ l.
    ne_eqb (component cs j).id (component cs k).id (λ same.
    let first = member_at (id_key cs j) keys (table_holds t j (omega arith)) in
    let later = member_at (id_key cs k) keys (table_holds t k (omega arith)) in
    let before : first.0 < later.0 =
    ⊎_elim (λ q. absurd (omega (arith, (table_rising t).at later.0 first.0 q first.1, first.2, later.2))) (λ q. q) (order? later.0 first.0) in
    let here = (table_rising t).at first.0 (first.0 + 1) (omega arith) (omega (arith, later.1)) in
    let there = (table_rising t).at (first.0 + 1) later.0 (omega arith) later.1 in
    u.at first.0 (omega (arith, later.1)) (omega (arith, first.2, later.2, t.few))))))

-- a place that was found is below the number of components
pub place_below_lem : (cs : List ℤ) (id p : ℕ) → place_of cs id ≡ Some p → p < component_count cs
unfolding place_below
place_below_lem cs id p e = omega (arith, (found_at (λ k. eqb (component cs k).id id) 0 (component_count cs) p e).below)
