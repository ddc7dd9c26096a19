-- Two connections are the same exactly if their keys are.
--     differ_at, at_differ      records that all differ, by index
--     present_member            the member that stands for a present id
--     key_parts                 equal keys have equal parts
--     same_record, same_key     so are the records then, and the other way round
--     connections_by            the test of connections, by their keys
-- Assumes nothing.
use Rattle.std.specs.Prelude.{None}
use mathlib.Core.Path.{◌≡◌, refl, sym, ap, ◌∙◌, subst}
use mathlib.Core.Bool.{Bool, true, false, not}
use mathlib.Core.List.{List, [], ◌∷◌}
use Prim.Native.Nat.{◌%◌, ℕ, zero, suc, ◌+◌, ◌*◌, ◌≤◌, ◌<◌, ◌/◌}
use native.Mathlib.Omega.{arith}
use lib.Dec.{T, eqb}
use lib.ListN.{length, get_or}
use lib.IntN.{ℤ, nat_abs}
use lib.Signed.{non_neg}
use borrow.Author.Tests.{eqb-true, not-true, eq-eqb}
use Rattle.lists.specs.Limits.{component_limit, port_width}
use Rattle.lists.specs.Signed.{at}
use Rattle.lists.specs.Records.{component, component_count, natural_at, port_connection, port_count}
use Rattle.lists.specs.Within.{PortConnections}
use Rattle.lists.specs.Ids.{place_below, has_component, first_repeated, smaller_ids, member_of}
use Rattle.lists.specs.First.{tabulate, all_from}
use Rattle.lists.proofs.Fields.{first_non_neg, field_non_neg, field_most}
use Rattle.lists.proofs.Members.{member_inj, member_below}
use Rattle.lists.proofs.Search.{all_at, both, record_within}
use Rattle.lists.proofs.Signed.{eq_z_same}
use Rattle.lists.proofs.Some.{and_true, some_found}
use Rattle.held.specs.Tests.{any, distinct, same_numbers}
use Rattle.held.specs.Plot.{Record}
use Rattle.held.specs.Lent.{record_at}
use Rattle.held.specs.Inspected.{both_ends, way_of, key_of, connection_key, KeysBelow, Differ}
use Rattle.held.proofs.Lists.{or_neither, true_not_false}
use Rattle.held.proofs.Sound.{from_all}
use Rattle.held.proofs.Sorting.{same_is, same_self}
use Rattle.held.proofs.SceneLaws.{any_get_or}
use Rattle.held.proofs.Reached.{length_tabulate, get_or_tabulate}
use Rattle.held.proofs.DropLaws.{record_field, record_first}
use Rattle.held.proofs.EntryLaws.{same_natural}
use Rattle.held.proofs.InspectLaws.{five_numbers, not_true_false}

-- ---- records that all differ

pub differ_at : (rs : List Record) → distinct same_numbers rs ≡ true → (j k : ℕ) → j < k → k < length rs → get_or rs j [] ≡ get_or rs k [] → ⊥
unfolding distinct any
differ_at [] d j k h l e = absurd (omega arith)
differ_at (r ∷ rs) d j zero h l e = absurd (omega arith)
differ_at (r ∷ rs) d zero (suc k) h l e =
    none k rs (not-true _ (both (not (any (λ later. same_numbers later r) rs)) (distinct same_numbers rs) d).0) (omega arith) (sym e)
  where
    none : (i : ℕ) (ts : List Record) → any (λ later. same_numbers later r) ts ≡ false → i < length ts → get_or ts i [] ≡ r → ⊥
    none i [] f h e = absurd (omega arith)
    none zero (t ∷ ts) f h e = true_not_false (sym (subst (λ (y : Record). same_numbers t y ≡ true) e (same_self t)) ∙ (or_neither (same_numbers t r) _ f).0)
    none (suc i) (t ∷ ts) f h e = none i ts (or_neither (same_numbers t r) _ f).1 (omega arith) e
differ_at (r ∷ rs) d (suc j) (suc k) h l e =
    differ_at rs (both (not (any (λ later. same_numbers later r) rs)) (distinct same_numbers rs) d).1 j k (omega arith) (omega arith) e

pub at_differ : (rs : List Record) → ((j k : ℕ) → j < k → k < length rs → get_or rs j [] ≡ get_or rs k [] → ⊥) → distinct same_numbers rs ≡ true
unfolding distinct
at_differ [] n = refl
at_differ (r ∷ rs) n =
    and_true _ _
    (ap not (not_true_false (any (λ later. same_numbers later r) rs)
    (λ e. let f = any_get_or (λ later. same_numbers later r) rs e in n 0 (suc f.0) (omega arith) (omega (arith, f.1)) (sym (same_is (get_or rs f.0 []) r f.2)))))
    (at_differ rs (λ j k h l e. n (suc j) (suc k) (omega arith) (omega arith) e))

-- ---- members

-- a present id is that of a place, whose member is below the count
pub present_member : (cs : List ℤ) (id : ℕ) → has_component cs id ≡ true → (p : ℕ) × (p < component_count cs) × ((component cs p).id ≡ id)
unfolding place_below
present_member cs id e =
    let f = some_found (λ k. eqb (component cs k).id id) (component_count cs) e in
    (f.0, f.1, eqb-true (component cs f.0).id id f.2)

pub present_below : (cs : List ℤ) (id : ℕ) → has_component cs id ≡ true → smaller_ids cs id < component_count cs
present_below cs id e =
    let f = present_member cs id e in
    subst (λ (i : ℕ). smaller_ids cs i < component_count cs) f.2 (member_below cs f.0 f.1)

-- and present ids of one member are one
pub present_same : (cs : List ℤ) → first_repeated cs ≡ None → (a b : ℕ) → has_component cs a ≡ true → has_component cs b ≡ true → smaller_ids cs a ≡ smaller_ids cs b → a ≡ b
present_same cs once a b p q e =
    let f = present_member cs a p in
    let g = present_member cs b q in
    let m : member_of cs f.0 ≡ member_of cs g.0 = ap (smaller_ids cs) f.2 ∙ (e ∙ ap (smaller_ids cs) (sym g.2)) in
    sym f.2 ∙ (ap (λ (k : ℕ). (component cs k).id) (member_inj cs once f.0 g.0 f.1 g.1 m) ∙ g.2)

-- ---- keys

way_parts : (p q x p' q' x' : ℕ) → p < 256 → p' < 256 → q < 256 → q' < 256 → x < 8 → x' < 8 → way_of p q x ≡ way_of p' q' x' → (p ≡ p') × (q ≡ q') × (x ≡ x')
way_parts p q x p' q' x' b b' c c' d d' e =
    let low : (p % 8 * 8 + q % 8) * 8 + x ≡ (p' % 8 * 8 + q' % 8) * 8 + x' = omega arith in
    let high : p / 8 * 32 + q / 8 ≡ p' / 8 * 32 + q' / 8 = omega arith in
    let one : p % 8 * 8 + q % 8 ≡ p' % 8 * 8 + q' % 8 = omega arith in
    let a : p % 8 ≡ p' % 8 = omega arith in
    let b : p / 8 ≡ p' / 8 = omega arith in
    (omega arith, omega arith, omega arith)

key_parts : (s t p q x s' t' p' q' x' : ℕ) → s < 1024 → s' < 1024 → t < 1024 → t' < 1024 → p < 256 → p' < 256 → q < 256 → q' < 256 → x < 8 → x' < 8 → key_of s t p q x ≡ key_of s' t' p' q' x'
    → (s ≡ s') × (t ≡ t') × (p ≡ p') × (q ≡ q') × (x ≡ x')
key_parts s t p q x s' t' p' q' x' i i' a a' b b' c c' d d' e = parted (way_of p q x) (way_of p' q' x') e (way_parts p q x p' q' x' b b' c c' d d')
  where
    parted : (v w : ℕ) → (v * 1024 + s) * 1024 + t ≡ (w * 1024 + s') * 1024 + t' → (v ≡ w → (p ≡ p') × (q ≡ q') × (x ≡ x')) → (s ≡ s') × (t ≡ t') × (p ≡ p') × (q ≡ q') × (x ≡ x')
    parted v w e rest =
        let two : v * 1024 + s ≡ w * 1024 + s' = omega arith in
        let r = rest (omega arith) in
        (omega arith, omega arith, r.0, r.1, r.2)

natural_same : (a b : ℤ) → T (non_neg a) → T (non_neg b) → nat_abs a ≡ nat_abs b → a ≡ b
natural_same a b p q e = eq_z_same a b (sym (same_natural a b p q) ∙ eq-eqb (nat_abs a) (nat_abs b) e)

module _ (cs ps : List ℤ) (w : PortConnections ps) (j k : ℕ) (h : j < port_count ps) (l : k < port_count ps) where
  -- records of equal numbers
  records : at ps (j * 5) ≡ at ps (k * 5) → at ps (j * 5 + 1) ≡ at ps (k * 5 + 1) → at ps (j * 5 + 2) ≡ at ps (k * 5 + 2) → at ps (j * 5 + 3) ≡ at ps (k * 5 + 3) → at ps (j * 5 + 4) ≡ at ps (k * 5 + 4)
      → record_at port_width ps j ≡ record_at port_width ps k
  records a b c d e =
      five_numbers ps (j * 5) (record_within j (length ps) 5 h)
      ∙ ((λ i. a i ∷ b i ∷ c i ∷ d i ∷ e i ∷ []) ∙ sym (five_numbers ps (k * 5) (record_within k (length ps) 5 l)))

  pub same_record : first_repeated cs ≡ None → component_count cs ≤ component_limit → both_ends cs ps j ≡ true → both_ends cs ps k ≡ true → connection_key cs ps j ≡ connection_key cs ps k
      → record_at port_width ps j ≡ record_at port_width ps k
  same_record once few there here e =
      let a = both (has_component cs (port_connection ps j).source) (has_component cs (port_connection ps j).sink) there in
      let b = both (has_component cs (port_connection ps k).source) (has_component cs (port_connection ps k).sink) here in
      let parts =
      key_parts _ _ _ _ _ _ _ _ _ _ (omega (arith, present_below cs (port_connection ps j).source a.0)) (omega (arith, present_below cs (port_connection ps k).source b.0))
      (omega (arith, present_below cs (port_connection ps j).sink a.1)) (omega (arith, present_below cs (port_connection ps k).sink b.1))
      (omega (arith, field_most w j 1 h (omega arith) 255 refl refl)) (omega (arith, field_most w k 1 l (omega arith) 255 refl refl))
      (omega (arith, field_most w j 3 h (omega arith) 255 refl refl)) (omega (arith, field_most w k 3 l (omega arith) 255 refl refl))
      (omega (arith, field_most w j 4 h (omega arith) 6 refl refl)) (omega (arith, field_most w k 4 l (omega arith) 6 refl refl)) e in
      records
      (natural_same _ _ (first_non_neg w j h (omega arith) refl) (first_non_neg w k l (omega arith) refl) (present_same cs once _ _ a.0 b.0 parts.0))
      (natural_same _ _ (field_non_neg w j 1 h (omega arith) refl) (field_non_neg w k 1 l (omega arith) refl) parts.2)
      (natural_same _ _ (field_non_neg w j 2 h (omega arith) refl) (field_non_neg w k 2 l (omega arith) refl) (present_same cs once _ _ a.1 b.1 parts.1))
      (natural_same _ _ (field_non_neg w j 3 h (omega arith) refl) (field_non_neg w k 3 l (omega arith) refl) parts.3)
      (natural_same _ _ (field_non_neg w j 4 h (omega arith) refl) (field_non_neg w k 4 l (omega arith) refl) parts.4)

-- the same numbers make the same key
pub same_key : (cs ps : List ℤ) (j k : ℕ) → record_at port_width ps j ≡ record_at port_width ps k → connection_key cs ps j ≡ connection_key cs ps k
same_key cs ps j k e =
    let field : (f : ℕ) → f < 5 → natural_at ps (j * 5 + f) ≡ natural_at ps (k * 5 + f) =
    λ f h. ap nat_abs (sym (record_field 5 ps j f h) ∙ (ap (λ (r : Record). at r f) e ∙ record_field 5 ps k f h)) in
    let first : natural_at ps (j * 5) ≡ natural_at ps (k * 5) =
    ap nat_abs (sym (record_first 5 ps j (omega arith)) ∙ (ap (λ (r : Record). at r 0) e ∙ record_first 5 ps k (omega arith))) in
    let second = field 2 (omega arith) in
    let three = field 1 (omega arith) in
    let four = field 3 (omega arith) in
    let five = field 4 (omega arith) in
    λ i. key_of (smaller_ids cs (first i)) (smaller_ids cs (second i)) (three i) (four i) (five i)

-- ---- the test

module _ (cs ps : List ℤ) (keys : List ℕ) (w : PortConnections ps) (once : first_repeated cs ≡ None) (few : component_count cs ≤ component_limit)
    (b : KeysBelow cs ps keys (port_count ps)) (long : length keys ≡ port_count ps) where
  abbrev held : List Record
  held = tabulate (record_at port_width ps) (port_count ps)

  held_long : length held ≡ port_count ps
  held_long = length_tabulate (record_at port_width ps) (port_count ps)

  pub differ_by : (r : Bool) → Differ keys r → r ≡ distinct same_numbers held
  differ_by true d =
      sym (at_differ held (λ j k h l e.
      let m : k < port_count ps = omega (arith, held_long) in
      let same : record_at port_width ps j ≡ record_at port_width ps k =
      sym (get_or_tabulate (record_at port_width ps) (port_count ps) j [] (omega arith)) ∙ (e ∙ get_or_tabulate (record_at port_width ps) (port_count ps) k [] m) in
      d.all refl j k h (omega (arith, long)) (b.key j (omega arith) ∙ (same_key cs ps j k same ∙ sym (b.key k m)))))
  differ_by false d =
      let f = d.some refl in
      let l : f.1 < port_count ps = omega (arith, f.3, long) in
      let h : f.0 < port_count ps = omega (arith, f.2) in
      let key = sym (b.key f.0 h) ∙ (f.4 ∙ b.key f.1 l) in
      let same = same_record cs ps w f.0 f.1 h l once few (b.ends f.0 h) (b.ends f.1 l) key in
      sym (not_true_false (distinct same_numbers held)
      (λ e. differ_at held e f.0 f.1 f.2 (omega (arith, held_long))
      (get_or_tabulate (record_at port_width ps) (port_count ps) f.0 [] h ∙ (same ∙ sym (get_or_tabulate (record_at port_width ps) (port_count ps) f.1 [] l)))))

-- all the ends are there
pub all_ends : (cs ps : List ℤ) (n : ℕ) → ((k : ℕ) → k < n → both_ends cs ps k ≡ true) → all_from (both_ends cs ps) 0 n ≡ true
all_ends cs ps n h = from_all (both_ends cs ps) 0 n (λ k a b. h k (omega arith))

-- or one is not
pub some_end : (cs ps : List ℤ) (n k : ℕ) → k < n → both_ends cs ps k ≡ false → all_from (both_ends cs ps) 0 n ≡ false
some_end cs ps n k h e = not_true_false (all_from (both_ends cs ps) 0 n) (λ t. true_not_false (sym (all_at (both_ends cs ps) 0 n t k (omega arith) (omega arith)) ∙ e))
