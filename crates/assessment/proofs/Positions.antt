-- Components that ascend, by their positions.
--     before_then                     a component stands before a position, or at it and `rest` decides
--     earlier                        so does each that is listed earlier
--     equal_tuples, less_tuples      the tuples of a position compare so
--     field_of                       a number of a list's records, as arrays
--     records_part, parted_at        where those of an accepted list part
--     found_first, found_past,       the first component at a position, where they part
--     found_none
-- Assumes nothing.
use Rattle.std.specs.Prelude.{Some, None}
use Rattle.std.specs.Ordering.{int_eq, int_cmp, is_lt, is_some_and, partial_ordering_then}
use Rattle.std.proofs.lemmas.Bool.Decides.{Decides-int_eq}
use mathlib.Core.Path.{◌≡◌, refl, sym, ap, ◌∙◌, subst}
use mathlib.Core.Bool.{Bool, true, false, not, ◌&&◌, ◌||◌}
use mathlib.Core.Logic.{⊎_elim}
use mathlib.Core.List.{List, []}
use Prim.Native.Nat.{ℕ, zero, suc, ◌+◌, ◌*◌, ◌≤◌, ◌<◌}
use native.Mathlib.Nat.{eq-or-lt_of_le, suc-mul}
use lib.ListN.{length, get_or, drop}
use Rattle.std.specs.Prelude.{pos}
use Rattle.std.specs.Simd.{first_chunks}
use Rattle.std.specs.List.Sorted.{IsPartitionedBy, IsPartitionPoint}
use Rattle.std.proofs.lemmas.List.{get_or-take, get_or-drop}
use native.Mathlib.Omega.{arith}
use Rattle.std.proofs.lemmas.Grind.{common_steps}
use lib.IntN.{ℤ}
use lib.Signed.{lt_z}
use Rattle.tables.specs.Laws.{order?}
use Rattle.lists.specs.Limits.{component_width}
use Rattle.lists.specs.Signed.{at, eq_z, less_then}
use Rattle.lists.specs.Order.{record_before, first_not_ascending, component_order}
use Rattle.lists.specs.Records.{Component, Position, component, component_count}
use Rattle.lists.proofs.Search.{never, both, or_false, first_is, first_nothing}
use Rattle.lists.proofs.Signed.{eq_z_same, eq_z_self}
use Rattle.lists.proofs.Ordering.{less_three, then_cases, then_less, then_rest, then_step, ascending_at}
use Rattle.signals.proofs.Tested.{same_truth}
use Rattle.signals.specs.Sources.{same_position, before_position, first_at, Parted}

-- ---- a component and a position

abbrev pub before_then : Component → Position → Bool → Bool
before_then c position rest = less_then c.x position.x (less_then c.y position.y (less_then c.z position.z rest))

then_false : (a b : ℤ) → lt_z a b ≡ less_then a b false
then_false a b = or_false (lt_z a b) ∙ ap (λ (t : Bool). lt_z a b || t) (none (not (lt_z b a)))
  where
    none : (t : Bool) → false ≡ (t && false)
    none true = refl
    none false = refl

before_is : (c : Component) (position : Position) → before_position c position ≡ before_then c position false
before_is c position = ap (λ (t : Bool). less_then c.x position.x (less_then c.y position.y t)) (then_false c.z position.z)

-- at the position, the rest decides
same_then : (c : Component) (position : Position) (rest : Bool) → same_position c position ≡ true → before_then c position rest ≡ rest
same_then c position rest e =
    let p = both (eq_z c.x position.x) _ e in
    let q = both (eq_z c.y position.y) _ p.1 in
    then_rest c.x position.x _ (eq_z_same _ _ p.0) ∙ then_rest c.y position.y _ (eq_z_same _ _ q.0)
    ∙ then_rest c.z position.z rest (eq_z_same _ _ q.1)

-- not past it and not before it is at it
field_same : (a b : ℤ) (s t e : Bool) → less_then a b t ≡ true → less_then a b s ≡ false → (t ≡ true → s ≡ false → e ≡ true) → (eq_z a b && e) ≡ true
field_same a b s t e p q after =
    ⊎_elim
    (λ (less : lt_z a b ≡ true). never (sym q ∙ then_less a b s less))
    (λ equal. rw (equal.0, eq_z_self b) (after equal.1 (sym (then_rest a b s equal.0) ∙ q)))
    (then_cases a b t p)

then_same : (c : Component) (position : Position) → before_then c position true ≡ true → before_then c position false ≡ false → same_position c position ≡ true
then_same c position p q =
    field_same c.x position.x _ _ _ p q (λ p q.
    field_same c.y position.y _ _ _ p q (λ p q.
    last (field_same c.z position.z false true true p q (λ _ _. refl))))
  where
    last : (eq_z c.z position.z && true) ≡ true → eq_z c.z position.z ≡ true
    last e = (both (eq_z c.z position.z) true e).0

-- ---- as the tuples of a position compare

equal_is : (a b : ℤ) → int_eq a b ≡ eq_z a b
equal_is a b =
    same_truth (int_eq a b) (eq_z a b)
    (λ e. let same = (Decides-int_eq a b).0 e in rw same (eq_z_self b))
    (λ e. (Decides-int_eq a b).1 (eq_z_same a b e))

pub equal_tuples : (a b c x y z : ℤ) → ((int_eq a x && int_eq b y) && int_eq c z) ≡ (eq_z a x && (eq_z b y && eq_z c z))
equal_tuples a b c x y z = rw (equal_is a x, equal_is b y, equal_is c z) (and_three (eq_z a x) (eq_z b y) (eq_z c z))
  where
    and_three : (s t u : Bool) → ((s && t) && u) ≡ (s && (t && u))
    and_three s t u = grind (arith, common_steps)

pub less_tuples : (a b c x y z : ℤ)
    → is_some_and is_lt (partial_ordering_then (partial_ordering_then (Some (int_cmp a x)) (Some (int_cmp b y))) (Some (int_cmp c z)))
    ≡ less_then a x (less_then b y (lt_z c z))
less_tuples a b c x y z = less_three a b c x y z ∙ ap (λ (t : Bool). less_then a x (less_then b y t)) (sym (then_false c z))

-- ---- a record as an array

-- field f of the k-th of m arrays of n
pub field_of : {X : Type 0} (e : X) (n m : ℕ) (xs : List X) (k f : ℕ) (d : List X) → k < m → f < n
    → get_or (get_or (first_chunks n m xs) k d) f e ≡ get_or xs (k * n + f) e
field_of e n zero xs k f d h l = absurd (omega arith)
field_of e n (suc m) xs zero f d h l =
    let place : f ≡ 0 * n + f = omega arith in
    get_or-take n xs f e l ∙ ap (λ (i : ℕ). get_or xs i e) place
field_of e n (suc m) xs (suc k) f d h l =
    let place : n + (k * n + f) ≡ suc k * n + f = omega (arith, suc-mul k n) in
    field_of e n m (drop n xs) k f d (omega arith) l ∙ get_or-drop n xs (k * n + f) e ∙ ap (λ (i : ℕ). get_or xs i e) place

same_before : {a b c x y z : ℤ} (position : Position) → a ≡ x → b ≡ y → c ≡ z
    → less_then a position.x (less_then b position.y (lt_z c position.z)) ≡ less_then x position.x (less_then y position.y (lt_z z position.z))
same_before position e f g = rw (e, f, g)

-- ---- the components of an accepted list

module _ (cs : List ℤ) (ascending : first_not_ascending component_order component_width cs ≡ None) (position : Position) where
  next : (rest : Bool) (k : ℕ) → suc k < component_count cs → before_then (component cs (suc k)) position rest ≡ true → before_then (component cs k) position rest ≡ true
  unfolding record_before
  next rest k h e =
      let c = component cs k in
      let d = component cs (suc k) in
      then_step c.x d.x position.x _ _ _ (λ p q.
      then_step c.y d.y position.y _ _ _ (λ p q.
      then_step c.z d.z position.z _ rest rest (λ _ q. q) p q) p q)
      (ascending_at component_order component_width cs ascending k h) e

  pub earlier : (rest : Bool) (p q : ℕ) → p ≤ q → q < component_count cs → before_then (component cs q) position rest ≡ true → before_then (component cs p) position rest ≡ true
  earlier rest p zero h l e = let same : zero ≡ p = omega arith in subst (λ (i : ℕ). before_then (component cs i) position rest ≡ true) same e
  earlier rest p (suc q) h l e =
      ⊎_elim
      (λ (same : p ≡ suc q). subst (λ (i : ℕ). before_then (component cs i) position rest ≡ true) (sym same) e)
      (λ (less : p < suc q). earlier rest p q (omega arith) (omega arith) (next rest q l e))
      (eq-or-lt_of_le h)

  module _ (q : ℕ) (l : q < component_count cs) where
    pub before_all : before_position (component cs q) position ≡ true → (p : ℕ) → p ≤ q → before_position (component cs p) position ≡ true
    before_all e p h = before_is (component cs p) position ∙ earlier false p q h l (sym (before_is (component cs q) position) ∙ e)

  -- the records as arrays, in which a search looks for the place
  module _ {records : List (List ℤ)} (split : records ≡ first_chunks component_width (component_count cs) cs) where
    before_record : (k : ℕ) (d : List ℤ) → k < component_count cs → before_position (component (get_or records k d) 0) position ≡ before_position (component cs k) position
    before_record k d h =
        let field = λ (f : ℕ) (l : f < component_width). ap (λ (rs : List (List ℤ)). at (get_or rs k d) f) split ∙ field_of (pos 0) component_width (component_count cs) cs k f d h l in
        same_before position (field 1 (omega arith)) (field 2 (omega arith)) (field 3 (omega arith))

    pub records_part : length records ≡ component_count cs → IsPartitionedBy (λ r. before_position (component r 0) position) records
    records_part long i j d h l e =
        let there : j < component_count cs = omega arith in
        before_record i d (omega arith) ∙ before_all j there (sym (before_record j d there) ∙ e) i h

    pub parted_at : (r : ℕ) → r ≤ length records → length records ≡ component_count cs
        → IsPartitionPoint (λ r. before_position (component r 0) position ≡ true) (λ r. before_position (component r 0) position ≡ false) records r → Parted cs position r
    parted_at r le long point = record {
      within = omega arith;
      before = λ p h. sym (before_record p [] (omega arith)) ∙ point.0 p [] (omega arith) h;
      from = λ p h l. sym (before_record p [] l) ∙ point.1 p [] h (omega arith);
    }

  module _ {r : ℕ} (parted : Parted cs position r) where
    -- no component before them is at the position
    not_before : (p : ℕ) → p < r → same_position (component cs p) position ≡ false
    not_before p h = go (same_position (component cs p) position) refl
      where
        go : (t : Bool) → same_position (component cs p) position ≡ t → t ≡ false
        go true e = never (sym (same_then (component cs p) position false e) ∙ sym (before_is (component cs p) position) ∙ parted.before p h)
        go false e = refl

    -- nor one after them, if the first is not
    not_from : same_position (component cs r) position ≡ false → (p : ℕ) → r ≤ p → p < component_count cs → same_position (component cs p) position ≡ false
    not_from none p h l = go (same_position (component cs p) position) refl
      where
        go : (t : Bool) → same_position (component cs p) position ≡ t → t ≡ false
        go true e =
            let c = component cs r in
            let up = earlier true r p h l (same_then (component cs p) position true e) in
            never (sym none ∙ then_same c position up (sym (before_is c position) ∙ parted.from r (omega arith) (omega arith)))
        go false e = refl

    pub found_first : r < component_count cs → same_position (component cs r) position ≡ true → first_at cs position ≡ Some r
    unfolding first_at
    found_first h e = first_is (λ p. same_position (component cs p) position) 0 (component_count cs) r (omega arith) (omega arith) e (λ p a b. not_before p b)

    pub found_past : component_count cs ≤ r → first_at cs position ≡ None
    unfolding first_at
    found_past h = first_nothing (λ p. same_position (component cs p) position) 0 (component_count cs) (λ p a b. not_before p (omega arith))

    pub found_none : same_position (component cs r) position ≡ false → first_at cs position ≡ None
    unfolding first_at
    found_none none = first_nothing (λ p. same_position (component cs p) position) 0 (component_count cs) (λ p a b.
        ⊎_elim (λ (le : r ≤ p). not_from none p le (omega arith)) (λ (less : p < r). not_before p less) (order? r p))
