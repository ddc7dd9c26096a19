-- One grouping connection more merges two groups at most. Groups are counted by the least places of their numbers.
--     group_count_lem             the number of groups is that of the least places
--     joins_of_lem, joins_at      the pairs of a scene, by its connections
--     counts_fall, counts_kept    what the connection does to the number of groups
-- Assumes nothing.
use Rattle.std.specs.Prelude.{Option, Some, None}
use mathlib.Core.Path.{◌≡◌, refl, sym, ap, subst, ◌∙◌}
use mathlib.Core.Bool.{Bool, true, false}
use mathlib.Core.List.Memᴰ
use mathlib.Core.List.{List, [], Memᴰ}
use mathlib.Core.Logic.{◌⊎◌, inl, inr, ⊎_elim}
use Prim.Native.Nat.{ℕ, zero, suc, ◌≤◌, ◌<◌}
use native.Mathlib.Nat.{eq-or-lt_of_le, le_of_suc-le-suc}
use native.Mathlib.Omega.{arith}
use lib.Dec.{eqb, leb}
use lib.ListN.{get_or}
use lib.IntN.{ℤ}
use borrow.Author.Tests.{eq-eqb, lt-leb}
use Rattle.sets.specs.Members.{count_below}
use Rattle.sets.proofs.Counts.{count_cong}
use Rattle.lists.specs.Limits.{component_limit, connection_width}
use Rattle.lists.specs.Records.{Connection, connection, component_count, connection_count}
use Rattle.lists.specs.Ids.{place_of}
use Rattle.lists.proofs.Some.{some_at}
use Rattle.lists.proofs.Table.{place_below_lem}
use Rattle.circuit.specs.Forest.{redirect}
use Rattle.circuit.specs.Connected.{Joined, pair, same, flip, chain}
use Rattle.circuit.specs.Groups.{groups_of}
use Rattle.circuit.specs.Topology.{join_of, joins, joins_of, forest_of}
use Rattle.circuit.proofs.Lists.{redirect_hit, redirect_winner}
use Rattle.circuit.proofs.Numbering.{joined_more}
use Rattle.circuit.proofs.Nets.{numbers_joined, numbers_below, numbers_onto}
use Rattle.one_wire.specs.Added.{Added}
use Rattle.one_wire.specs.Grouping.{FallsByOneOrNotAtAll, group_count}
use Rattle.one_wire.proofs.Shifted.{connection_there, connection_back}
use Rattle.one_wire.proofs.Classes.{least, met, classes, redirect_same, coarser_less, merged_most}

-- ---- the groups of a scene

count_all : (n : ℕ) → count_below (λ _. true) n ≡ n
unfolding count_below
count_all zero = refl
count_all (suc n) = omega (arith, count_all n)

-- the number of the group of a place
abbrev pub number_of : List ℤ → List ℤ → ℕ → ℕ → ℕ
number_of cs ps top v = get_or (groups_of (forest_of cs ps top) (component_count cs)) v 0

-- each number below the count is met, and no other
pub group_count_lem : (cs ps : List ℤ) → component_count cs ≤ component_limit → (top : ℕ) → group_count cs ps top ≡ count_below (least (number_of cs ps top)) (component_count cs)
group_count_lem cs ps few top =
    sym (count_all (group_count cs ps top))
    ∙ count_cong (λ _. true) (met (number_of cs ps top) (component_count cs)) (group_count cs ps top) (λ g h.
    let (v, l, e) = numbers_onto cs ps few top g h in
    sym (some_at (λ w. eqb (number_of cs ps top w) g) (component_count cs) v l (eq-eqb (number_of cs ps top v) g e)))
    ∙ classes (number_of cs ps top) (group_count cs ps top) (component_count cs) (numbers_below cs ps few top)

-- ---- the pairs of a scene

-- a pair, as an element of the list
abbrev In : ℕ → ℕ → List (ℕ × ℕ) → Type 0
In a b pairs = Memᴰ {A = ℕ × ℕ} (a, b) pairs

-- what one connection joins
abbrev join_at : List ℤ → ℕ → Connection → List (ℕ × ℕ)
join_at cs top c = join_of (leb c.kind top) (place_of cs c.source) (place_of cs c.sink)

module _ (cs ps : List ℤ) (top a b : ℕ) where
  pub joins_of_lem : (m : ℕ) → In a b (joins cs ps top m) → (k : ℕ) × (k < m) × In a b (join_at cs top (connection ps k))
  unfolding joins
  joins_of_lem zero e = absurd (Memᴰ.not-nil e)
  joins_of_lem (suc m) e =
      ⊎_elim
      (λ early. let (k, h, t) = joins_of_lem m early in (k, omega arith, t))
      (λ late. (m, omega arith, late))
      (Memᴰ.append_cases (joins cs ps top m) e)

  pub joins_at : (m k : ℕ) → k < m → In a b (join_at cs top (connection ps k)) → In a b (joins cs ps top m)
  unfolding joins
  joins_at zero k h e = absurd (omega arith)
  joins_at (suc m) k h e =
      ⊎_elim
      (λ (q : k ≡ m). Memᴰ.append_right (joins cs ps top m) (subst (λ (j : ℕ). In a b (join_at cs top (connection ps j))) q e))
      (λ (lt : k < m). Memᴰ.append_left (join_at cs top (connection ps m)) (joins_at m k lt e))
      (eq-or-lt_of_le (le_of_suc-le-suc h))

-- the pair is of the places found
join_is : (counts : Bool) (x y : Option ℕ) {a b : ℕ} → In a b (join_of counts x y) → (x ≡ Some a) × (y ≡ Some b)
join_is true (Some s) (Some t) {a} {b} m =
    let q : ◌≡◌ {A = ℕ × ℕ} (a, b) (s, t) = Memᴰ.eq_of_singleton m in
    (ap (λ (p : ℕ × ℕ). Some p.0) (sym q), ap (λ (p : ℕ × ℕ). Some p.1) (sym q))
join_is true (Some s) None m = absurd (Memᴰ.not-nil m)
join_is true None y m = absurd (Memᴰ.not-nil m)
join_is false x y m = absurd (Memᴰ.not-nil m)

join_below : (cs : List ℤ) (top : ℕ) (c : Connection) {a b : ℕ} → In a b (join_at cs top c) → (a < component_count cs) × (b < component_count cs)
join_below cs top c {a} {b} m =
    let e = join_is (leb c.kind top) (place_of cs c.source) (place_of cs c.sink) m in
    (place_below_lem cs c.source a e.0, place_below_lem cs c.sink b e.1)

-- ---- one connection more

module _ (cs ps ps' : List ℤ) (i : ℕ) (added : Added connection_width ps i ps') (few : component_count cs ≤ component_limit) (top : ℕ) where
  abbrev n : ℕ
  n = component_count cs

  abbrev old : ℕ → ℕ
  old = number_of cs ps top

  abbrev new : ℕ → ℕ
  new = number_of cs ps' top

  abbrev added_join : List (ℕ × ℕ)
  added_join = join_at cs top (connection ps' i)

  there : (a b : ℕ) → In a b (joins_of cs ps top) → In a b (joins_of cs ps' top)
  there a b m =
      let (k, h, t) = joins_of_lem cs ps top a b (connection_count ps) m in
      let (j, l, e) = connection_there added k h in
      joins_at cs ps' top a b (connection_count ps') j l (subst (λ (c : Connection). In a b (join_at cs top c)) (sym e) t)

  back : (a b : ℕ) → In a b (joins_of cs ps' top) → In a b (joins_of cs ps top) ⊎ In a b added_join
  back a b m =
      let (j, l, t) = joins_of_lem cs ps' top a b (connection_count ps') m in
      ⊎_elim
      (λ (e : j ≡ i). inr (subst (λ (x : ℕ). In a b (join_at cs top (connection ps' x))) e t))
      (λ (found : (k : ℕ) × (k < connection_count ps) × (connection ps' j ≡ connection ps k)).
      inl (joins_at cs ps top a b (connection_count ps) found.0 found.1 (subst (λ (c : Connection). In a b (join_at cs top c)) found.2 t)))
      (connection_back added j l)

  -- what had one number has one
  coarser : (v w : ℕ) → v < n → w < n → old v ≡ old w → new v ≡ new w
  coarser v w hv hw e =
      (numbers_joined cs ps' few top v w hv hw).1
      (joined_more (joins_of cs ps top) (joins_of cs ps' top) there ((numbers_joined cs ps few top v w hv hw).0 e))

  no_more : group_count cs ps' top ≤ group_count cs ps top
  no_more = omega (arith, group_count_lem cs ps few top, group_count_lem cs ps' few top, coarser_less old new n coarser)

  -- the groups with the numbers l and k are merged, and no others
  module _ (l k : ℕ) (merges : (a b : ℕ) → In a b added_join → redirect l k (old a) ≡ redirect l k (old b)) where
    merged_pair : (a b : ℕ) → In a b (joins_of cs ps' top) → redirect l k (old a) ≡ redirect l k (old b)
    merged_pair a b m =
        ⊎_elim
        (λ early.
        let (j, h, t) = joins_of_lem cs ps top a b (connection_count ps) early in
        let below = join_below cs top (connection ps j) t in
        ap (redirect l k) ((numbers_joined cs ps few top a b below.0 below.1).1 (pair early)))
        (merges a b)
        (back a b m)

    merged : {a b : ℕ} → Joined (joins_of cs ps' top) a b → redirect l k (old a) ≡ redirect l k (old b)
    merged (pair {a} {b} m) = merged_pair a b m
    merged same = refl
    merged (flip j) = sym (merged j)
    merged (chain i j) = merged i ∙ merged j

    pub falls : FallsByOneOrNotAtAll (group_count cs ps top) (group_count cs ps' top)
    falls =
        let most = merged_most old new n l k (λ v w hv hw e. merged ((numbers_joined cs ps' few top v w hv hw).0 e)) in
        ⊎_elim (λ e. inl (sym e)) (λ lt. inr (omega (arith, most, group_count_lem cs ps few top, group_count_lem cs ps' few top))) (eq-or-lt_of_le no_more)

    -- where the two are one, nothing is merged
    pub kept : l ≡ k → group_count cs ps top ≡ group_count cs ps' top
    kept one =
        let less = coarser_less new old n (λ v w hv hw e. redirect_same l k one (merged ((numbers_joined cs ps' few top v w hv hw).0 e))) in
        omega (arith, no_more, less, group_count_lem cs ps few top, group_count_lem cs ps' few top)

  -- it joins nothing
  none_merged : added_join ≡ [] → (a b : ℕ) → In a b added_join → redirect 0 0 (old a) ≡ redirect 0 0 (old b)
  none_merged e a b m = absurd (Memᴰ.not-nil (subst (In a b) e m))

  -- it joins s and t
  one_merged : (s t : ℕ) → added_join ≡ join_of true (Some s) (Some t) → (a b : ℕ) → In a b added_join → redirect (old t) (old s) (old a) ≡ redirect (old t) (old s) (old b)
  one_merged s t e a b m =
      let q = join_is true (Some s) (Some t) (subst (In a b) e m) in
      let p : Some s ≡ Some a = q.0 in
      let r : Some t ≡ Some b = q.1 in
      let first : a ≡ s = cc in
      let second : b ≡ t = cc in
      ap (λ (x : ℕ). redirect (old t) (old s) (old x)) first ∙ redirect_winner (old t) (old s)
      ∙ sym (redirect_hit (old t) (old s)) ∙ sym (ap (λ (x : ℕ). redirect (old t) (old s) (old x)) second)

  pub counts_fall : FallsByOneOrNotAtAll (group_count cs ps top) (group_count cs ps' top)
  counts_fall = go (leb (connection ps' i).kind top) (place_of cs (connection ps' i).source) (place_of cs (connection ps' i).sink) refl
    where
      go : (counts : Bool) (x y : Option ℕ) → added_join ≡ join_of counts x y → FallsByOneOrNotAtAll (group_count cs ps top) (group_count cs ps' top)
      go true (Some s) (Some t) e = falls (old t) (old s) (one_merged s t e)
      go true (Some s) None e = falls 0 0 (none_merged e)
      go true None y e = falls 0 0 (none_merged e)
      go false x y e = falls 0 0 (none_merged e)

  pub counts_kept : top < (connection ps' i).kind → group_count cs ps top ≡ group_count cs ps' top
  counts_kept h =
      let c = connection ps' i in
      kept 0 0 (none_merged (ap (λ (t : Bool). join_of t (place_of cs c.source) (place_of cs c.sink)) (lt-leb c.kind top h))) refl
