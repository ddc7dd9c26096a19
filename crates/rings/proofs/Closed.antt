-- The class of a node has a ring of three nodes or more exactly if it has at least as many joined pairs as members.
--     erase              a chain of edges without repeated nodes
--     ring_of            such a chain that is no single edge, closed by an edge, is a ring
--     pairs_ring         with as many pairs as members some pair is joined by other pairs as well: a ring
--     joined_most        the members are joined, so there is at most one pair fewer
--     ring_pairs         without an edge of a ring the members are still joined, so there are as many pairs as members
-- Assumes nothing.
use mathlib.Core.Path.{◌≡◌, refl, sym, ap, ap₂, subst, ◌∙◌}
use mathlib.Core.Bool.{Bool, true, false, not, ◌&&◌, ◌||◌, false≢true, true≢false}
use mathlib.Core.List.{List, [], ◌∷◌}
use mathlib.Core.Logic.{◌⊎◌, inl, inr, ⊎_elim}
use Prim.Native.Nat.{ℕ, ◌+◌, ◌≤◌, ◌<◌}
use native.Mathlib.Omega.{arith}
use lib.Dec.{eqb}
use lib.ListN.{length}
use borrow.Author.Tests.{eqb-true, eq-eqb}
use Rattle.sets.specs.Members.{count_below}
use Rattle.tables.specs.Order.{member}
use Rattle.tables.specs.Laws.{same?, order?}
use Rattle.lists.proofs.Search.{both}
use Rattle.regions.specs.Graph.{Edges, Reach, here, step, Both}
use Rattle.regions.proofs.Laws.Walks.{Reach·trans}
use Rattle.rings.specs.Rings.{Steps, Distinct, Along, RingOfThree, joined, pair_count}
use Rattle.rings.proofs.Linking.{Links, Has, Joins, Linked, stay, link, linked_trans, linked_sym, linked_same, Inside, roots_most, roots_one, roots_some, Redundant, redundant?}
use Rattle.rings.proofs.Pairs.{pairs, pairs_size, has_pairs, pairs_has, pairs_clean, pair_test, pair_cases, pair_none, pair_here, without, without_some, without_of, without_has}

-- ---- tests

pub or_cases : (a b : Bool) → (a || b) ≡ true → (a ≡ true) ⊎ (b ≡ true)
or_cases true b e = inl refl
or_cases false b e = inr e

or_left : (a b : Bool) → a ≡ true → (a || b) ≡ true
or_left true b e = refl
or_left false b e = absurd (false≢true e)

or_right : (a b : Bool) → b ≡ true → (a || b) ≡ true
or_right true b e = refl
or_right false b e = e

-- ---- chains without repeated nodes

-- x is the first node of the list or stands in the rest of it
head_or : (x z : ℕ) (l : List ℕ) → member x (z ∷ l) ≡ true → (x ≡ z) ⊎ (member x l ≡ true)
unfolding member
head_or x z l h = ⊎_elim (λ e. inl (eqb-true x z e)) inr (or_cases (eqb x z) (member x l) h)

abbrev Simple : Edges → ℕ → ℕ → Type 0
Simple g x y = (l : List ℕ) × Steps (Along g) x l y × Distinct (x ∷ l)

-- from a node of the chain on
suffix : (g : Edges) (x y z : ℕ) (l : List ℕ) → member x (z ∷ l) ≡ true → Steps (Along g) z l y → Distinct (z ∷ l) → Simple g x y
unfolding member
suffix g x y z [] m s d = ⊎_elim (λ e. subst (λ (u : ℕ). Simple g u y) (sym e) ([], s, d)) (λ k. absurd (false≢true k)) (head_or x z [] m)
suffix g x y z (w ∷ l) m s d = go (head_or x z (w ∷ l) m) (suffix g x y w l)
  where
    go : (x ≡ z) ⊎ (member x (w ∷ l) ≡ true) → (member x (w ∷ l) ≡ true → Steps (Along g) w l y → Distinct (w ∷ l) → Simple g x y) → Simple g x y
    go (inl e) ih = subst (λ (u : ℕ). Simple g u y) (sym e) (w ∷ l, s, d)
    go (inr k) ih = ih k s.1 d.1

pub erase : {g : Edges} {x y : ℕ} → Reach g x y → Simple g x y
unfolding member
erase here = ([], refl, (refl, tt))
erase {g} (step {a = x} {b = z} {c = y} e p) = go (erase p)
  where
    go : Simple g z y → Simple g x y
    go s = try (member x (z ∷ s.0)) refl
      where
        try : (t : Bool) → member x (z ∷ s.0) ≡ t → Simple g x y
        try true m = suffix g x y z s.0 m s.1 s.2
        try false m = (z ∷ s.0, (e, s.1), (m, s.2))

-- the same edges in a larger graph
more_steps : (g edge : Edges) → ((p q : ℕ) → g p q ≡ true → edge p q ≡ true) → (x y : ℕ) (l : List ℕ) → Steps (Along g) x l y → Steps (Along edge) x l y
more_steps g edge sub x y [] s = s
more_steps g edge sub x y (z ∷ l) s = (sub x z s.0, more_steps g edge sub z y l s.1)

pub ring_of : (edge g : Edges) (r x y : ℕ) → ((p q : ℕ) → g p q ≡ true → edge p q ≡ true) → ¬ (y ≡ x) → edge x y ≡ true → g y x ≡ false
    → Reach g y x → Both edge r y → RingOfThree edge r
ring_of edge g r x y sub ne closes out p b =
    let s = erase p in
    record {
      first = y;
      here = b;
      ring = record { rest = s.0; last = x; three = long s.0 s.1; steps = more_steps g edge sub y x s.0 s.1; closes = closes; distinct = s.2 };
    }
  where
    long : (l : List ℕ) → Steps (Along g) y l x → 2 ≤ length l
    long [] s = absurd (ne s)
    long (w ∷ []) s = absurd (true≢false (sym s.0 ∙ ap (g y) s.1 ∙ out))
    long (w ∷ v ∷ l) s = omega arith

-- an edge with no edge back
pub one_way : (edge : Edges) (r a b : ℕ) → Both edge r a → Both edge r b → edge a b ≡ true → edge b a ≡ false → RingOfThree edge r
one_way edge r a b ha hb e f =
    ring_of edge edge r a b (λ p q h. h)
    (λ q. true≢false (sym e ∙ ap₂ edge (sym q) q ∙ f))
    e f (Reach·trans hb.1 ha.0) hb

-- ---- the class of node r

module _ (n : ℕ) (edge : Edges) (r : ℕ) (part : ℕ → Bool)
    (low : (x : ℕ) → part x ≡ true → x < n) (of : (x : ℕ) → part x ≡ true → Both edge r x) (all : (x : ℕ) → Both edge r x → part x ≡ true) where
  E : Links
  E = pairs (joined edge part) n

  record Pair (x y : ℕ) : Type 0 where
    first : part x ≡ true
    second : part y ≡ true
    edges : (edge x y ≡ true) ⊎ (edge y x ≡ true)

  pair_of : (x y : ℕ) → joined edge part x y ≡ true → Pair x y
  pair_of x y h =
      let p = both (part x) (part y && (edge x y || edge y x)) h in
      let q = both (part y) (edge x y || edge y x) p.1 in
      record { first = p.0; second = q.0; edges = or_cases (edge x y) (edge y x) q.1 }

  has_pair : (x y : ℕ) → Has E x y → Pair x y
  unfolding E
  has_pair x y h = pair_of x y (has_pairs (joined edge part) n x y h).2

  flipped : (x y : ℕ) → Pair x y → Pair y x
  flipped x y p = record { first = p.second; second = p.first; edges = ⊎_elim inr inl p.edges }

  joins_pair : (x y : ℕ) → Joins E x y → Pair x y
  joins_pair x y (inl h) = has_pair x y h
  joins_pair x y (inr h) = flipped y x (has_pair y x h)

  inside : Inside n part low E
  inside x y h = let p = has_pair x y h in (p.first, p.second)

  joined_of : (x y : ℕ) → Pair x y → joined edge part x y ≡ true
  joined_of x y p = rw (p.first, p.second) (⊎_elim (or_left (edge x y) (edge y x)) (or_right (edge x y) (edge y x)) p.edges)

  pair_joins : (x y : ℕ) → ¬ (x ≡ y) → Pair x y → Joins E x y
  unfolding E
  pair_joins x y ne p = ⊎_elim
      (λ (l : x ≤ y). inl (pairs_has (joined edge part) n x y (omega arith) (low y p.second) (joined_of x y p)))
      (λ (l : y < x). inr (pairs_has (joined edge part) n y x l (low x p.first) (joined_of y x (flipped x y p))))
      (order? x y)

  -- ---- as many pairs as members

  module _ (d : Redundant E) where
    a : ℕ
    a = d.a

    b : ℕ
    b = d.b

    -- the edges but those between the two
    g : Edges
    g x y = edge x y && not (pair_test d.a d.b x y)

    g_edge : (p q : ℕ) → g p q ≡ true → edge p q ≡ true
    unfolding g
    g_edge p q h = (both (edge p q) (not (pair_test d.a d.b p q)) h).0

    before_pair : (x y : ℕ) → Joins d.before x y → Pair x y
    before_pair x y j = joins_pair x y (⊎_elim (λ h. inl (d.part_of x y h)) (λ h. inr (d.part_of y x h)) j)

    other : (x y : ℕ) → Joins d.before x y → pair_test d.a d.b x y ≡ false
    other x y j = pair_none d.a d.b x y
        (λ p. d.new (subst (λ (u : ℕ). Joins d.before u d.b) p.0 (subst (λ (u : ℕ). Joins d.before x u) p.1 j)))
        (λ p. d.new (turned (subst (λ (u : ℕ). Joins d.before u d.a) p.0 (subst (λ (u : ℕ). Joins d.before x u) p.1 j))))
      where
        turned : Joins d.before d.b d.a → Joins d.before d.a d.b
        turned (inl h) = inr h
        turned (inr h) = inl h

    follow : {x y : ℕ} → Linked d.before x y → Reach g x y ⊎ RingOfThree edge r
    unfolding g
    follow stay = inl here
    follow (link {x} {y} {z} j rest) = go (edge x y) refl (before_pair x y j) (follow rest)
      where
        go : (t : Bool) → edge x y ≡ t → Pair x y → Reach g y z ⊎ RingOfThree edge r → Reach g x z ⊎ RingOfThree edge r
        go true e p (inl q) = inl (step (ap₂ (λ u v. u && not v) e (other x y j)) q)
        go true e p (inr q) = inr q
        go false e p q = inr (one_way edge r y x (of y p.second) (of x p.first) (⊎_elim (λ f. absurd (true≢false (sym f ∙ e))) (λ f. f) p.edges) e)

    redundant_ring : RingOfThree edge r
    unfolding g E
    redundant_ring = ⊎_elim (λ p. close p (edge d.b d.a) refl) (λ q. q) (follow d.linked)
      where
        pair : Pair d.a d.b
        pair = has_pair d.a d.b d.has

        less : d.a < d.b
        less = (has_pairs (joined edge part) n d.a d.b d.has).0

        out : g d.a d.b ≡ false
        out = ap (λ t. edge d.a d.b && not t) (pair_here d.a d.b d.a d.b refl refl) ∙ and_false (edge d.a d.b)
          where
            and_false : (t : Bool) → (t && false) ≡ false
            and_false true = refl
            and_false false = refl

        close : Reach g d.a d.b → (t : Bool) → edge d.b d.a ≡ t → RingOfThree edge r
        close p true e = ring_of edge g r d.b d.a g_edge (λ q. omega (arith, less)) e out p (of d.a pair.first)
        close p false e =
            one_way edge r d.a d.b (of d.a pair.first) (of d.b pair.second)
            (⊎_elim (λ f. f) (λ f. absurd (true≢false (sym f ∙ e))) pair.edges) e

  pub pairs_ring : count_below part n ≤ pair_count (joined edge part) n → RingOfThree edge r
  unfolding E
  pairs_ring h = ⊎_elim redundant_ring
      (λ q. absurd (omega (arith, q, pairs_size (joined edge part) n, roots_some n part low E inside r (all r (here, here)))))
      (redundant? n part low E inside (pairs_clean (joined edge part) n))

  -- all members are joined
  joined_up : {p q : ℕ} → Reach edge p q → Reach edge r p → Reach edge q r → Linked E p q
  joined_up here to back = stay
  joined_up (step {a = p} {b = m} {c = q} e rest) to back = linked_trans one (joined_up rest to_m back)
    where
      to_m : Reach edge r m
      to_m = Reach·trans to (step e here)

      from_m : Reach edge m r
      from_m = Reach·trans rest back

      one : Linked E p m
      one = ⊎_elim linked_same
          (λ ne. link (pair_joins p m ne record { first = all p (to, step e from_m); second = all m (to_m, from_m); edges = inl e }) stay)
          (same? p m)

  pub joined_most : count_below part n ≤ pair_count (joined edge part) n + 1
  unfolding E
  joined_most =
      omega (
        arith,
        roots_most n part low E inside,
        roots_one n part low E (λ p q hp hq. joined_up (Reach·trans (of p hp).1 (of q hq).0) (of p hp).0 (of q hq).1),
        pairs_size (joined edge part) n,
      )

  -- ---- a ring

  -- the last node of a chain stands in it
  last_in : (x y z : ℕ) (l : List ℕ) → Steps (Along edge) x (z ∷ l) y → member y (z ∷ l) ≡ true
  unfolding member
  last_in x y z [] s = or_left (eqb y z) false (eq-eqb y z (sym s.1))
  last_in x y z (w ∷ l) s = or_right (eqb y z) (member y (w ∷ l)) (last_in z y w l s.1)

  steps_reach : (x y : ℕ) (l : List ℕ) → Steps (Along edge) x l y → Reach edge x y
  steps_reach x y [] s = subst (λ (u : ℕ). Reach edge x u) s here
  steps_reach x y (z ∷ l) s = step s.0 (steps_reach z y l s.1)

  not_head : (x z : ℕ) (l : List ℕ) → member x (z ∷ l) ≡ false → (¬ (x ≡ z)) × (member x l ≡ false)
  unfolding member
  not_head x z l h = (λ e. true≢false (sym (or_left (eqb x z) (member x l) (eq-eqb x z e)) ∙ h), rest (eqb x z) h)
    where
      rest : (t : Bool) → (t || member x l) ≡ false → member x l ≡ false
      rest true q = absurd (true≢false q)
      rest false q = q

  module _ (x w : ℕ) where
    E' : Links
    E' = without x w E

    linked_edge : (p q : ℕ) → ¬ (p ≡ q) → Pair p q → pair_test x w p q ≡ false → pair_test x w q p ≡ false → Linked E' p q
    unfolding E'
    linked_edge p q ne pair off off' =
        link (⊎_elim (λ h. inl (without_has x w E p q off h)) (λ h. inr (without_has x w E q p off' h)) (pair_joins p q ne pair)) stay

    -- a chain that does not meet x
    walk : (p y : ℕ) (l : List ℕ) → Steps (Along edge) p l y → member x (p ∷ l) ≡ false → Distinct (p ∷ l) → Reach edge r p → Reach edge y r → Linked E' p y
    walk p y [] s out d to back = linked_same s
    walk p y (q ∷ l) s out d to back =
        let a = not_head x p (q ∷ l) out in
        let b = not_head x q l a.1 in
        let e = s.0 in
        let to-q : Reach edge r q = Reach·trans to (step e here) in
        let from-q : Reach edge q r = Reach·trans (steps_reach q y l s.1) back in
        let pair : Pair p q = record { first = all p (to, step e from-q); second = all q (to-q, from-q); edges = inl e } in
        linked_trans
        (linked_edge p q (not_head p q l d.0).0 pair
        (pair_none x w p q (λ k. a.0 (sym k.0)) (λ k. b.0 (sym k.1)))
        (pair_none x w q p (λ k. b.0 (sym k.0)) (λ k. a.0 (sym k.1))))
        (walk q y l s.1 a.1 d.1 to-q back)

    -- what is joined is still joined, if the two nodes are
    all_linked : Linked E' w x → {p q : ℕ} → Reach edge p q → Reach edge r p → Reach edge q r → Linked E' p q
    all_linked alt here to back = stay
    all_linked alt (step {a = p} {b = m} {c = q} e rest) to back = linked_trans one (all_linked alt rest to_m back)
      where
        to_m : Reach edge r m
        to_m = Reach·trans to (step e here)

        from_m : Reach edge m r
        from_m = Reach·trans rest back

        pair : Pair p m
        pair = record { first = all p (to, step e from_m); second = all m (to_m, from_m); edges = inl e }

        between : ((p ≡ x) × (m ≡ w)) ⊎ ((p ≡ w) × (m ≡ x)) → Linked E' p m
        between (inl k) = linked_trans (linked_same k.0) (linked_trans (linked_sym alt) (linked_same (sym k.1)))
        between (inr k) = linked_trans (linked_same k.0) (linked_trans alt (linked_same (sym k.1)))

        apart : ¬ (p ≡ m) → (t : Bool) → pair_test x w p m ≡ t → (u : Bool) → pair_test x w m p ≡ u → Linked E' p m
        apart ne true h u k = between (pair_cases x w p m h)
        apart ne false h true k = between (⊎_elim (λ c. inr (c.1, c.0)) (λ c. inl (c.1, c.0)) (pair_cases x w m p k))
        apart ne false h false k = linked_edge p m ne pair h k

        one : Linked E' p m
        one = ⊎_elim linked_same (λ ne. apart ne (pair_test x w p m) refl (pair_test x w m p) refl) (same? p m)

    -- so there is a pair for each member
    enough : Joins E x w → Linked E' w x → count_below part n ≤ pair_count (joined edge part) n
    unfolding E E'
    enough j alt =
        omega (
          arith,
          roots_most n part low E' (λ p q h. inside p q (without_of x w E p q h)),
          roots_one n part low E' (λ p q hp hq. all_linked alt (Reach·trans (of p hp).1 (of q hq).0) (of p hp).0 (of q hq).1),
          without_some x w E j,
          pairs_size (joined edge part) n,
        )

  pub ring_pairs : RingOfThree edge r → count_below part n ≤ pair_count (joined edge part) n
  ring_pairs t = go t.ring.rest t.ring.three t.ring.steps t.ring.distinct
    where
      x : ℕ
      x = t.first

      y : ℕ
      y = t.ring.last

      go : (l : List ℕ) → 2 ≤ length l → Steps (Along edge) t.first l t.ring.last → Distinct (t.first ∷ l) → count_below part n ≤ pair_count (joined edge part) n
      go [] h s d = absurd (omega arith)
      go (w ∷ []) h s d = absurd (omega arith)
      go (w ∷ v ∷ l) h s d =
          let x = t.first in
          let y = t.ring.last in
          let e = s.0 in
          let close = t.ring.closes in
          let in_rest = last_in w y v l s.1 in
          let far = not_head x w (v ∷ l) d.0 in
          let not-w : ¬ (y ≡ w) = λ q. true≢false (sym in_rest ∙ ap (λ (u : ℕ). member u (v ∷ l)) q ∙ d.1.0) in
          let not-x : ¬ (y ≡ x) = λ q. true≢false (sym in_rest ∙ ap (λ (u : ℕ). member u (v ∷ l)) q ∙ far.1) in
          let to-x = t.here.0 in
          let from-x = t.here.1 in
          let to-w : Reach edge r w = Reach·trans to-x (step e here) in
          let from-y : Reach edge y r = step close from-x in
          let to-y : Reach edge r y = Reach·trans to-w (steps_reach w y (v ∷ l) s.1) in
          let from-w : Reach edge w r = Reach·trans (steps_reach w y (v ∷ l) s.1) from-y in
          let last-pair : Pair y x = record { first = all y (to-y, from-y); second = all x (to-x, from-x); edges = inl close } in
          let first-pair : Pair x w = record { first = all x (to-x, from-x); second = all w (to-w, from-w); edges = inl e } in
          enough x w (pair_joins x w far.0 first-pair)
          (linked_trans (walk x w w y (v ∷ l) s.1 d.0 d.1 to-w from-y)
          (linked_edge x w y x not-x last-pair
          (pair_none x w y x (λ k. not-x k.0) (λ k. not-w k.0))
          (pair_none x w x y (λ k. not-w k.1) (λ k. not-x k.1))))
