-- Connections joined one after the other are joined as the definition says.
--     joined_one           one connection, joined with no branch on its kind
--     unite_then           uniting two lists of pairs one after the other
--     joins_below          the pairs are of places below the number of components
--     joins_more           what nets join, fragments join
--     nets_shared          so what has one root among the nets has one among the fragments
--     skip_nets, skip_fragments     a connection whose ends are of one net
--     join_net, leave_nets          any other, where nets use its kind and where not
-- Assumes nothing.
use Rattle.std.specs.Prelude.{Option, Some, None}
use mathlib.Core.Path.{◌≡◌, refl, ap, ◌∙◌}
use mathlib.Core.Bool.{Bool, true, false, cond}
use mathlib.Core.List.Memᴰ
use mathlib.Core.List.{List, [], ◌∷◌, ◌++◌, Memᴰ}
use mathlib.Core.Logic.{⊎_elim}
use Prim.Native.Nat.{ℕ, zero, suc, ◌≤◌, ◌<◌}
use native.Mathlib.Omega.{arith}
use lib.Dec.{leb}
use lib.IntN.{ℤ}
use borrow.Author.Tests.{leb-true, le-leb}
use Rattle.lists.specs.Limits.{component_limit}
use Rattle.lists.specs.Records.{connection, component_count}
use Rattle.lists.specs.Ids.{place_of}
use Rattle.lists.proofs.Table.{place_below_lem}
use Rattle.circuit.specs.Forest.{Forest, root, singletons, unite_roots, unite, unite_all}
use Rattle.circuit.specs.Connected.{PairsBelow, PlacePairs}
use Rattle.circuit.specs.Topology.{join_of, joins, net_kinds, fragment_kinds}
use Rattle.circuit.specs.Within.{RootsShared}
use Rattle.circuit.proofs.Unite.{unite_same, one_root}
use Rattle.circuit.proofs.Closure.{connected}
use Rattle.circuit.proofs.Numbering.{joined_more}

-- a connection that does not count joins its source with itself
pub joined_one : (counts : Bool) (f : Forest) (source sink other : ℕ) → other ≡ cond counts sink source
    → unite f source other ≡ unite_all f (join_of counts (Some source) (Some sink))
unfolding unite_all unite
joined_one true f source sink other e = rw e
joined_one false f source sink other e = rw e (unite_same f (root f source) (root f source) refl)

pub unite_then : (f : Forest) (xs ys : List (ℕ × ℕ)) → unite_all f (xs ++ ys) ≡ unite_all (unite_all f xs) ys
unfolding unite_all
unite_then f [] ys = refl
unite_then f (x ∷ xs) ys = unite_then (unite f x.0 x.1) xs ys

-- without a place nothing is joined
pub none_joined : (counts : Bool) (f : Forest) (sink : Option ℕ) → f ≡ unite_all f (join_of counts None sink)
unfolding unite_all
none_joined true f sink = refl
none_joined false f sink = refl

pub half_joined : (counts : Bool) (f : Forest) (source : ℕ) → f ≡ unite_all f (join_of counts (Some source) None)
unfolding unite_all
half_joined true f source = refl
half_joined false f source = refl

-- ---- the pairs are of components

one_below : (cs : List ℤ) (a b : ℕ) (counts : Bool) → PairsBelow (component_count cs) (join_of counts (place_of cs a) (place_of cs b))
one_below cs a b counts = go counts (place_of cs a) refl (place_of cs b) refl
  where
    go : (counts : Bool) (x : Option ℕ) → place_of cs a ≡ x → (y : Option ℕ) → place_of cs b ≡ y → PairsBelow (component_count cs) (join_of counts x y)
    go true (Some p) e (Some q) g x y m =
        let same : ◌≡◌ {A = ℕ × ℕ} (x, y) (p, q) = Memᴰ.eq_of_singleton m in
        let sx : x ≡ p = ap (λ (r : ℕ × ℕ). r.0) same in
        let sy : y ≡ q = ap (λ (r : ℕ × ℕ). r.1) same in
        let pb = place_below_lem cs a p e in
        let qb = place_below_lem cs b q g in
        (omega (arith, pb), omega (arith, qb))
    go true (Some p) e None g x y m = absurd (Memᴰ.not-nil m)
    go true None e sink g x y m = absurd (Memᴰ.not-nil m)
    go false source e sink g x y m = absurd (Memᴰ.not-nil m)

pub joins_below : (cs ps : List ℤ) (top m : ℕ) → PairsBelow (component_count cs) (joins cs ps top m)
unfolding joins
joins_below cs ps top zero x y m = absurd (Memᴰ.not-nil m)
joins_below cs ps top (suc k) x y m =
    ⊎_elim
    (joins_below cs ps top k x y)
    (one_below cs (connection ps k).source (connection ps k).sink (leb (connection ps k).kind top) x y)
    (Memᴰ.append_cases (joins cs ps top k) m)

-- ---- nets lie in fragments

join_more : (s t : Bool) (x y : Option ℕ) → (s ≡ true → t ≡ true) → (a b : ℕ) → Memᴰ {A = ℕ × ℕ} (a, b) (join_of s x y) → Memᴰ {A = ℕ × ℕ} (a, b) (join_of t x y)
join_more true true x y more a b m = m
join_more true false x y more a b m = let z : ◌≡◌ {A = Bool} false true = more refl in absurd (let n : ◌≡◌ {A = ℕ} 0 1 = cc in omega arith)
join_more false t x y more a b m = absurd (Memᴰ.not-nil m)

pub joins_more : (cs ps : List ℤ) (low high : ℕ) → low ≤ high → (m a b : ℕ) → Memᴰ {A = ℕ × ℕ} (a, b) (joins cs ps low m) → Memᴰ {A = ℕ × ℕ} (a, b) (joins cs ps high m)
unfolding joins
joins_more cs ps low high h zero a b m = absurd (Memᴰ.not-nil m)
joins_more cs ps low high h (suc k) a b m =
    let source = place_of cs (connection ps k).source in
    let sink = place_of cs (connection ps k).sink in
    let counts : leb (connection ps k).kind low ≡ true → leb (connection ps k).kind high ≡ true =
    λ e. le-leb (connection ps k).kind high (omega (arith, leb-true (connection ps k).kind low e)) in
    ⊎_elim
    (λ early. Memᴰ.append_left (join_of (leb (connection ps k).kind high) source sink) (joins_more cs ps low high h k a b early))
    (λ late. Memᴰ.append_right (joins cs ps high k) (join_more (leb (connection ps k).kind low) (leb (connection ps k).kind high) source sink counts a b late))
    (Memᴰ.append_cases (joins cs ps low k) m)

pub nets_shared : (cs ps : List ℤ) → component_count cs ≤ component_limit → (k : ℕ)
    → RootsShared (unite_all singletons (joins cs ps net_kinds k)) (unite_all singletons (joins cs ps fragment_kinds k))
nets_shared cs ps few k v w hv hw e =
    (connected (joins cs ps fragment_kinds k) (places fragment_kinds) v w hv hw).1
    (joined_more _ _ (joins_more cs ps net_kinds fragment_kinds (omega arith) k) ((connected (joins cs ps net_kinds k) (places net_kinds) v w hv hw).0 e))
  where
    places : (top : ℕ) → PlacePairs (joins cs ps top k)
    places top a b m = let h = joins_below cs ps top k a b m in (omega (arith, h), omega (arith, h))

-- ---- a connection whose ends have the roots l and r in the forest of nets; its sink is taken for its source where fragments do not use its kind

low_high : (kind : ℕ) → kind ≤ net_kinds → leb kind fragment_kinds ≡ true
low_high kind h = le-leb kind fragment_kinds (omega arith)

pub skip_nets : (f : Forest) (kind source sink other : ℕ) → other ≡ cond (leb kind fragment_kinds) sink source → root f source ≡ root f other
    → f ≡ unite_all f (join_of (leb kind net_kinds) (Some source) (Some sink))
unfolding unite_all
skip_nets f kind source sink other taken same = go (leb kind net_kinds) refl
  where
    go : (t : Bool) → leb kind net_kinds ≡ t → f ≡ unite_all f (join_of t (Some source) (Some sink))
    go false e = refl
    go true e =
        let whole : other ≡ sink = taken ∙ ap (λ (t : Bool). cond t sink source) (low_high kind (leb-true kind net_kinds e)) in
        one_root f source sink (same ∙ ap (root f) whole)

pub skip_fragments : (f g : Forest) → RootsShared f g → (kind source sink other : ℕ) → source < component_limit → sink < component_limit
    → other ≡ cond (leb kind fragment_kinds) sink source → root f source ≡ root f other
    → g ≡ unite_all g (join_of (leb kind fragment_kinds) (Some source) (Some sink))
skip_fragments f g shared kind source sink other hs hk taken same =
    one_root g source other (shared source other hs (rw taken (chosen (leb kind fragment_kinds))) same) ∙ joined_one (leb kind fragment_kinds) g source sink other taken
  where
    chosen : (t : Bool) → cond t sink source < component_limit
    chosen true = hk
    chosen false = hs

pub join_net : (f : Forest) (kind source sink other : ℕ) → other ≡ cond (leb kind fragment_kinds) sink source → kind ≤ net_kinds
    → unite_roots f (root f source) (root f other) ≡ unite_all f (join_of (leb kind net_kinds) (Some source) (Some sink))
unfolding unite_all unite
join_net f kind source sink other taken low =
    let whole : other ≡ sink = taken ∙ ap (λ (t : Bool). cond t sink source) (low_high kind low) in
    rw (le-leb kind net_kinds low, whole)

pub leave_nets : (f : Forest) (kind source sink : ℕ) → net_kinds < kind → f ≡ unite_all f (join_of (leb kind net_kinds) (Some source) (Some sink))
unfolding unite_all
leave_nets f kind source sink high = go (leb kind net_kinds) refl
  where
    go : (t : Bool) → leb kind net_kinds ≡ t → f ≡ unite_all f (join_of t (Some source) (Some sink))
    go false e = refl
    go true e = absurd (omega (arith, leb-true kind net_kinds e))
