-- Rings: what a pupil would call a loop. A straight wire whose connections go both ways is one region, and has none.
--     Steps, RingThrough       a closed chain through distinct numbers, three or more, by any relation
--     OnRing                   such a chain through a number, or one that leads to itself
--     RingOfThree, SelfEdge, HasRing     of a graph, in the region of a node
--     joined, pair_count, join_count     members of a region that an edge joins, in either direction; how many pairs of them there are
--     ring_test                at least as many of them as members
-- The theorem is `ring_laws` of proofs/Laws.antt.
-- Assumes nothing: these are definitions and a statement.
use Rattle.std.specs.Prelude.{◌≡◌, Bool, true, false, ◌&&◌, ◌||◌, List, [], ◌∷◌, ◌⊎◌, ◌↔◌, ℕ, zero, suc, ◌+◌, ◌≤◌, eqb, leb, length}
use Rattle.sets.specs.Members.{count_below}
use Rattle.tables.specs.Order.{member}
use Rattle.regions.specs.Graph.{Edges, Both, at}
use Rattle.regions.specs.Kosaraju.{region_of}

-- ---- rings

-- x leads to the first number of the list, each of its numbers to the next, and the last one, or x where there is none, is y
abbrev pub Steps : (ℕ → ℕ → Type 0) → ℕ → List ℕ → ℕ → Type 0
Steps Leads x [] y = x ≡ y
Steps Leads x (z ∷ l) y = Leads x z × Steps Leads z l y

-- no number stands in the list twice
abbrev pub Distinct : List ℕ → Type 0
Distinct [] = Unit
Distinct (x ∷ l) = (member x l ≡ false) × Distinct l

-- a closed chain that begins at x
pub record RingThrough (Leads : ℕ → ℕ → Type 0) (x : ℕ) : Type 0 where
  pub rest : List ℕ
  pub last : ℕ
  pub three : 2 ≤ length rest
  pub steps : Steps Leads x rest last
  pub closes : Leads last x
  pub distinct : Distinct (x ∷ rest)

-- x is on a ring: of three or more, or it leads to itself
abbrev pub OnRing : (ℕ → ℕ → Type 0) → ℕ → Type 0
OnRing Leads x = RingThrough Leads x ⊎ Leads x x

-- ---- of a graph

-- an edge leads from a to b
abbrev pub Along : Edges → ℕ → ℕ → Type 0
Along edge a b = edge a b ≡ true

-- a ring of three nodes or more in the region of node r
pub record RingOfThree (edge : Edges) (r : ℕ) : Type 0 where
  pub first : ℕ
  pub here : Both edge r first
  pub ring : RingThrough (Along edge) first

-- an edge of that region from a node to itself
abbrev pub SelfEdge : Edges → ℕ → Type 0
SelfEdge edge r = (a : ℕ) × Both edge r a × (edge a a ≡ true)

abbrev pub HasRing : Edges → ℕ → Type 0
HasRing edge r = RingOfThree edge r ⊎ SelfEdge edge r

-- ---- counting

-- two members that an edge joins, in either direction
abbrev pub joined : Edges → (ℕ → Bool) → Edges
joined edge part a b = part a && (part b && (edge a b || edge b a))

-- how many pairs of distinct numbers below n pass the test, the smaller number first
unfoldable pub pair_count : Edges → ℕ → ℕ
pair_count test zero = 0
pair_count test (suc b) = pair_count test b + count_below (λ a. test a b) b

-- the same with each number and itself
unfoldable pub join_count : Edges → ℕ → ℕ
join_count test zero = 0
join_count test (suc b) = join_count test b + count_below (λ a. test a b) (suc b)

-- the members of region number q
abbrev pub in_region : ℕ → Edges → ℕ → ℕ → Bool
in_region n edge q a = eqb (at (region_of n edge) a) q

-- at least as many joined pairs as members, a member joined to itself being one
abbrev pub ring_test : ℕ → Edges → (ℕ → Bool) → Bool
ring_test n edge part = leb (count_below part n) (join_count (joined edge part) n)

-- of the region of node r, whose members pass the test `part`
pub record RingLawsOf (n : ℕ) (edge : Edges) (r : ℕ) (part : ℕ → Bool) : Type 0 where
  -- a ring of three or more exactly if there are at least as many pairs of distinct members, joined in either direction, as members
  pub three : (leb (count_below part n) (pair_count (joined edge part) n) ≡ true) ↔ RingOfThree edge r
  -- a ring exactly if there are so many, a member joined to itself counted too
  pub any : (ring_test n edge part ≡ true) ↔ HasRing edge r
  -- so an edge between two members and no edge back is on a ring
  pub one_way : (a b : ℕ) → Both edge r a → Both edge r b → edge a b ≡ true → edge b a ≡ false → RingOfThree edge r
  -- the members are joined: there is at most one pair fewer than members
  pub connected : count_below part n ≤ pair_count (joined edge part) n + 1

abbrev pub RingLaws : ℕ → Edges → ℕ → Type 0
RingLaws n edge r = RingLawsOf n edge r (in_region n edge (at (region_of n edge) r))
