-- What the search for inferred inputs keeps: the neighbours seen so far; and flags of the regions that edges lead into.
-- Assumes nothing: these are definitions.
use Rattle.std.specs.Prelude.{ℕ, ◌≤◌, ◌<◌, ◌≡◌, Bool, true, false, ◌&&◌, ◌||◌, List, ◌↔◌, eqb, leb, length, get_or, ℤ}
use Rattle.sets.specs.Members.{count_below}
use Rattle.lists.specs.Records.{port_count}
use Rattle.lists.specs.First.{some}
use Rattle.regions.specs.Graph.{Edges, marked}
use Rattle.signals.specs.Signals.{is_signal}
use Rattle.signals.specs.declared.inferred.Seen.{Seen}
use Rattle.signals.specs.declared.inferred.Seen.TheVariants.{None, One, Many}

-- of the numbers below n that pass the test: none, one, or two and more were seen
abbrev pub SeenOf : ℕ → (ℕ → Bool) → Seen → Type 0
SeenOf n test None = (j : ℕ) → j < n → test j ≡ false
SeenOf n test (One i) = (i < n) × ((test i ≡ true) × ((j : ℕ) → j < n → test j ≡ true → j ≡ i))
SeenOf n test Many = (i : ℕ) × ((j : ℕ) × ((i < j) × ((j < n) × ((test i ≡ true) × (test j ≡ true)))))

-- two nodes have the same label, and an edge leads from the one to the other, either way
abbrev pub near : Edges → List ℕ → ℕ → ℕ → Bool
near edge labels m = λ j. eqb (get_or labels j 0) (get_or labels m 0) && (edge m j || edge j m)

-- at most one is near to m
abbrev pub few_near : Edges → List ℕ → ℕ → Bool
few_near edge labels m = leb (count_below (near edge labels m) (length labels)) 1

-- what flags become by the nodes in a row that pass the test: the flag of the label of each is set
pub record Joined (row labels : List ℕ) (test : ℕ → Bool) (before after : List Bool) : Type 0 where
  pub at : (r : ℕ) → r < length after
      → marked after r ≡ (marked before r || some (λ p. test (get_or row p 0) && eqb (get_or labels (get_or row p 0) 0) r) (length row))

-- the flags of those labels are set whose nodes an edge leads into that passes the test, and no other
pub record Led (edge : Edges) (test : ℕ → ℕ → Bool) (labels : List ℕ) (flags : List Bool) : Type 0 where
  pub exactly : (r : ℕ) → r < length flags
      → (marked flags r ≡ true) ↔ ((a b : ℕ) × (edge a b ≡ true) × (test a b ≡ true) × (get_or labels b 0 ≡ r))

-- the ends of a signal connection are nodes below n
pub record SignalEnds (n : ℕ) (ps : List ℤ) (members : List ℕ) : Type 0 where
  pub long : port_count ps ≤ length members
  pub below : (k : ℕ) → k < port_count ps → is_signal ps k ≡ true → get_or members k 0 < n
