-- `signals::inferred::few_neighbours` meets its contract: the neighbours of both rows are seen.
-- Assumes nothing.
use Rattle.std.proofs.Common.{◌≡◌, Bool, true, false, ◌&&◌, ◌||◌, List, ℕ, length, get_or, refl, ap, ◌∙◌, arith}
use lib.Dec.{eqb, leb}
use Rattle.sets.specs.Members.{count_below}
use Rattle.tables.specs.Order.{member}
use Rattle.regions.specs.Graph.{Edges}
use Rattle.graph.specs.Rows.{edges_of}
use Rattle.signals.specs.Seen.{SeenOf, near}
use Rattle.signals.specs.declared.inferred.Seen.{Seen}
use Rattle.signals.specs.declared.inferred.Seen.TheVariants.{None, One, Many}
use Rattle.signals.proofs.Neighbours.{both_rows, few_none, few_one, few_many}
use Rattle.signals.proofs.Rowed.{row_indices}
use Rattle.signals.proofs.inferred.few_neighbours.Goals as goal
use Rattle.signals.proofs.inferred.few_neighbours.Goals.{in-Many, in_default}

pub see_row-first-requires : goal.see_row-first-requires
see_row-first-requires c =
    let net = c.args.network.now in
    (c.requires, rw c.row.ensures (row_indices net.forward.rows net.nodes (omega (arith, net.nodes, c.requires))))

pub see_row-both-requires : goal.see_row-both-requires
see_row-both-requires c =
    let net = c.args.network.now in
    (c.requires, rw c.row-2.ensures (row_indices net.turned refl c.requires))

-- what was seen in both rows tells whether few are near
module _ (edge : Edges) (labels inward outward : List ℕ) (m : ℕ) (forward : (j : ℕ) → member j inward ≡ edge m j) (backward : (j : ℕ) → member j outward ≡ edge j m) where
  abbrev same : ℕ → Bool
  same j = eqb (get_or labels j 0) (get_or labels m 0)

  abbrev Both : Seen → Type 0
  Both = SeenOf (length labels) (λ j. (false || (same j && member j inward)) || (same j && member j outward))

  abbrev few : Bool
  few = leb (count_below (near edge labels m) (length labels)) 1

  seen : (s : Seen) → Both s → SeenOf (length labels) (near edge labels m) s
  seen = both_rows (length labels) same (λ j. member j inward) (λ j. member j outward) (edge m) (λ j. edge j m) forward backward

  none : Both None → true ≡ few
  none h = few_none (length labels) (near edge labels m) (seen None h)

  one : (i : ℕ) → Both (One i) → true ≡ few
  one i h = few_one (length labels) (near edge labels m) i (seen (One i) h)

  many : Both Many → false ≡ few
  many h = few_many (length labels) (near edge labels m) (seen Many h)

  -- what is not many is none or one
  others : (s : Seen) → (s ≡ Many → ⊥) → Both s → true ≡ few
  others None other h = none h
  others (One i) other h = one i h
  others Many other h = absurd (other refl)

pub returns : goal.returns
returns c =
    let net = c.args.network.now in
    let m = c.args.m in
    let edge = edges_of net.forward.ends.now net.forward.next.now in
    let nothing = c.see_row-first.ensures (λ j. false) (λ j h. refl) in
    let forward : (j : ℕ) → member j c.row.result.now ≡ edge m j = λ j. ap (member j) c.row.ensures ∙ net.forward.rows.rows.holds m (omega (arith, net.nodes, c.requires)) j in
    let backward : (j : ℕ) → member j c.row-2.result.now ≡ edge j m = λ j. ap (member j) c.row-2.ensures ∙ net.turned.rows.holds m c.requires j in
    elim c.match-matches.branch [
      | in-Many b ↦ rw b.matches-is (many edge net.labels.now c.row.result.now c.row-2.result.now m forward backward (b.in-Many.ensures _ nothing))
      | in_default b ↦ rw b.matches-is
          (others edge net.labels.now c.row.result.now c.row-2.result.now m forward backward _ b.in_default.not-Many (c.see_row-both.ensures _ nothing))
    ]
