-- `UnionFind::union_roots` meets its contract: each way out is a case of union by rank.
-- Assumes nothing.
use native.Mathlib.Omega.{arith}
use mathlib.Core.Path.{sym, subst}
use Prim.Native.Nat.{◌+◌}
use lib.Arith.{lt_of_le-ne}
use lib.ListN.{get_or, set}
use Rattle.circuit.specs.Forest.{unite_roots, Represents}
use Rattle.circuit.proofs.Follow.{seen_forest, represents_seen}
use Rattle.circuit.proofs.Unite.{rank_fits, unite_same, left_lower, right_lower, level}
use Rattle.circuit.proofs.forest.UnionFind.union_roots.Goals as goal
use Rattle.circuit.proofs.forest.UnionFind.union_roots.Goals.{Then-low-high, Then-low-high-2, Else-low-high-2}

pub returns-then-l-r : goal.returns-then-l-r
returns-then-l-r c = sym (unite_same c.args.self.now c.args.l c.args.r c.if-l-r.true)

lower : (c : Then-low-high) → Represents (set c.self.inside.parents c.args.l c.args.r) c.self.inside.ranks (unite_roots c.args.self.now c.args.l c.args.r)
lower c =
    let rep = subst (Represents c.self.inside.parents c.self.inside.ranks) c.self.view_is c.self.invariant in
    left_lower _ _ _ rep c.args.l c.args.r c.requires.below.0 c.requires.below.1 c.requires.roots.0 c.requires.roots.1 c.if-l-r.false c.if-low-high.true

pub invariant_of-self : goal.invariant_of-self
invariant_of-self c = represents_seen _ _ _ (lower (goal.at.invariant_of-self c).Then-low-high)

pub returns-then-low-high : goal.returns-then-low-high
returns-then-low-high c = seen_forest _ _ _ (lower (goal.at.returns-then-low-high c).Then-low-high)

pub overflow_add-self : goal.overflow_add-self
overflow_add-self c = omega (arith, rank_fits _ _ _ c.self.invariant c.args.l c.requires.below.0)

same : (c : Then-low-high-2)
    → Represents (set c.self.inside.parents c.args.r c.args.l) (set c.self.inside.ranks c.args.l (get_or c.self.inside.ranks c.args.l 0 + 1)) (unite_roots c.args.self.now c.args.l c.args.r)
same c =
    let rep = subst (Represents c.self.inside.parents c.self.inside.ranks) c.self.view_is c.self.invariant in
    level _ _ _ rep c.args.l c.args.r c.requires.below.0 c.requires.below.1 c.requires.roots.0 c.requires.roots.1 c.if-l-r.false c.if-low-high-2.true

pub invariant_of-self-then-low-high-2 : goal.invariant_of-self-then-low-high-2
invariant_of-self-then-low-high-2 c = represents_seen _ _ _ (same (goal.at.invariant_of-self-then-low-high-2 c).Then-low-high-2)

pub returns-then-low-high-2 : goal.returns-then-low-high-2
returns-then-low-high-2 c = seen_forest _ _ _ (same (goal.at.returns-then-low-high-2 c).Then-low-high-2)

higher : (c : Else-low-high-2) → Represents (set c.self.inside.parents c.args.r c.args.l) c.self.inside.ranks (unite_roots c.args.self.now c.args.l c.args.r)
higher c =
    let rep = subst (Represents c.self.inside.parents c.self.inside.ranks) c.self.view_is c.self.invariant in
    right_lower _ _ _ rep c.args.l c.args.r c.requires.below.0 c.requires.below.1 c.requires.roots.0 c.requires.roots.1 c.if-l-r.false
    (lt_of_le-ne c.if-low-high.false (λ e. c.if-low-high-2.false (sym e)))

pub invariant_of-self-else-low-high-2 : goal.invariant_of-self-else-low-high-2
invariant_of-self-else-low-high-2 c = represents_seen _ _ _ (higher (goal.at.invariant_of-self-else-low-high-2 c).Else-low-high-2)

pub returns-else-low-high-2 : goal.returns-else-low-high-2
returns-else-low-high-2 c = seen_forest _ _ _ (higher (goal.at.returns-else-low-high-2 c).Else-low-high-2)
