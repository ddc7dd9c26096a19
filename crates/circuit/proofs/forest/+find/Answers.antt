-- Answers for the goals that the search leaves.
use Prim.Native.Nat.{ℕ, ◌+◌, ◌<◌, ◌-◌, ◌*◌}
use native.Mathlib.Omega.{arith}
use mathlib.Core.Path.{subst}
use lib.ListN.{get_or}
use Rattle.lists.specs.Limits.{rank_limit}
use Rattle.circuit.proofs.Flatten.{near_found, parent_found, gap_falls}
use Rattle.circuit.proofs.forest.+find.Goals as goal

-- v is a root or a root's child
pub find-returns-then-top-parent : goal.find-returns-then-top-parent
find-returns-then-top-parent t c = near_found c.args.parents.now c.args.ranks.now c.args.v c.requires.0 c.requires.1 c.if-top-parent.true

-- v's grandparent is a root
pub find-returns-then-parents-top : goal.find-returns-then-parents-top
find-returns-then-parents-top t c =
    let ps = c.args.parents.now in
    let rs = c.args.ranks.now in
    let (f, rep) = c.requires.1 in
    let below = (rep.linked c.args.v c.requires.0).below in
    parent_found ps ps rs c.args.v _ c.requires.0 c.requires.1 (near_found ps rs (get_or ps c.args.v 0) below c.requires.1 c.if-parents-top.true)

-- the parent's rank is higher
pub find_above-find-root-requires : goal.find_above-find-root-requires
find_above-find-root-requires t c =
    let ps = c.args.parents.now in
    let rs = c.args.ranks.now in
    let (v_below, forest, no_root) = c.requires in
    let (f, rep) = forest in
    let falls = gap_falls ps rs f rep c.args.v v_below no_root in (
      subst (λ (m : ℕ). 2 * (rank_limit - get_or rs (get_or ps c.args.v 0) 0) + 1 < m) c.decreases (omega (arith, falls)),
      ((rep.linked c.args.v v_below).below, (f, rep)),
    )

-- the parent's root is v's, and v gets it for a parent
pub find_above-returns : goal.find_above-returns
find_above-returns t c =
    let (v_below, forest, no_root) = c.requires in
    parent_found c.args.parents.now c.find-root.new.parents c.args.ranks.now c.args.v c.find-root.result v_below forest c.find-root.ensures
