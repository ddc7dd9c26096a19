-- Answers for the goals that the search leaves.
use native.Mathlib.Omega.{arith}
use Prim.Native.Nat.{◌<◌}
use mathlib.Core.Path.{refl, sym, ◌∙◌, subst}
use lib.Seq.{get_or-set_same, get_or-set_other}
use borrow.Author.Count.{below_none, below_more}
use Rattle.lists.specs.Limits.{component_limit}
use Rattle.circuit.specs.Forest.{Represents}
use Rattle.circuit.specs.Groups.{roots_below}
use Rattle.circuit.proofs.Link.{root_is_own}
use Rattle.circuit.proofs.Numbering.{roots_most}
use Rattle.circuit.proofs.Roots.{roots_hit, roots_miss}
use Rattle.circuit.proofs.forest.UnionFind.number_roots.Goals as goal
use Rattle.circuit.proofs.forest.UnionFind.number_roots.Goals.{then-self-v, else-self-v}

pub loop-v-init : goal.loop-v-init
unfolding roots_below
loop-v-init c = record { counted = refl; numbered = below_none _ }

pub overflow_cast-number : goal.overflow_cast-number
overflow_cast-number c = omega (arith, c.loop-v.invariant.counted, roots_most c.args.self.now c.loop-v.v)

pub overflow_add-count : goal.overflow_add-count
overflow_add-count c = omega (arith, c.loop-v.invariant.counted, roots_most c.args.self.now c.loop-v.v)

pub loop-v-preserved : goal.loop-v-preserved
loop-v-preserved c =
    let f = c.args.self.now in
    let v = c.loop-v.v in
    let before = c.loop-v.invariant in
    let rep = subst (Represents c.self.inside.parents c.self.inside.ranks) c.self.view_is c.self.invariant in
    let below : v < component_limit = omega arith in record {
      counted = elim c.if-self-v.branch [
        | then-self-v w ↦ omega (arith, w.count-is, before.counted, roots_hit f v ((rep.linked v below).own w.if-self-v.true))
        | else-self-v w ↦ w.count-is ∙ before.counted ∙ sym (roots_miss f v (λ e. w.if-self-v.false (root_is_own _ _ f rep v below e)))
      ];
      numbered = below_more _ _
          (λ k lt. get_or-set_other c.loop-v.numbers v k _ 0 (λ e. omega arith) ∙ before.numbered k lt)
          (get_or-set_same c.loop-v.numbers v _ 0 (omega arith) ∙ before.counted);
    }
