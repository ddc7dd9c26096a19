-- Answers for the goals that the search leaves.
use mathlib.Core.Path.{◌≡◌, subst}
use Prim.Native.Nat.{ℕ}
use native.Mathlib.Omega.{arith}
use Rattle.reach_table.specs.Table.{middles_below}
use Rattle.reach_table.specs.Square.{Holds}
use Rattle.reach_table.proofs.Filling.{middles_none}
use Rattle.reach_table.proofs.table.fill.Goals as goal

pub loop-m-init : goal.loop-m-init
loop-m-init c edge h = middles_none edge h

pub loop-m-preserved : goal.loop-m-preserved
loop-m-preserved c edge h = c.admit.ensures.middles edge (c.loop-m.invariant edge h)

pub returns : goal.returns
returns c edge h =
    let all : c.loop-m.m ≡ c.args.n = omega arith in
    subst (λ (k : ℕ). Holds c.args.n (middles_below k edge) c.loop-m.square) all (c.loop-m.invariant edge h)
