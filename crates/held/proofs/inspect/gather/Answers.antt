-- Answers for the goals that the search leaves.
use native.Mathlib.Omega.{arith}
use mathlib.Core.Path.{◌≡◌, subst}
use Prim.Native.Nat.{ℕ}
use Rattle.held.specs.Inspected.{Gathered}
use Rattle.held.proofs.Loops.{gathered_start, gathered_more}
use Rattle.held.proofs.inspect.gather.Goals as goal

pub loop-k-init : goal.loop-k-init
loop-k-init c = gathered_start c.args.places.now c.args.marks.now c.args.out.now

pub gather_one-count-requires-clause-room : goal.gather_one-count-requires-clause-room
gather_one-count-requires-clause-room c = omega (arith, c.loop-k.auto.out, c.loop-k.invariant.few, c.requires.room)

pub loop-k-preserved : goal.loop-k-preserved
loop-k-preserved c =
    gathered_more c.args.places.now c.args.marks.now c.loop-k.k c.loop-k.count c.loop-k.out _ _ (omega (arith, c.requires.within.0))
    (omega (arith, c.loop-k.auto.out, c.loop-k.invariant.few, c.requires.room)) c.loop-k.invariant c.gather_one-count.ensures

pub returns : goal.returns
returns c =
    let all : c.loop-k.k ≡ c.args.used = omega arith in
    subst (λ (n : ℕ). Gathered c.args.places.now c.args.marks.now n c.loop-k.out c.loop-k.count) all c.loop-k.invariant
