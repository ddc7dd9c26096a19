-- Answers for the goals that the search leaves.
use mathlib.Core.Path.{ap, ◌∙◌}
use mathlib.Core.List.{List}
use Prim.Native.Nat.{ℕ}
use native.Mathlib.Omega.{arith}
use lib.ListN.{get_or, set}
use Rattle.trail.specs.Scene.{id_of}
use Rattle.trail.proofs.Written.{laid_more}
use Rattle.trail.proofs.plot.write_ids.Goals as goal

pub loop-i-preserved : goal.loop-i-preserved
loop-i-preserved c =
    let i = c.loop-i.i in
    let id = id_of c.args.keys.now (get_or c.args.way.now i 0) in
    rw c.from.ensures
    (ap (λ (t : List ℕ). set t i id) c.loop-i.invariant
    ∙ laid_more (id_of c.args.keys.now) c.args.way.now c.args.trail.now i c.loop-i-test.true (omega (arith, c.requires.1, c.loop-i-test.true)))
