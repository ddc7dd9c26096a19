-- Nothing is left to count.
use mathlib.Core.Path.{ap}
use mathlib.Core.List.{List}
use native.Mathlib.Omega.{arith}
use lib.IntN.{ℤ}
use lib.ListN.{length}
use Rattle.joining.proofs.Steps.{none_left, count_start}
use Rattle.joining.proofs.merging.merged_count.Goals as goal

pub returns : goal.returns
returns c =
    let a = c.args in
    let none = ap (λ (l : List (List ℤ)). length l) (none_left a.fields.now a.width a.a.now c.loop-step.i a.b.now c.loop-step.j c.next_record.result c.next_record.ensures c.in_default.is) in
    let all = count_start a.fields.now a.width c.requires.fields_below.1 c.requires.fields_below.0 a.a.now a.b.now in
    omega (arith, none, c.loop-step.invariant, all)
