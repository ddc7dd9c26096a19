-- `lists::order::connection_before` meets its contract: tuples compare as the definition says.
-- Assumes nothing.
use Rattle.std.proofs.Common.{rules}
use Rattle.std.proofs.lemmas.Int.{to_z-of_z}
use mathlib.Core.Path.{◌∙◌}
use native.Mathlib.Nat.{add-zero}
use Prim.Native.Nat.{◌+◌}
use mir.Val.{SFits}
use mir.Syntax.{w64}
use Rattle.lists.specs.Signed.{at}
use Rattle.lists.specs.Order.{record_before}
use Rattle.lists.proofs.Ordering.{less_three}
use Rattle.lists.proofs.order.connection_before.Goals as goal

pub returns : goal.returns
unfolding record_before
returns c =
    let list = c.args.list.now in
    let a = c.args.a in
    let b = c.args.b in
    let source : SFits w64 (at list a) = search rules in
    let sink : SFits w64 (at list (a + 1)) = search rules in
    let kind : SFits w64 (at list (a + 2)) = search rules in
    let source' : SFits w64 (at list b) = search rules in
    let sink' : SFits w64 (at list (b + 1)) = search rules in
    let kind' : SFits w64 (at list (b + 2)) = search rules in
    rw (add-zero a, add-zero b)
    (simp to_z-of_z at c.lt.ensures ∙ less_three (at list a) (at list (a + 1)) (at list (a + 2)) (at list b) (at list (b + 1)) (at list (b + 2)))
