-- Answers for the goals that the search leaves.
use Prim.Native.Nat.{◌<◌}
use mathlib.Core.Path.{sym, ap₂, ◌∙◌}
use mathlib.Core.Bool.{◌&&◌}
use native.Mathlib.Omega.{arith}
use borrow.Author.Tests.{eqb-true}
use lib.ListN.{length}
use Rattle.trail.proofs.Checked.{trail_first, trail_empty}
use Rattle.trail.proofs.check.is_trail.Goals as goal

pub returns-then-is_empty : goal.returns-then-is_empty
returns-then-is_empty c = sym (trail_empty _ _ _ c.args.trail.now (eqb-true _ 0 (sym c.is_empty.ensures ∙ c.if-is_empty.true)))

pub returns : goal.returns
returns c =
    let some : 0 < length c.args.trail.now = grind arith in
    let goes = rw c.port_list.ensures at c.goes_on.ensures in
    ap₂ ◌&&◌ c.is_drive_id.ensures goes ∙ sym (trail_first _ _ _ c.args.trail.now some)
