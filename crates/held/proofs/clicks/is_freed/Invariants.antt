-- `held::clicks::is_freed` meets its contract: the place is none of those seen.
-- Assumes nothing.
use Rattle.std.specs.Prelude.{◌≡◌, false}
use Rattle.tables.specs.Order.{member}
use Rattle.held.proofs.InspectLaws.{seen}
use Rattle.held.proofs.clicks.is_freed.Given as goal

abbrev pub invariant-loop-i : goal.invariant-loop-i
invariant-loop-i l = member l.k (seen l.state l.i) ≡ false
