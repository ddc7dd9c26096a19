-- `held::inspect::blanks` meets its contract: the places seen are blank.
-- Assumes nothing.
use Rattle.std.specs.Prelude.{◌≡◌, true}
use Rattle.held.specs.Tests.{every}
use Rattle.held.specs.Lent.{is_blank}
use Rattle.held.proofs.InspectLaws.{seen}
use Rattle.held.proofs.inspect.blanks.Given as goal

abbrev pub invariant-loop-i : goal.invariant-loop-i
invariant-loop-i l = every (is_blank l.places) (seen l.state l.i) ≡ true
