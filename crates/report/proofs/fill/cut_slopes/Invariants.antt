-- `report::fill::cut_slopes` meets its contract: the rows before row k are cut, and those from it on still stand.
-- Assumes nothing.
use mathlib.Core.List.{List}
use Prim.Native.Nat.{ℕ}
use lib.ListN.{length}
use Rattle.report.specs.Printing.{SlopedFront}
use Rattle.report.proofs.CutRows.{CutTo}
use Rattle.report.proofs.fill.cut_slopes.Given as goal

abbrev pub invariant-loop-k : goal.invariant-loop-k
invariant-loop-k l =
    (ns : List ℕ) → SlopedFront ns (length l.initial.slopes) l.initial.rows → CutTo ns l.initial.rows l.rows l.slopes l.k
