-- `report::fill::fill_connections` meets its contract: before row k the rows before it stand at the front.
-- Assumes nothing.
use mathlib.Core.List.{List}
use Prim.Native.Nat.{ℕ}
use Rattle.assessment.proofs.Devices.{RowsPut}
use Rattle.report.specs.Printing.{Cut}
use Rattle.report.proofs.CutRows.{first_rows}
use Rattle.report.proofs.fill.fill_connections.Given as goal

abbrev pub invariant-loop-k : goal.invariant-loop-k
invariant-loop-k l = (ns : List ℕ) → Cut ns l.ports l.slopes → RowsPut (first_rows ns) 6 6 l.k-end l.initial.rows l.rows l.at l.k
