-- `reach_table::table::join_row` meets its contract. The loop's invariant: the columns before c are joined, and the others are as they
-- were. Assumes nothing.
use mathlib.Core.Path.{◌≡◌}
use Prim.Native.Nat.{ℕ, ◌≤◌, ◌<◌}
use lib.Bits.{bit_or}
use lib.ListN.{get_or}
use Rattle.reach_table.proofs.table.join_row.Given as goal

abbrev pub invariant-loop-c : goal.invariant-loop-c
invariant-loop-c l =
    ((j : ℕ) → j < l.c → get_or l.row j 0 ≡ bit_or (get_or l.initial.row j 0) (get_or l.middle j 0))
    × ((j : ℕ) → l.c ≤ j → get_or l.row j 0 ≡ get_or l.initial.row j 0)
