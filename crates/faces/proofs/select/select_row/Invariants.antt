-- `faces::select::select_row` meets its contract: what is left to search below the count has the answer.
-- Assumes nothing.
use mathlib.Core.Path.{◌≡◌}
use mathlib.Core.Bool.{Bool}
use mathlib.Core.List.{List}
use Prim.Native.Nat.{ℕ, ◌-◌}
use Rattle.lists.specs.First.{first_from}
use Rattle.faces.specs.Rows.{ports_below}
use Rattle.faces.specs.Select.{serves, port_at, select_port}
use Rattle.faces.proofs.select.select_row.Given as goal

-- row k serves
abbrev pub test : List (List ℕ) → ℕ → ℕ → Bool → ℕ → ℕ → Bool
test rows count face outgoing kind k = serves (port_at (ports_below rows count) k) face outgoing kind

abbrev pub invariant-loop-i : goal.invariant-loop-i
invariant-loop-i l =
    first_from (test l.rows l.count l.face l.outgoing l.kind) l.i (l.i-end - l.i)
    ≡ select_port (ports_below l.rows l.count) l.face l.outgoing l.kind
