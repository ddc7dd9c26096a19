-- Answers for the goals that the search leaves.
use borrow.Author.Rules.{rules}
use mathlib.Core.Path.{◌≡◌, sym, ap, ◌∙◌}
use mathlib.Core.Bool.{Bool}
use mathlib.Core.List.{List}
use Prim.Native.Nat.{ℕ, ◌-◌, ◌<◌}
use native.Mathlib.Omega.{arith}
use lib.ListN.{length}
use Rattle.lists.specs.First.{first_from}
use Rattle.lists.proofs.Search.{first_here, first_later, first_none}
use Rattle.faces.specs.Rows.{ports_below}
use Rattle.faces.specs.Select.{select_port}
use Rattle.faces.proofs.Places.{below_long, port_below}
use Rattle.faces.proofs.select.select_row.Goals as goal
use Rattle.faces.proofs.select.select_row.Invariants.{test}
use Rattle.faces.proofs.select.select_row.Goals.{After-row_serves, Start}

long : (s : Start) → length s.args.rows ≡ 7
long s = search rules

-- all rows below the count are searched from the first
whole : (rows : List (List ℕ)) (count face : ℕ) (outgoing : Bool) (kind n : ℕ) → n ≡ length (ports_below rows count)
    → first_from (test rows count face outgoing kind) 0 n ≡ select_port (ports_below rows count) face outgoing kind
unfolding select_port
whole rows count face outgoing kind n e = ap (first_from (test rows count face outgoing kind) 0) e

pub loop-i-init : goal.loop-i-init
loop-i-init c =
    let a = c.args in
    whole a.rows a.count a.face a.outgoing a.kind (c.min-i-end.result - 0)
    (omega (arith, below_long a.rows a.count, long c.before, c.min-i-end.ensures))

-- what the call says of the row at i
tested : (c : After-row_serves) → c.row_serves.result ≡ test c.args.rows c.args.count c.args.face c.args.outgoing c.args.kind c.loop-i.i
tested c =
    let below : c.loop-i.i < c.args.count = omega (arith, c.min-i-end.ensures, c.loop-i-test.true) in
    cc (c.row_serves.ensures, port_below c.args.rows c.args.count c.loop-i.i below)

pub returns-then-row_serves : goal.returns-then-row_serves
returns-then-row_serves c =
    sym (first_here _ _ _ c.loop-i-test.true (sym (tested (goal.at.returns-then-row_serves c).After-row_serves) ∙ c.if-row_serves.true))
    ∙ c.loop-i.invariant

pub loop-i-preserved : goal.loop-i-preserved
loop-i-preserved c =
    sym (first_later _ _ _ c.loop-i-test.true (sym (tested (goal.at.loop-i-preserved c).After-row_serves) ∙ c.if-row_serves.false))
    ∙ c.loop-i.invariant

pub returns : goal.returns
returns c = sym (first_none _ _ _ c.loop-i-test.false) ∙ c.loop-i.invariant
