-- Answers for the goals that the search leaves.
use Rattle.std.proofs.Common.{◌≡◌, false, ◌||◌, List, ℕ, get_or, take, refl, sym, ap, ◌∙◌, arith}
use native.Mathlib.Numerals.{add-one}
use lib.Seq.{take_all}
use lib.Dec.{eqb}
use Rattle.tables.specs.Order.{member}
use Rattle.signals.proofs.Neighbours.{member_one, eqb_turn}
use Rattle.signals.proofs.stages.holds.Goals as goal

none_yet : (x : ℕ) (row : List ℕ) → false ≡ member x (take 0 row)
unfolding member
none_yet x row = refl

pub loop-neighbour-init : goal.loop-neighbour-init
loop-neighbour-init c = none_yet c.args.x c.args.row.now

pub loop-neighbour-preserved : goal.loop-neighbour-preserved
loop-neighbour-preserved c =
    let x = c.args.x in
    let row = c.args.row.now in
    let at = c.loop-neighbour.neighbour-index in
    ap (λ t. t || eqb c.from.result x) c.loop-neighbour.invariant
    ∙ ap (λ i. member x (take at row) || eqb i x) c.from.ensures
    ∙ rw add-one (ap (λ t. member x (take at row) || t) (eqb_turn (get_or row at 0) x) ∙ sym (member_one x at row c.loop-neighbour-test.true))

pub returns : goal.returns
returns c = c.loop-neighbour.invariant ∙ ap (member c.args.x) (take_all c.loop-neighbour.neighbour-index c.args.row.now (omega arith))
