-- Answers for the goals that the search leaves.
use mathlib.Core.Path.{◌≡◌, sym, ◌∙◌}
use lib.Dec.{eqb}
use lib.ListN.{get_or}
use borrow.Author.Tests.{ne_eqb, eq-eqb}
use Rattle.held.proofs.InspectLaws.{counts_turn, counts_done}
use Rattle.held.proofs.inspect.counts_zero.Goals as goal

pub returns-then-state-k-ne0 : goal.returns-then-state-k-ne0
returns-then-state-k-ne0 c =
    let n = get_or c.args.state.now c.loop-k.k 0 in
    let no : eqb 0 n ≡ _ = ne_eqb 0 n (λ e. c.if-state-k-ne0.true (sym e)) in
    sym (counts_turn c.args.state.now c.loop-k.k c.loop-k-test.true ∙ rw no) ∙ c.loop-k.invariant

pub loop-k-preserved : goal.loop-k-preserved
loop-k-preserved c =
    let n = get_or c.args.state.now c.loop-k.k 0 in
    let yes : eqb 0 n ≡ _ = eq-eqb 0 n (sym c.if-state-k-ne0.false) in
    sym (counts_turn c.args.state.now c.loop-k.k c.loop-k-test.true ∙ rw yes) ∙ c.loop-k.invariant

pub returns : goal.returns
returns c = sym (counts_done c.args.state.now c.loop-k.k c.loop-k-test.false) ∙ c.loop-k.invariant
