-- Answers for the goals that the search leaves.
use mathlib.Core.Path.{sym, ◌∙◌}
use mathlib.Core.Bool.{not}
use Rattle.lists.specs.First.{is_found}
use Rattle.lists.specs.Ids.{first_repeated}
use Rattle.lists.specs.Ranges.{first_out_of_range, component_low, component_high}
use Rattle.lists.proofs.Search.{both}
use Rattle.held.specs.Inspected.{stand_pass}
use Rattle.held.proofs.ValidLaws.{not_found}
use Rattle.held.proofs.inspect.stand_pass.Goals as goal

pub returns-then-not-blocks_pass : goal.returns-then-not-blocks_pass
unfolding stand_pass
returns-then-not-blocks_pass c = let no = sym c.blocks_pass.ensures.answer ∙ c.if-not-blocks_pass.true in rw no

pub returns : goal.returns
unfolding stand_pass
returns c =
    let blocks = c.args.blocks.now in
    let yes = sym c.blocks_pass.ensures.answer ∙ c.if-not-blocks_pass.false in
    let once = not_found (first_repeated blocks) (both (not (is_found (first_out_of_range component_low component_high blocks))) (not (is_found (first_repeated blocks))) yes).1 in
    rw yes (c.connections_pass.ensures blocks (c.blocks_pass.ensures.table c.if-not-blocks_pass.false) once)
