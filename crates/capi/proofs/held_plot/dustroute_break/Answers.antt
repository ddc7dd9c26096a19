-- `capi::held_plot::dustroute_break` meets its contract: the counts are those of the plot that is left. Assumes nothing.
use mathlib.Core.Path.{sym, ◌∙◌}
use Rattle.held.specs.Left.{break}
use Rattle.held.specs.Lent.{lent_answer}
use Rattle.held.specs.Inspected.{lent_of}
use Rattle.capi.proofs.HeldLaws.{answer_small, err_small, counted_after, left_ok}
use Rattle.capi.proofs.held_plot.dustroute_break.Goals as goal

pub pack_refusal-requires : goal.pack_refusal-requires
pack_refusal-requires c =
    let lent = lent_of c.args.state.now c.args.frontiers.now c.args.places.now c.args.connections.now in
    err_small (lent_answer lent (break c.args.id)) (answer_small lent (break c.args.id)) (sym c.break_block.ensures.answer ∙ c.in-Err.is)

pub pack_plot-requires : goal.pack_plot-requires
pack_plot-requires c =
    let lent = lent_of c.args.state.now c.args.frontiers.now c.args.places.now c.args.connections.now in
    let after = lent_of c.break_block.new.state c.args.frontiers.now c.break_block.new.places c.break_block.new.connections in
    counted_after lent after (break c.args.id) c.break_block.ensures.left (sym c.break_block.ensures.answer ∙ c.in-Ok.is)

pub returns-in-Ok : goal.returns-in-Ok
returns-in-Ok c =
    let lent = lent_of c.args.state.now c.args.frontiers.now c.args.places.now c.args.connections.now in
    let after = lent_of c.break_block.new.state c.args.frontiers.now c.break_block.new.places c.break_block.new.connections in
    left_ok lent after (break c.args.id) c.break_block.ensures.left (sym c.break_block.ensures.answer ∙ c.in-Ok.is) c.pack_plot.result c.pack_plot.ensures
