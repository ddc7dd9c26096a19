-- Where the second sheet's lists are accepted, what is asked of both decides.
use Rattle.joining.specs.Plot.{plot_of}
use Rattle.join.proofs.Stages.{valid, plot_facts, lists_end}
use Rattle.join.proofs.join_lists.Goals as goal

pub invariant_of-second : goal.invariant_of-second
invariant_of-second c =
    let f = plot_facts (valid 2 c.grouping_lists-checked.ensures.answer c.in_sheet.ensures c.in_ok-in_sheet.was) in
    record { components_within = f.components; connections_within = f.connections; frontiers_whole = f.whole }

pub returns : goal.returns
returns c =
    let a = c.args in
    let v = valid 2 c.grouping_lists-checked.ensures.answer c.in_sheet.ensures c.in_ok-in_sheet.was in
    lists_end a.rules (plot_of a.first.components.now a.first.connections.now a.first.frontiers.now) a.other
    (plot_of a.components.now a.connections.now a.frontiers.now) c.requires.valid v c.join_plots.ensures c.in_sheet-2.ensures
