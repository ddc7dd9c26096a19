-- Where the first sheet's lists are accepted and the second sheet was read, the lists of both decide.
use lib.ListN.{length}
use Rattle.lists.specs.Limits.{component_limit, connection_limit, frontier_limit}
use Rattle.sheet.proofs.Fronts.{fronts, accepted as was_read, ruled}
use Rattle.joining.specs.Plot.{plot_of}
use Rattle.join.specs.Entry.{parsed_by}
use Rattle.join.proofs.Stages.{accepted, valid, plot_facts, behind_end}
use Rattle.join.proofs.join_behind.Goals as goal

pub invariant_of-first : goal.invariant_of-first
invariant_of-first c =
    let f = plot_facts (valid 1 c.grouping_lists-checked.ensures.answer c.in_sheet.ensures c.in_ok-in_sheet.was) in
    record { components_within = f.components; connections_within = f.connections; frontiers_whole = f.whole }

pub returns : goal.returns
returns c =
    let a = c.args in
    let text = a.text.now in
    let v = valid 1 c.grouping_lists-checked.ensures.answer c.in_sheet.ensures c.in_ok-in_sheet.was in
    let was = accepted 2 c.read_sheet-read.result c.in_sheet-2.ensures c.in_ok-second.was in
    let read = fronts component_limit connection_limit frontier_limit text c.read_sheet-read.ensures was in
    behind_end a.rules (plot_of a.components.now a.connections.now a.frontiers.now) (parsed_by text)
    (length a.components_left.now) (length a.connections_left.now) (length a.frontiers_left.now) (length a.out.now) v
    (was_read component_limit connection_limit frontier_limit text c.read_sheet-read.ensures was)
    (ruled component_limit connection_limit frontier_limit text c.read_sheet-read.ensures was)
    read.of_components.is
    read.of_connections.is
    read.of_frontiers.is
    c.join_lists.ensures
