-- The lists that were read are the fronts of the work lists, and these are cleared once the sheet is written.
use Rattle.lists.specs.Limits.{component_limit, connection_limit, frontier_limit}
use Rattle.sheet.proofs.Fronts.{fronts, accepted, formed, ruled}
use Rattle.convert.proofs.Answers.{left}
use Rattle.convert.proofs.convert_sheet.Goals as goal

pub returns : goal.returns
returns c =
    let text = c.args.text.now in
    let was = c.in_ok-sheet.was in
    let read = fronts component_limit connection_limit frontier_limit text c.read_sheet.ensures was in
    left text
    (accepted component_limit connection_limit frontier_limit text c.read_sheet.ensures was)
    c.other.ensures
    (formed component_limit connection_limit frontier_limit text c.read_sheet.ensures was)
    (ruled component_limit connection_limit frontier_limit text c.read_sheet.ensures was)
    read.of_components.is
    read.of_connections.is
    read.of_frontiers.is
    c.write_checked-written.ensures
    c.read_sheet.auto.components
    (c.fill.ensures.after (λ y e. e))
    c.read_sheet.auto.connections
    (c.fill-2.ensures.after (λ y e. e))
    c.read_sheet.auto.frontiers
    (c.fill-3.ensures.after (λ y e. e))
