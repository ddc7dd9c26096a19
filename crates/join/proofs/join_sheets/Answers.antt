-- The lists that were read are the fronts of the work lists, and these are cleared once both are joined.
use mathlib.Core.Path.{◌∙◌}
use lib.ListN.{length}
use Rattle.lists.specs.Limits.{component_limit, connection_limit, frontier_limit}
use Rattle.sheet.proofs.Fronts.{fronts, accepted as was_read, ruled}
use Rattle.join.specs.Entry.{parsed_by}
use Rattle.join.proofs.Stages.{accepted, behind, cleared, sheets_end}
use Rattle.join.proofs.join_sheets.Goals as goal

pub returns : goal.returns
returns c =
    let a = c.args in
    let text = a.first.now in
    let was = accepted 1 c.read_sheet-read.result c.in_sheet.ensures c.in_ok-sheet.was in
    let read = fronts component_limit connection_limit frontier_limit text c.read_sheet-read.ensures was in
    let good = was_read component_limit connection_limit frontier_limit text c.read_sheet-read.ensures was in
    record {
      written = sheets_end (parsed_by text) (parsed_by a.second.now) (length a.components.now) (length a.connections.now) (length a.frontiers.now) (length a.out.now) good
          (ruled component_limit connection_limit frontier_limit text c.read_sheet-read.ensures was)
          read.of_components.is
          read.of_connections.is
          read.of_frontiers.is
          (behind a.components.now read.of_components c.read_sheet-read.auto.components)
          (behind a.connections.now read.of_connections c.read_sheet-read.auto.connections)
          (behind a.frontiers.now read.of_frontiers c.read_sheet-read.auto.frontiers)
          c.join_read-written.ensures;
      components_left = cleared a.components.now good (c.join_read-written.auto.components ∙ c.read_sheet-read.auto.components) (c.fill.ensures.after (λ y e. e));
      connections_left = cleared a.connections.now good (c.join_read-written.auto.connections ∙ c.read_sheet-read.auto.connections) (c.fill-2.ensures.after (λ y e. e));
      frontiers_left = cleared a.frontiers.now good (c.join_read-written.auto.frontiers ∙ c.read_sheet-read.auto.frontiers) (c.fill-3.ensures.after (λ y e. e));
    }
