-- The head and the lists, measured one after the other.
use Rattle.lists.specs.Limits.{component_width, connection_width}
use Rattle.lists.specs.Order.{component_order, connection_order}
use mathlib.Core.List.{◌++◌}
use Rattle.forms.specs.declared.Style.TheVariants.{Old}
use Rattle.forms.proofs.Texts.{sheet_measured}
use Rattle.joining.specs.Merge.{merged}
use Rattle.joining.proofs.Accepts.{component_fields, connection_fields}
use Rattle.join.proofs.text.joined_length.Goals as goal

pub united_length-components-requires-clause-fields_below : goal.united_length-components-requires-clause-fields_below
united_length-components-requires-clause-fields_below c = component_fields

pub united_length-connections-requires-clause-fields_below : goal.united_length-connections-requires-clause-fields_below
united_length-connections-requires-clause-fields_below c = connection_fields

pub returns : goal.returns
returns c =
    let p = c.args.first in
    let q = c.args.second in
    sheet_measured Old c.args.rules
    (merged component_order component_width p.components.now q.components.now)
    (merged connection_order connection_width p.connections.now q.connections.now)
    (p.frontiers.now ++ q.frontiers.now)
    c.head_length-a.ensures
    c.united_length-components.ensures
    c.saturating_add-b.ensures
    c.united_length-connections.ensures
    c.saturating_add-c.ensures
    c.frontiers_length.ensures
    c.saturating_add.ensures
