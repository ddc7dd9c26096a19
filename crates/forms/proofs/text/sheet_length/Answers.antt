-- The head and the lists, measured one after the other.
use Rattle.forms.proofs.Texts.{sheet_measured}
use Rattle.forms.proofs.text.sheet_length.Goals as goal

pub returns : goal.returns
returns c =
    let a = c.args in
    sheet_measured a.style a.rules a.components.now a.connections.now a.frontiers.now
    c.head_length-a.ensures
    c.list_length.ensures
    c.saturating_add-b.ensures
    c.list_length-2.ensures
    c.saturating_add-c.ensures
    c.list_length-3.ensures
    c.saturating_add.ensures
