-- `faces::ports::ports_for` meets its contract: the blank ports where the component is unread, else those by its facing.
-- Assumes nothing.
use mathlib.Core.Path.{sym, ◌∙◌}
use Rattle.faces.proofs.Unread.{blank_for, facing_for}
use Rattle.faces.proofs.ports.ports_for.Goals as goal

pub returns-then-is_unread : goal.returns-then-is_unread
returns-then-is_unread c =
    let a = c.args in
    rw (blank_for a.rules a.kind a.facing a.support a.conducts (sym c.is_unread.ensures ∙ c.if-is_unread.true)) c.blank_ports.ensures

pub returns : goal.returns
returns c =
    let a = c.args in
    rw (facing_for a.rules a.kind a.facing a.support a.conducts (sym c.is_unread.ensures ∙ c.if-is_unread.false)) c.ports_by_facing.ensures
