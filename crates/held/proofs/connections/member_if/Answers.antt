-- Answers for the goals that the search leaves.
use mathlib.Core.Path.{sym, ap, ◌∙◌}
use Rattle.std.specs.Prelude.{Some}
use Rattle.held.proofs.connections.member_if.Goals as goal

pub returns-then-stands_at-clause-member : goal.returns-then-stands_at-clause-member
returns-then-stands_at-clause-member c cs t =
    let m = c.member_near-m.ensures cs t in
    let yes = sym (c.stands_at.ensures.stands cs t m) ∙ c.if-stands_at.true in
    rw yes (ap Some m)

pub returns-else-stands_at-clause-member : goal.returns-else-stands_at-clause-member
returns-else-stands_at-clause-member c cs t =
    let no = sym (c.stands_at.ensures.stands cs t (c.member_near-m.ensures cs t)) ∙ c.if-stands_at.false in
    rw no
