-- The lists behind the head.
use mathlib.Core.Path.{sym, subst}
use Rattle.std.proofs.lemmas.Result.{err_from_is_err_and}
use Rattle.forms.specs.Sheet.{Parsed}
use Rattle.forms.specs.Places.{OutlinedAs}
use Rattle.forms.proofs.Chain.{by_head, head_fault}
use Rattle.forms.proofs.sheet.check_sheet.Goals as goal

pub returns-in_err-head : goal.returns-in_err-head
returns-in_err-head c =
    let l = c.args.limits in
    let p = err_from_is_err_and c.from_residual.result c.from_residual.ensures.1 in
    rw (p.1, p.2) (head_fault c.args.most l.components l.connections l.frontiers c.args.text.now c.in_err-head.ensures)

pub returns : goal.returns
returns c =
    let l = c.args.limits in
    let e = by_head c.args.most l.components l.connections l.frontiers c.args.text.now c.in_ok-head.ensures.2 in
    subst (λ (q : Parsed). OutlinedAs c.args.text.now q c.find_lists.result) (sym e) c.find_lists.ensures
