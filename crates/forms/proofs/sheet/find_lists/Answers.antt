-- The three lists one after the other, each where the one before ended.
use native.Mathlib.Omega.{arith}
use mathlib.Core.Path.{◌∙◌}
use lib.ListN.{drop}
use Rattle.std.proofs.lemmas.Result.{err_from_is_err_and}
use Rattle.lists.specs.Limits.{component_limit, connection_limit}
use Rattle.lists.specs.declared.Section.TheVariants.{Components, Connections}
use Rattle.forms.proofs.Finding.{few_lines, few_in_all}
use Rattle.forms.proofs.Chain.{first_fault, second_fault, third_fault, all_lists, nothing_behind, something_behind}
use Rattle.forms.proofs.sheet.find_lists.Goals as goal

pub find_list-requires-2-clause-few_lines : goal.find_list-requires-2-clause-few_lines
find_list-requires-2-clause-few_lines c =
    let f = rw c.cut-most.ensures at c.in_ok-components.ensures in
    let most = few_in_all _ _ component_limit _ f.2 (omega arith) (few_lines c.args.head.style Components) in
    omega (arith, f.3, most, c.requires.first_lines)

pub find_list-requires-3-clause-few_lines : goal.find_list-requires-3-clause-few_lines
find_list-requires-3-clause-few_lines c =
    let f = rw c.cut-most.ensures at c.in_ok-components.ensures in
    let g = rw c.cut-most.ensures at c.in_ok-connections.ensures in
    let most = few_in_all _ _ component_limit _ f.2 (omega arith) (few_lines c.args.head.style Components) in
    let more = few_in_all _ _ connection_limit _ g.2 (omega arith) (few_lines c.args.head.style Connections) in
    omega (arith, f.3, most, g.3, more, c.requires.first_lines)

pub returns-in_err-components : goal.returns-in_err-components
returns-in_err-components c =
    let a = c.args in
    let l = a.limits in
    let p = err_from_is_err_and c.from_residual.result c.from_residual.ensures.1 in
    let e = rw c.cut-most.ensures at c.in_err-components.ensures in
    rw (p.1, p.2) (first_fault l.components l.connections l.frontiers a.head.style a.head.rules (drop a.head.at a.text.now) a.head.line e)

pub returns-in_err-connections : goal.returns-in_err-connections
returns-in_err-connections c =
    let a = c.args in
    let l = a.limits in
    let p = err_from_is_err_and c.from_residual-in_err-connections.result c.from_residual-in_err-connections.ensures.1 in
    let f = rw c.cut-most.ensures at c.in_ok-components.ensures in
    let e = rw c.cut-most.ensures at c.in_err-connections.ensures in
    rw (p.1, p.2) (second_fault l.components l.connections l.frontiers a.head.style a.head.rules (drop a.head.at a.text.now) a.head.line f.4 e)

pub returns-in_err-frontiers : goal.returns-in_err-frontiers
returns-in_err-frontiers c =
    let a = c.args in
    let l = a.limits in
    let p = err_from_is_err_and c.from_residual-in_err-frontiers.result c.from_residual-in_err-frontiers.ensures.1 in
    let f = rw c.cut-most.ensures at c.in_ok-components.ensures in
    let g = rw c.cut-most.ensures at c.in_ok-connections.ensures in
    let e = rw c.cut-most.ensures at c.in_err-frontiers.ensures in
    rw (p.1, p.2) (third_fault l.components l.connections l.frontiers a.head.style a.head.rules (drop a.head.at a.text.now) a.head.line f.4 g.4 e)

pub returns-then-frontiers-text : goal.returns-then-frontiers-text
returns-then-frontiers-text c =
    let a = c.args in
    let l = a.limits in
    let f = rw c.cut-most.ensures at c.in_ok-components.ensures in
    let g = rw c.cut-most.ensures at c.in_ok-connections.ensures in
    let h = rw c.cut-most.ensures at c.in_ok-frontiers.ensures in
    rw c.bad_line.ensures
    (all_lists l.components l.connections l.frontiers a.head.style a.head.rules (drop a.head.at a.text.now) a.head.line f.4 g.4 h.4
    ∙ something_behind _ _ _ _ _ a.text.now _ _ c.if-frontiers-text.true)

pub returns : goal.returns
returns c =
    let a = c.args in
    let l = a.limits in
    let f = rw c.cut-most.ensures at c.in_ok-components.ensures in
    let g = rw c.cut-most.ensures at c.in_ok-connections.ensures in
    let h = rw c.cut-most.ensures at c.in_ok-frontiers.ensures in (
      f.0,
      g.0,
      h.0,
      record { of_components = f.1; of_connections = g.1; of_frontiers = h.1 },
      all_lists l.components l.connections l.frontiers a.head.style a.head.rules (drop a.head.at a.text.now) a.head.line f.4 g.4 h.4
          ∙ nothing_behind _ _ _ _ _ a.text.now _ _ c.if-frontiers-text.false,
    )
