-- `capi::alive::of_bytes` meets its contract: lists that are whole and within their limits have room in the local arrays, and are read
-- whole. Assumes nothing.
use mathlib.Core.Path.{sym, ap, ◌∙◌}
use native.Mathlib.Omega.{arith}
use lib.ListN.{length}
use Rattle.encoding.proofs.Reading.{length_numbers}
use Rattle.encoding.proofs.Answers.{numbers_front}
use Rattle.capi.proofs.LivenessLaws.{whole_three, decoded_alive}
use Rattle.capi.proofs.alive.of_bytes.Goals as goal

pub decode-requires : goal.decode-requires
decode-requires c = (whole_three c.args.rules c.args.components.now c.args.ports.now c.args.frontiers.now c.requires).components_few

pub decode-requires-2 : goal.decode-requires-2
decode-requires-2 c = (whole_three c.args.rules c.args.components.now c.args.ports.now c.args.frontiers.now c.requires).frontiers_few

pub slice_bounds-component_numbers-end : goal.slice_bounds-component_numbers-end
slice_bounds-component_numbers-end c = omega (arith, (whole_three c.args.rules c.args.components.now c.args.ports.now c.args.frontiers.now c.requires).components_few, c.decode.auto.out)

pub slice_bounds-lists-end : goal.slice_bounds-lists-end
slice_bounds-lists-end c = sym (ap length (numbers_front _ _ _ c.decode.ensures) ∙ length_numbers _ _)

pub slice_bounds-frontier_numbers-end : goal.slice_bounds-frontier_numbers-end
slice_bounds-frontier_numbers-end c = omega (arith, (whole_three c.args.rules c.args.components.now c.args.ports.now c.args.frontiers.now c.requires).frontiers_few, c.decode-2.auto.out)

pub slice_bounds-lists-end-3 : goal.slice_bounds-lists-end-3
slice_bounds-lists-end-3 c = sym (ap length (numbers_front _ _ _ c.decode-2.ensures) ∙ length_numbers _ _)

pub returns-then-ports-le-FEW_PORT_NUMBERS : goal.returns-then-ports-le-FEW_PORT_NUMBERS
returns-then-ports-le-FEW_PORT_NUMBERS c = decoded_alive c.args.rules c.args.components.now c.args.ports.now c.args.frontiers.now _ _ _ _ _ _ _ _ _ _ _ _ _ (numbers_front _ _ _ c.decode.ensures) (numbers_front _ _ _ c.decode-2.ensures)
    c.requires c.with_ports.ensures

pub with_ports-requires-2 : goal.with_ports-requires-2
with_ports-requires-2 c = ((whole_three c.args.rules c.args.components.now c.args.ports.now c.args.frontiers.now c.requires).ports_few, omega arith)

pub returns : goal.returns
returns c = decoded_alive c.args.rules c.args.components.now c.args.ports.now c.args.frontiers.now _ _ _ _ _ _ _ _ _ _ _ _ _ (numbers_front _ _ _ c.decode.ensures) (numbers_front _ _ _ c.decode-2.ensures)
    c.requires c.with_ports-2.ensures
