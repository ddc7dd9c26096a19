-- `encoding::groups::of_bytes` meets its contract: lists that are whole and within their limits have room in the local arrays, and are read
-- whole. Assumes nothing.
use mathlib.Core.Path.{sym, ap, ◌∙◌}
use native.Mathlib.Omega.{arith}
use lib.ListN.{length}
use Rattle.encoding.proofs.Reading.{length_numbers}
use Rattle.encoding.proofs.Answers.{whole_lists, decoded_laid, numbers_front}
use Rattle.encoding.proofs.groups.of_bytes.Goals as goal

pub decode-requires : goal.decode-requires
decode-requires c = (whole_lists c.args.rules c.args.components.now c.args.connections.now c.requires).components_few

pub decode-requires-2 : goal.decode-requires-2
decode-requires-2 c = (whole_lists c.args.rules c.args.components.now c.args.connections.now c.requires).connections_few

pub slice_bounds-component_numbers-end : goal.slice_bounds-component_numbers-end
slice_bounds-component_numbers-end c = omega (arith, (whole_lists c.args.rules c.args.components.now c.args.connections.now c.requires).components_few, c.decode.auto.out)

pub slice_bounds-of_numbers-end : goal.slice_bounds-of_numbers-end
slice_bounds-of_numbers-end c = sym (ap length (numbers_front _ _ _ c.decode.ensures) ∙ length_numbers _ _)

pub slice_bounds-connection_numbers-end : goal.slice_bounds-connection_numbers-end
slice_bounds-connection_numbers-end c = omega (arith, (whole_lists c.args.rules c.args.components.now c.args.connections.now c.requires).connections_few, c.decode-2.auto.out)

pub slice_bounds-of_numbers-end-2 : goal.slice_bounds-of_numbers-end-2
slice_bounds-of_numbers-end-2 c = sym (ap length (numbers_front _ _ _ c.decode-2.ensures) ∙ length_numbers _ _)

pub returns : goal.returns
returns c =
    decoded_laid _ _ _ _ _ _ _ _ _ _ (numbers_front _ _ _ c.decode.ensures) (numbers_front _ _ _ c.decode-2.ensures) c.requires
    c.of_numbers.ensures
