-- `graph::walk::regions` meets its contract: the nodes as the walk forward finished them are the order that the walk back asks for. Assumes
-- nothing.
use mathlib.Core.Path.{sym, ap, ◌∙◌}
use Prim.Native.Nat.{ℕ}
use native.Mathlib.Omega.{arith}
use Rattle.std.proofs.Common.{rules}
use lib.ListN.{take}
use Rattle.graph.proofs.Label.{order_backward, regions_forward}
use Rattle.graph.proofs.walk.regions.Goals as goal

pub label_all-requires : goal.label_all-requires
label_all-requires c =
    let turned = c.requires.turned in
    let long = c.requires.nodes.1 in
    let order = c.finish_order.new.order in (
      order_backward turned (ap (λ (k : ℕ). take k order) long ∙ c.finish_order.ensures.order_is),
      long ∙ sym turned.rows.nodes,
      record {
        nodes = omega arith;
        visited_length = search rules;
        order_room = omega arith;
        stack_room = omega arith;
        stack_zeros = c.finish_order.ensures.stack_zeros;
      },
    )

pub returns : goal.returns
returns c = regions_forward c.requires.turned c.label_all.ensures
