-- `capi::block::put_block` meets its contract: the codes of the block say its ports, and the places hold these.
-- Assumes nothing.
use mathlib.Core.Path.{ap, ◌∙◌}
use mathlib.Core.List.{List}
use Prim.Native.Nat.{ℕ}
use Rattle.std.specs.Prelude.{Option}
use Rattle.std.specs.List.{flat_map}
use Rattle.lists.specs.Records.{component}
use Rattle.lists.specs.Slices.{laid}
use Rattle.faces.specs.Ports.{Port, ports_of}
use Rattle.capi.specs.BlockPorts.{place_row}
use Rattle.capi.proofs.BlockLaws.{rows_back}
use Rattle.capi.proofs.block.put_block.Goals as goal

pub returns-clause-rows : goal.returns-clause-rows
returns-clause-rows c =
    let ports = ports_of c.args.rules (component c.args.block.numbers.now 0) in
    let places = rw (c.kind-kind.ensures, c.facing-facing.ensures, c.support-support.ensures, c.conducts-conducts.ensures) at c.ports_for.ensures in
    c.put_rows.ensures
    ∙ ap (λ (l : List (Option Port)). laid (flat_map place_row l) c.args.out.now) places
    ∙ ap (λ (l : List ℕ). laid l c.args.out.now) (rows_back ports)
