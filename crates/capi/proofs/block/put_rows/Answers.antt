-- `capi::block::put_rows` meets its contract.
-- Assumes nothing.
use borrow.Author.Rules.{rules}
use mathlib.Core.Path.{◌≡◌, sym, ap, ◌∙◌}
use mathlib.Core.List.{map}
use native.Mathlib.Omega.{arith}
use lib.ListN.{length, length-map, get_or-map}
use Rattle.std.specs.Prelude.{None}
use Rattle.faces.specs.Codes.{numbers_at}
use Rattle.capi.specs.BlockPorts.{place_row}
use Rattle.capi.proofs.BlockLaws.{none_rowed, one_rowed, all_rowed}
use Rattle.capi.proofs.block.put_rows.Goals as goal

pub loop-i-init : goal.loop-i-init
loop-i-init c = none_rowed _ _

pub loop-i-preserved : goal.loop-i-preserved
loop-i-preserved c =
    one_rowed (map numbers_at c.args.ports) _ _ _ c.loop-i.i _ (omega arith) c.loop-i.invariant
    (c.copy_from_slice.ensures.after ∙ c.row_of.ensures ∙ ap place_row (sym (get_or-map numbers_at c.args.ports c.loop-i.i None)))

pub returns : goal.returns
returns c =
    let long : length c.args.ports ≡ 7 = search rules in
    all_rowed (map numbers_at c.args.ports) _ _ c.loop-i.i
    (omega (arith, length-map c.args.ports numbers_at, c.loop-i.auto.i-end)) c.loop-i.invariant
