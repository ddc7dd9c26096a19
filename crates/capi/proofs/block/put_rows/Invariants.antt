-- `capi::block::put_rows` meets its contract: the rows of the places passed are laid.
-- Assumes nothing.
use mathlib.Core.List.{map}
use Rattle.faces.specs.Codes.{numbers_at}
use Rattle.capi.proofs.BlockLaws.{Rowed}
use Rattle.capi.proofs.block.put_rows.Given as goal

abbrev pub invariant-loop-i : goal.invariant-loop-i
invariant-loop-i l = Rowed (map numbers_at l.ports) l.initial.out l.out l.i
