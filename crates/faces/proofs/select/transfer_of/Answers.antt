-- `faces::select::transfer_of` meets its contract.
-- Assumes nothing.
use mathlib.Core.Path.{sym}
use mathlib.Core.List.{[], ◌∷◌}
use lib.ListN.{get_or-eq_default}
use Rattle.faces.specs.Select.{transfer_of}
use Rattle.faces.proofs.select.transfer_of.Goals as goal

pub returns-in-Err : goal.returns-in-Err
unfolding transfer_of
returns-in-Err c = sym (get_or-eq_default (0 ∷ 0 ∷ 0 ∷ 2 ∷ 3 ∷ 4 ∷ 4 ∷ 1 ∷ 5 ∷ 6 ∷ []) 0 {n = c.args.kind} c.in-Err.ensures.1)
