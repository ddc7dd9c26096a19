-- `lists::ids::found_at` meets its contract: a lower bound of the id leads to its place.
-- Assumes nothing.
use native.Mathlib.Omega.{arith}
use Rattle.lists.proofs.Table.{place_none}
use Rattle.lists.proofs.ids.found_at.Goals as goal

pub returns-in_err-key : goal.returns-in_err-key
returns-in_err-key c cs t =
    let past = c.in_err-key.ensures.lookup.3 in
    rw c.from_residual.ensures (place_none cs t _ c.requires.1 (λ h. absurd (omega arith)))
