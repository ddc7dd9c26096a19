-- `assessment::sources::flag_first` meets its contract.
-- Assumes nothing.
use mathlib.Core.Path.{sym, ◌∙◌}
use native.Mathlib.Nat.{lt_of_lt_of_le}
use Rattle.assessment.proofs.Frontiers.{first_below}
use Rattle.assessment.proofs.sources.flag_first.Goals as goal

pub bounds-flags-p : goal.bounds-flags-p
bounds-flags-p c =
    lt_of_lt_of_le (first_below c.args.components.now _ _ (sym c.first_at.ensures ∙ c.in-Some.is)) c.requires.components_in_bounds
