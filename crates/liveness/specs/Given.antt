-- A plot that the checks accepted is made of the lists as they were given, to be marked by the rules that were given.
-- Assumes nothing: these are definitions.
use Rattle.std.specs.Prelude.{ℕ, ◌≡◌, Bool, true, List, ℤ}
use Rattle.liveness.specs.declared.plot.Plot.{Plot}

-- and the slices lent for the work are long enough, else it was refused
pub record Given (rules : ℕ) (cs ps fs : List ℤ) (enough : Bool) (plot : Plot) : Type 0 where
  pub rules_are : plot.rules ≡ rules
  pub components_are : plot.components.now ≡ cs
  pub ports_are : plot.ports.now ≡ ps
  pub frontiers_are : plot.frontiers.now ≡ fs
  pub room : enough ≡ true
