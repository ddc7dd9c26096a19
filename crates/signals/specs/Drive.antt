-- `drive` means reached from a drive source, `potential` from a drive source or inferred input; each includes its sources (document 01,
-- "liveness.rs"). A list of flags, one to a member.
-- Assumes nothing: these are definitions.
use Rattle.std.specs.Prelude.{ℕ, Bool, ◌&&◌, ◌||◌, List, eqb, ℤ}
use Rattle.lists.specs.Records.{component_count}
use Rattle.lists.specs.First.{some, tabulate}
use Rattle.lists.specs.Ids.{member_of}
use Rattle.regions.specs.Kosaraju.{reached}
use Rattle.signals.specs.Signals.{signals}
use Rattle.signals.specs.Sources.{is_drive}
use Rattle.signals.specs.Regions.{is_inferred}

-- the members that stand for the components of which P holds
unfoldable pub members_where : List ℤ → (ℕ → Bool) → List Bool
members_where cs P = tabulate (λ m. some (λ p. P p && eqb (member_of cs p) m) (component_count cs)) (component_count cs)

unfoldable pub drive : List ℤ → List ℤ → List ℤ → List Bool
drive cs ps fs = reached (component_count cs) (signals cs ps) (members_where cs (is_drive cs fs))

unfoldable pub potential : ℕ → List ℤ → List ℤ → List ℤ → List Bool
potential rules cs ps fs = reached (component_count cs) (signals cs ps) (members_where cs (λ p. is_drive cs fs p || is_inferred rules cs ps fs p))
