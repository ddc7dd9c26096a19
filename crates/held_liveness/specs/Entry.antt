-- The liveness report of a held plot (document 02, R-12: "A liveness report on the held plot equals the one on a fresh scene of the same
-- components, sorted, the same connections, the same frontiers and the same rules number"): what it answers, and what it leaves in the
-- slices that it was lent.
--     held_refusal     18, then 2; there is no other
--     HeldReported     the contract
--     HeldIsFresh      what is proved of it (proofs/FreshLaws.antt): the liveness entry's own contract, on the lists of the fresh scene
-- Assumes nothing: these are definitions.
use Rattle.std.specs.Prelude.{⊤, None, Result, Ok, IfOk}
use Rattle.std.specs.Prelude.{ℕ, ◌≡◌, Bool, not, ◌&&◌, ◌||◌, List, length, ℤ}
use Rattle.lists.specs.declared.Fault.{Fault}
use Rattle.lists.specs.declared.Refusal.{Refusal}
use Rattle.sets.specs.Members.{member_of}
use Rattle.lists.specs.Limits.{component_width}
use Rattle.lists.specs.Ids as Ids
use Rattle.lists.specs.Slices.{left_of}
use Rattle.checks.specs.Refusals.{refuse, ◌or_else◌, room_for, room_for_rows, too_short}
use Rattle.signals.specs.Sources.{is_drive}
use Rattle.signals.specs.Regions.{is_inferred}
use Rattle.liveness.specs.Demand.{RegionsOfScene}
use Rattle.liveness.specs.Meaning.{FedFrom}
use Rattle.liveness.specs.Entry.{AnalyzedBy, Analyzed}
use Rattle.liveness.specs.declared.Analysis.{Analysis}
use Rattle.held.specs.Plot.{fault_at, present}
use Rattle.held.specs.Lent.{Lent, plot_in, lent_valid}
use Rattle.held.specs.Scene.{scene_components, scene_ports}

-- eight numbers for each component present, and what the liveness entry lends for as many
abbrev pub held_room : ℕ → ℕ → ℕ → ℕ → ℕ → ℕ → Bool
held_room count components regions sources inputs stack = room_for count component_width components && room_for_rows count regions sources inputs stack

-- 18: no opening and clicks can leave the plot; then 2: a lent slice is too short
unfoldable pub held_refusal : Lent → Bool → Result ⊤ Refusal
held_refusal lent enough =
    refuse Fault.StrangePlot None (fault_at 0 (not (lent_valid lent)))
    or_else refuse Fault.ShortSlice None (too_short enough)

-- from a held plot, a slice for its components and four lent slices; of an accepted call
abbrev pub refusal_of : Lent → List ℤ → List ℕ → List ℕ → List ℕ → List ℕ → Result ⊤ Refusal
refusal_of lent components regions sources inputs stack =
    held_refusal lent
    (held_room (present (plot_in lent).places) (length components) (length regions) (length sources) (length inputs) (length stack))

pub record HeldReported (lent : Lent) (components components' : List ℤ) (regions regions' sources sources' inputs inputs' stack stack' : List ℕ) (r : Result Analysis Refusal) : Type 0 where
  pub by : AnalyzedBy (refusal_of lent components regions sources inputs stack)
      (plot_in lent).rules (scene_components (plot_in lent)) (scene_ports (plot_in lent)) (plot_in lent).frontiers
      regions regions' sources sources' inputs inputs' stack stack' r
  -- the components of the fresh scene, sorted
  pub components_left : components' ≡ left_of (refusal_of lent components regions sources inputs stack) (scene_components (plot_in lent)) components
  -- demand 3, on the answer itself
  pub demand : IfOk r (λ a. RegionsOfScene (scene_components (plot_in lent)) (scene_ports (plot_in lent)) regions' a.regions)
  -- driven: some drive source has a chain to it
  pub driven : IfOk r (λ a. FedFrom (scene_components (plot_in lent)) (scene_ports (plot_in lent))
      (is_drive (scene_components (plot_in lent)) (plot_in lent).frontiers)
      (λ p. member_of a.drive.words (Ids.member_of (scene_components (plot_in lent)) p)))
  -- the same of what may be: some drive source or inferred input has
  pub possible : IfOk r (λ a. FedFrom (scene_components (plot_in lent)) (scene_ports (plot_in lent))
      (λ q. is_drive (scene_components (plot_in lent)) (plot_in lent).frontiers q
      || is_inferred (plot_in lent).rules (scene_components (plot_in lent)) (scene_ports (plot_in lent)) (plot_in lent).frontiers q)
      (λ p. member_of a.potential.words (Ids.member_of (scene_components (plot_in lent)) p)))

-- where the report is accepted, its answer and its slices are those of the liveness entry on the lists of the fresh scene
abbrev pub HeldIsFresh : Lent → List ℤ → List ℤ → List ℕ → List ℕ → List ℕ → List ℕ → List ℕ → List ℕ → List ℕ → List ℕ → Result Analysis Refusal → Type 0
HeldIsFresh lent components components' regions regions' sources sources' inputs inputs' stack stack' r =
    refusal_of lent components regions sources inputs stack ≡ Ok tt
    → HeldReported lent components components' regions regions' sources sources' inputs inputs' stack stack' r
    → Analyzed (plot_in lent).rules (scene_components (plot_in lent)) (scene_ports (plot_in lent)) (plot_in lent).frontiers
    regions regions' sources sources' inputs inputs' stack stack' r
