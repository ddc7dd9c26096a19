-- A plot held open, for a host that calls through the C convention (document 02, R-12), by the definitions of the entries of crates held
-- and held_liveness. The plot is lent as four slices of numbers.
--     OpenedByLists, PlacedByLists, BrokenByLists, ConnectedByLists      what the clicks answer and leave
--     HeldByLists                                                        what `dustroute_held_liveness` answers and leaves
-- Assumes nothing: these are definitions.
use Rattle.std.specs.Prelude.{⊤, Result, Ok, Err, ℕ, ◌+◌, ◌*◌, ◌/◌, ◌%◌, ◌≡◌, ◌&&◌, List, length, ℤ}
use Rattle.lists.specs.declared.Refusal.{Refusal}
use Rattle.sets.specs.Members.{word_count}
use Rattle.lists.specs.Slices.{left_of, work_of}
use Rattle.checks.specs.Refusals.{room_for, packed}
use Rattle.signals.specs.Regions.{region_count, regions_of}
use Rattle.assessment.specs.Verdicts.{source_rows, input_rows}
use Rattle.liveness.specs.Demand.{RegionsOfScene}
use Rattle.held.specs.Plot.{Record, Plot, present, seat, opening, opened}
use Rattle.held.specs.Left.{Click, place, break, connect}
use Rattle.held.specs.Lent.{Lent, plot_in, has_room, layout, lent_if, lent_answer, lent_after}
use Rattle.held.specs.Entries.{with_place}
use Rattle.held.specs.Scene.{scene_components, scene_ports}
use Rattle.held_liveness.specs.Entry.{held_room, held_refusal}
use Rattle.capi.specs.Liveness.{set_count, liveness_number, sets_of}

-- ---- clicks

-- a refusal's number, list and item, or 0 in the sixteen lowest bits and then the place
abbrev pub place_number : Result ℕ Refusal → ℕ
place_number (Ok k) = 65536 * k
place_number (Err refusal) = packed (Err refusal)

-- the same with how many components are present and how many connections are held, thirty-two bits in all
abbrev pub plot_number : Result ⊤ Refusal → Plot → ℕ
plot_number (Ok tt) plot = 65536 * present plot.places + 4294967296 * length plot.connections
plot_number (Err refusal) plot = packed (Err refusal)

-- an opening leaves none of either
pub record OpenedByLists (lent after : Lent) (rules : ℕ) (given : List ℤ) (r : ℕ) : Type 0 where
  pub answer : r ≡ packed (opening rules given (has_room lent))
  pub left : after ≡ lent_if (opening rules given (has_room lent)) (layout lent (opened rules given)) lent

pub record PlacedByLists (lent after : Lent) (numbers : Record) (r : ℕ) : Type 0 where
  pub answer : r ≡ place_number (with_place (lent_answer lent (place numbers)) (seat (plot_in lent)))
  pub left : after ≡ lent_after lent (place numbers)

-- the counts are those of the plot that is left
pub record LeftByLists (lent after : Lent) (click : Click) (r : ℕ) : Type 0 where
  pub answer : r ≡ plot_number (lent_answer lent click) (plot_in after)
  pub left : after ≡ lent_after lent click

abbrev pub BrokenByLists : Lent → Lent → ℕ → ℕ → Type 0
BrokenByLists lent after id r = LeftByLists lent after (break id) r

abbrev pub ConnectedByLists : Lent → Lent → Record → ℕ → Type 0
ConnectedByLists lent after numbers r = LeftByLists lent after (connect numbers) r

-- ---- the report

-- 18, then 2 for the sets too
abbrev pub held_lists_refusal : Lent → List ℤ → List ℕ → List ℕ → List ℕ → List ℕ → List ℕ → Result ⊤ Refusal
held_lists_refusal lent components regions sources inputs sets stack =
    held_refusal lent
    (room_for set_count word_count (length sets)
    && held_room (present (plot_in lent).places) (length components) (length regions) (length sources) (length inputs) (length stack))

-- by that refusal, of the lists of the fresh scene
pub record HeldLaid (refusal : Result ⊤ Refusal) (rules : ℕ) (cs ps fs : List ℤ) (components components' : List ℤ)
    (regions regions' sources sources' inputs inputs' sets sets' stack stack' : List ℕ) (r : ℕ) : Type 0 where
  pub answer : r ≡ liveness_number refusal (region_count cs ps) (length (source_rows rules cs ps fs) / 2) (length (input_rows rules cs ps fs) / 3)
  pub components_left : components' ≡ left_of refusal cs components
  pub regions_left : regions' ≡ left_of refusal (regions_of cs ps) regions
  pub sources_left : sources' ≡ left_of refusal (source_rows rules cs ps fs) sources
  pub inputs_left : inputs' ≡ left_of refusal (input_rows rules cs ps fs) inputs
  pub sets_left : sets' ≡ left_of refusal (sets_of rules cs ps fs) sets
  pub stack_left : stack' ≡ work_of refusal stack

pub record HeldByLists (lent : Lent) (components components' : List ℤ)
    (regions regions' sources sources' inputs inputs' sets sets' stack stack' : List ℕ) (r : ℕ) : Type 0 where
  pub by : HeldLaid (held_lists_refusal lent components regions sources inputs sets stack)
      (plot_in lent).rules (scene_components (plot_in lent)) (scene_ports (plot_in lent)) (plot_in lent).frontiers
      components components' regions regions' sources sources' inputs inputs' sets sets' stack stack' r
  -- demand 3, on the numbers that are left and the count answered
  pub demand : held_lists_refusal lent components regions sources inputs sets stack ≡ Ok tt
      → RegionsOfScene (scene_components (plot_in lent)) (scene_ports (plot_in lent)) regions' (r / 65536 % 65536)
