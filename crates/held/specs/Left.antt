-- Which plots an opening and clicks can leave (document 02, R-12, number 18).
--     Click, checks_of, left_by       a click, what refuses it, and the plot that it leaves
--     run                           clicks one after the other, each on the plot that the one before left
--     Leavable                      an opening and clicks leave the plot. A plot that is not leavable is refused with 18.
--     valid                         the test that decides it
--     answer_of, held_after           a click on a plot that is handed in: 18 before all else
-- Assumes nothing: these are definitions.
use Rattle.std.specs.Prelude.{⊤, None, Result, Ok, Err}
use Rattle.lists.specs.declared.Fault.{Fault}
use Rattle.lists.specs.declared.Refusal.{Refusal}
use Rattle.std.specs.Prelude.{ℕ, ◌≡◌, Bool, true, false, not, ◌&&◌, ◌||◌, List, [], ◌∷◌, length, eqb, leb, ltb, ℤ}
use Rattle.tables.specs.Order.{member}
use Rattle.lists.specs.Limits.{component_limit, connection_limit}
use Rattle.lists.specs.First.{all_from}
use Rattle.checks.specs.Refusals.{refuse, ◌or_else◌}
use Rattle.held.specs.Tests.{every, distinct, same_numbers}
use Rattle.held.specs.Plot.{Record, Place, free, taken, Plot, at, blocks, id_of, fault_at, block_fits, connection_fits, ends_present, opening, opened, placing, placed, breaking, broken, connecting, connected}

-- ---- clicks

pub data Click : Type 0 where
  place : Record → Click
  break : ℕ → Click
  connect : Record → Click

-- what refuses a click, 18 aside
abbrev pub checks_of : Plot → Click → Result ⊤ Refusal
checks_of plot (place block) = placing plot block
checks_of plot (break id) = breaking plot id
checks_of plot (connect connection) = connecting plot connection

-- the plot that an accepted click leaves
abbrev pub effect_of : Plot → Click → Plot
effect_of plot (place block) = placed plot block
effect_of plot (break id) = broken plot id
effect_of plot (connect connection) = connected plot connection

-- "A refused click changes nothing."
abbrev pub left_if : Result ⊤ Refusal → Plot → Plot → Plot
left_if (Ok tt) changed plot = changed
left_if (Err refusal) changed plot = plot

abbrev pub left_by : Plot → Click → Plot
left_by plot click = left_if (checks_of plot click) (effect_of plot click) plot

-- "each click on the plot the one before left"
unfoldable pub run : Plot → List Click → Plot
run plot [] = plot
run plot (click ∷ clicks) = run (left_by plot click) clicks

-- ---- number 18

-- some opening and clicks leave the plot
pub record Leavable (plot : Plot) : Type 0 where
  pub rules : ℕ
  pub frontiers : List ℤ
  pub clicks : List Click
  pub accepted : opening rules frontiers true ≡ Ok tt
  pub leaves : run (opened rules frontiers) clicks ≡ plot

-- ---- the test

abbrev pub is_accepted : Result ⊤ Refusal → Bool
is_accepted (Ok tt) = true
is_accepted (Err refusal) = false

abbrev pub is_free : Place → Bool
is_free free = true
is_free (taken block) = false

-- two components have one id
abbrev pub same_id : Record → Record → Bool
same_id a b = eqb (id_of a) (id_of b)

-- at most as many places as the limit; components in range, no id twice
unfoldable pub valid_places : List Place → Bool
valid_places places = leb (length places) component_limit && (every block_fits (blocks places) && distinct same_id (blocks places))

-- a freed place was used and is free
abbrev pub was_freed : List Place → ℕ → Bool
was_freed places k = ltb k (length places) && is_free (at places k)

-- the freed places are the free ones among those used, each once
unfoldable pub valid_freed : List Place → List ℕ → Bool
valid_freed places freed =
    distinct eqb freed
    && (every (was_freed places) freed && all_from (λ k. not (is_free (at places k)) || member k freed) 0 (length places))

-- at most as many connections as the limit, in range, none twice, both ends present
unfoldable pub valid_connections : List Place → List Record → Bool
valid_connections places connections =
    leb (length connections) connection_limit
    && (every connection_fits connections && (distinct same_numbers connections && every (ends_present places) connections))

unfoldable pub valid : Plot → Bool
valid plot =
    is_accepted (opening plot.rules plot.frontiers true)
    && (valid_places plot.places && (valid_freed plot.places plot.freed && valid_connections plot.places plot.connections))

-- ---- a click on a plot that is handed in

-- 18, a plot that no opening and clicks can leave, comes before all else
unfoldable pub answer_of : Plot → Click → Result ⊤ Refusal
answer_of plot click = refuse Fault.StrangePlot None (fault_at 0 (not (valid plot))) or_else checks_of plot click

-- the plot that stands there afterwards
abbrev pub held_after : Plot → Click → Plot
held_after plot click = left_if (answer_of plot click) (effect_of plot click) plot
