-- A held plot in the slices that a caller lends.
--     Lent, lent_of           the four slices
--     layout                  a plot laid out in slices of these lengths, all zero behind what it holds
--     plot_in                  the plot that slices show
--     LentLeavable            slices that an opening and clicks can leave; the others are refused with 18
--     lent_valid               the test that decides it, in the parts in which it is made
--     lent_answer, lent_after   a click: the answer, and what stands in the slices afterwards
--     LentReached             the same by an opening and clicks on the slices themselves
--     LentDecides, LentKept, LentReaches   what is proved (proofs/LentLaws.antt, proofs/LentRuns.antt)
-- The slices are
--     state          rules, places used, places freed, connections held, frontiers; then the freed places, the one freed first in front
--     frontiers      three numbers each
--     places         eight numbers each: the block's record, or zeros at a free place
--     connections    five numbers each, in the order in which they were added
-- A slice may be longer than the limit asks; what is longer is zero too. A shorter one is 2 at an opening, and 18 at a click.
-- Assumes nothing: these are definitions.
use Rattle.std.specs.Prelude.{⊤, None, Result, Ok, Err}
use Rattle.lists.specs.declared.Fault.{Fault}
use Rattle.lists.specs.declared.Refusal.{Refusal}
use Rattle.std.specs.Prelude.{ℕ, ◌+◌, ◌*◌, ◌-◌, ◌/◌, ◌≤◌, ◌≡◌, Bool, true, not, cond, ◌&&◌, List, [], ◌∷◌, ◌++◌, map, reverse, ◌↔◌, length, get_or, take, drop, replicate, eqb, leb, ℤ, pos}
use Rattle.tables.specs.Order.{member}
use Rattle.lists.specs.Limits.{component_limit, connection_limit, frontier_limit, component_width, port_width, frontier_width}
use Rattle.lists.specs.Signed.{eq_z}
use Rattle.lists.specs.First.{tabulate}
use Rattle.checks.specs.Refusals.{refuse, ◌or_else◌}
use Rattle.held.specs.Tests.{every}
use Rattle.held.specs.Plot.{Record, Place, free, taken, Plot, fault_at, opening, opened}
use Rattle.held.specs.Left.{Click, checks_of, effect_of, Leavable, valid}

pub record Lent : Type 0 where
  pub state : List ℕ
  pub frontiers : List ℤ
  pub places : List ℤ
  pub connections : List ℤ

abbrev pub lent_of : List ℕ → List ℤ → List ℤ → List ℤ → Lent
lent_of state frontiers places connections = record { state = state; frontiers = frontiers; places = places; connections = connections }

-- ---- laid out

-- records one after the other
unfoldable pub flat : List Record → List ℤ
flat [] = []
flat (r ∷ rs) = r ++ flat rs

-- zeros behind, n numbers in all
abbrev pub padded : ℕ → List ℤ → List ℤ
padded n numbers = numbers ++ replicate (n - length numbers) (pos 0)

-- a free place is all zero
unfoldable pub blank : Record
blank = replicate component_width (pos 0)

abbrev pub slot_of : Place → Record
slot_of free = blank
slot_of (taken block) = block

-- the freed places stand behind these
abbrev pub counts_width : ℕ
counts_width = 5

abbrev pub counts_of : Plot → List ℕ
counts_of plot =
    plot.rules ∷ length plot.places ∷ length plot.freed ∷ length plot.connections ∷ length plot.frontiers / frontier_width ∷ reverse plot.freed

unfoldable pub laid_state : ℕ → Plot → List ℕ
laid_state n plot = counts_of plot ++ replicate (n - length (counts_of plot)) 0

unfoldable pub laid_frontiers : ℕ → Plot → List ℤ
laid_frontiers n plot = padded n plot.frontiers

unfoldable pub laid_places : ℕ → Plot → List ℤ
laid_places n plot = padded n (flat (map slot_of plot.places))

unfoldable pub laid_connections : ℕ → Plot → List ℤ
laid_connections n plot = padded n (flat plot.connections)

-- in slices of the same lengths
abbrev pub layout : Lent → Plot → Lent
layout lent plot = record {
  state = laid_state (length lent.state) plot;
  frontiers = laid_frontiers (length lent.frontiers) plot;
  places = laid_places (length lent.places) plot;
  connections = laid_connections (length lent.connections) plot;
}

-- ---- what slices show

-- record k of a width
abbrev pub record_at : ℕ → List ℤ → ℕ → Record
record_at width list k = take width (drop (k * width) list)

-- the number at a place of the state, 0 past its end
abbrev pub counter : List ℕ → ℕ → ℕ
counter state k = get_or state k 0

abbrev pub used_in : List ℕ → ℕ
used_in state = counter state 1

abbrev pub freed_count_in : List ℕ → ℕ
freed_count_in state = counter state 2

abbrev pub held_in : List ℕ → ℕ
held_in state = counter state 3

abbrev pub frontier_count_in : List ℕ → ℕ
frontier_count_in state = counter state 4

-- the freed places, the most recently freed first
unfoldable pub freed_places_in : List ℕ → List ℕ
freed_places_in state = reverse (take (freed_count_in state) (drop counts_width state))

-- a place is free if it stands among the freed ones, whatever its record says
abbrev pub place_in : List ℕ → List ℤ → ℕ → Place
place_in freed places k = cond (member k freed) free (taken (record_at component_width places k))

unfoldable pub plot_in : Lent → Plot
plot_in lent = record {
  rules = counter lent.state 0;
  frontiers = take (frontier_count_in lent.state * frontier_width) lent.frontiers;
  places = tabulate (place_in (freed_places_in lent.state) lent.places) (used_in lent.state);
  freed = freed_places_in lent.state;
  connections = tabulate (record_at port_width lent.connections) (held_in lent.state);
}

-- ---- number 18 of slices

-- room for a full plot
pub record Roomy (lent : Lent) : Type 0 where
  pub state_room : counts_width + component_limit ≤ length lent.state
  pub frontiers_room : frontier_limit * frontier_width ≤ length lent.frontiers
  pub places_room : component_limit * component_width ≤ length lent.places
  pub connections_room : connection_limit * port_width ≤ length lent.connections

-- an opening and clicks can leave these slices: they are the layout of a plot that can be left
pub record LentLeavable (lent : Lent) : Type 0 where
  pub plot : Plot
  pub left : Leavable plot
  pub room : Roomy lent
  pub shown : lent ≡ layout lent plot

-- ---- the test

unfoldable pub has_room : Lent → Bool
has_room lent =
    leb (counts_width + component_limit) (length lent.state)
    && (leb (frontier_limit * frontier_width) (length lent.frontiers)
    && (leb (component_limit * component_width) (length lent.places) && leb (connection_limit * port_width) (length lent.connections)))

-- no count is over its limit
unfoldable pub counts_fit : List ℕ → Bool
counts_fit state =
    leb (used_in state) component_limit
    && (leb (freed_count_in state) component_limit && (leb (held_in state) connection_limit && leb (frontier_count_in state) frontier_limit))

abbrev pub is_zero : ℤ → Bool
is_zero v = eq_z (pos 0) v

-- zeros from place n on
abbrev pub zeros_from : ℕ → List ℤ → Bool
zeros_from n list = every is_zero (drop n list)

-- the record of a free place is all zero
abbrev pub is_blank : List ℤ → ℕ → Bool
is_blank places k = every is_zero (record_at component_width places k)

unfoldable pub tidy : Lent → Bool
tidy lent =
    every (is_blank lent.places) (freed_places_in lent.state)
    && (every (eqb 0) (drop (counts_width + freed_count_in lent.state) lent.state)
    && (zeros_from (frontier_count_in lent.state * frontier_width) lent.frontiers
    && (zeros_from (used_in lent.state * component_width) lent.places && zeros_from (held_in lent.state * port_width) lent.connections)))

unfoldable pub lent_valid : Lent → Bool
lent_valid lent = has_room lent && (counts_fit lent.state && (valid (plot_in lent) && tidy lent))

abbrev pub LentDecides : Lent → Type 0
LentDecides lent = LentLeavable lent ↔ (lent_valid lent ≡ true)

-- ---- a click

unfoldable pub lent_answer : Lent → Click → Result ⊤ Refusal
lent_answer lent click = refuse Fault.StrangePlot None (fault_at 0 (not (lent_valid lent))) or_else checks_of (plot_in lent) click

-- a refused click changes no slice; an accepted one lays out the plot that it leaves
abbrev pub lent_if : Result ⊤ Refusal → Lent → Lent → Lent
lent_if (Ok tt) changed lent = changed
lent_if (Err refusal) changed lent = lent

abbrev pub lent_after : Lent → Click → Lent
lent_after lent click = lent_if (lent_answer lent click) (layout lent (effect_of (plot_in lent) click)) lent

-- slices that can be left are left so by every click
abbrev pub LentKept : Lent → Click → Type 0
LentKept lent click = LentLeavable lent → LentLeavable (lent_after lent click)

-- ---- openings and clicks on slices

unfoldable pub lent_run : Lent → List Click → Lent
lent_run lent [] = lent
lent_run lent (click ∷ clicks) = lent_run (lent_after lent click) clicks

-- an opening of slices of these lengths and clicks on them leave these slices
pub record LentReached (lent : Lent) : Type 0 where
  pub rules : ℕ
  pub frontiers : List ℤ
  pub clicks : List Click
  pub accepted : opening rules frontiers (has_room lent) ≡ Ok tt
  pub leaves : lent_run (layout lent (opened rules frontiers)) clicks ≡ lent

abbrev pub LentReaches : Lent → Type 0
LentReaches lent = LentLeavable lent ↔ LentReached lent
