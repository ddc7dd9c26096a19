-- What the functions that look for number 18 hand to each other.
-- Assumes nothing: these are definitions.
use Rattle.std.specs.Prelude.{◌/◌, ◌%◌, Option, Some, None, ℕ, ◌+◌, ◌*◌, ◌≤◌, ◌<◌, ◌≡◌, Bool, true, false, not, cond, ◌&&◌, List, length, get_or, take, drop, eqb, ltb, ℤ}
use Rattle.std.proofs.Math.Seq.{paste}
use Rattle.tables.specs.Order.{member}
use Rattle.lists.specs.Limits.{component_limit, connection_limit, frontier_limit, component_width, port_width, frontier_width}
use Rattle.lists.specs.Ranges.{first_out_of_range, component_low, component_high, port_low, port_high, frontier_low, frontier_high}
use Rattle.lists.specs.Records.{port_connection, port_count}
use Rattle.lists.specs.Rules.{known_rules}
use Rattle.lists.specs.Ids.{smaller_ids, has_component, first_repeated, IdTable}
use Rattle.lists.specs.First.{tabulate, is_found, all_from}
use Rattle.held.specs.Tests.{every, distinct, same_numbers}
use Rattle.held.specs.Plot.{Place, free, taken, blocks, present}
pub use Rattle.held.specs.Lent.{lent_of}
use Rattle.held.specs.Lent.{Lent, flat, counts_width, record_at, used_in, freed_count_in, held_in, frontier_count_in, freed_places_in, zeros_from, is_blank, has_room, counts_fit, counter, plot_in, lent_valid}

-- no count is over its limit
pub record Counts (state : List ℕ) : Type 0 where
  pub used : used_in state ≤ component_limit
  pub freed : freed_count_in state ≤ component_limit
  pub held : held_in state ≤ connection_limit
  pub frontiers : frontier_count_in state ≤ frontier_limit

-- all that lies behind the counts is zero
unfoldable pub zero_behind : List ℕ → List ℤ → List ℤ → List ℤ → Bool
zero_behind state frontiers places connections =
    every (eqb 0) (drop (counts_width + freed_count_in state) state)
    && (zeros_from (frontier_count_in state * frontier_width) frontiers
    && (zeros_from (used_in state * component_width) places && zeros_from (held_in state * port_width) connections))

-- an opening takes the rules number and the frontiers, whose count is right
unfoldable pub opens_with : ℕ → List ℤ → Bool
opens_with rules frontiers = not (is_found (first_out_of_range frontier_low frontier_high frontiers)) && known_rules rules

-- the marks are those of the freed places
pub record Marks (state : List ℕ) (marks : List Bool) : Type 0 where
  pub at : (k : ℕ) → k < length marks → get_or marks k false ≡ member k (freed_places_in state)

-- each freed place is below the count of places used, and none is freed twice; then they are marked
pub record FreedMarked (state : List ℕ) (used : ℕ) (marks : List Bool) (r : Bool) : Type 0 where
  pub answer : r ≡ (distinct eqb (freed_places_in state) && every (λ k. ltb k used) (freed_places_in state))
  pub marked : r ≡ true → Marks state marks

-- places by marks
abbrev pub marked_place : List Bool → List ℤ → ℕ → Place
marked_place marks places k = cond (get_or marks k false) free (taken (record_at component_width places k))

-- a record more, unless the place is marked
pub record GatheredOne (places : List ℤ) (marked : Bool) (k count : ℕ) (out out' : List ℤ) (r : ℕ) : Type 0 where
  pub count_is : r ≡ cond marked count (count + 1)
  pub out_is : out' ≡ cond marked out (paste out (count * component_width) (record_at component_width places k) component_width)

-- the blocks of the first places, one after the other
pub record Gathered (places : List ℤ) (marks : List Bool) (used : ℕ) (out : List ℤ) (r : ℕ) : Type 0 where
  pub count : r ≡ present (tabulate (marked_place marks places) used)
  pub numbers : take (r * component_width) out ≡ flat (blocks (tabulate (marked_place marks places) used))
  pub few : r ≤ used

-- blocks in range, no id twice; then the keys are the table of their ids
pub record BlocksChecked (cs : List ℤ) (keys : List ℕ) (r : Bool) : Type 0 where
  pub answer : r ≡ (not (is_found (first_out_of_range component_low component_high cs)) && not (is_found (first_repeated cs)))
  pub table : r ≡ true → IdTable cs keys

-- both ends of port connection k are components
abbrev pub both_ends : List ℤ → List ℤ → ℕ → Bool
both_ends cs ps k = has_component cs (port_connection ps k).source && has_component cs (port_connection ps k).sink

-- ---- connections by their keys

-- the member that stands for the component with the id, if there is one
abbrev pub member_if : List ℤ → ℕ → Option ℕ
member_if cs id = cond (has_component cs id) (Some (smaller_ids cs id)) None

-- ports and transfer as one number, below 512 where both ports are below 8
abbrev pub way_of : ℕ → ℕ → ℕ → ℕ
way_of source_port sink_port transfer =
    (source_port / 8 * 32 + sink_port / 8) * 512 + ((source_port % 8 * 8 + sink_port % 8) * 8 + transfer)

-- and members
abbrev pub key_of : ℕ → ℕ → ℕ → ℕ → ℕ → ℕ
key_of source sink source_port sink_port transfer =
    (way_of source_port sink_port transfer * component_limit + source) * component_limit + sink

abbrev pub connection_key : List ℤ → List ℤ → ℕ → ℕ
connection_key cs ps k =
    let p = port_connection ps k in
    key_of (smaller_ids cs p.source) (smaller_ids cs p.sink) p.source_port_of p.sink_port_of p.transfer

-- the key of port connection k, if both its ends are components
abbrev pub key_if : List ℤ → List ℤ → ℕ → Option ℕ
key_if cs ps k = cond (both_ends cs ps k) (Some (connection_key cs ps k)) None

-- the keys of the connections below n
pub record KeysBelow (cs ps : List ℤ) (keys : List ℕ) (n : ℕ) : Type 0 where
  pub ends : (k : ℕ) → k < n → both_ends cs ps k ≡ true
  pub key : (k : ℕ) → k < n → get_or keys k 0 ≡ connection_key cs ps k

-- both ends of each connection are components, and then these are the keys of all
pub record KeysFor (cs ps : List ℤ) (keys : List ℕ) (r : Bool) : Type 0 where
  pub all : r ≡ true → KeysBelow cs ps keys (port_count ps)
  pub some : r ≡ false → (k : ℕ) × (k < port_count ps) × (both_ends cs ps k ≡ false)

-- no number is the same as the next
pub record NeighboursDiffer (keys : List ℕ) (r : Bool) : Type 0 where
  pub all : r ≡ true → (i : ℕ) → i + 1 < length keys → get_or keys i 0 ≡ get_or keys (i + 1) 0 → ⊥
  pub some : r ≡ false → (i : ℕ) × (i + 1 < length keys) × (get_or keys i 0 ≡ get_or keys (i + 1) 0)

-- no number is the same as another
pub record Differ (keys : List ℕ) (r : Bool) : Type 0 where
  pub all : r ≡ true → (i j : ℕ) → i < j → j < length keys → get_or keys i 0 ≡ get_or keys j 0 → ⊥
  pub some : r ≡ false → (i : ℕ) × (j : ℕ) × (i < j) × (j < length keys) × (get_or keys i 0 ≡ get_or keys j 0)

-- ---- the test of number 18 in the parts in which it is made

-- port connections in range, both ends components, none twice
unfoldable pub connections_pass : List ℤ → List ℤ → Bool
connections_pass cs ps =
    not (is_found (first_out_of_range port_low port_high ps))
    && (all_from (both_ends cs ps) 0 (port_count ps) && distinct same_numbers (tabulate (record_at port_width ps) (port_count ps)))

-- blocks in range, no id twice; and the connections between them
unfoldable pub stand_pass : List ℤ → List ℤ → Bool
stand_pass cs ps = (not (is_found (first_out_of_range component_low component_high cs)) && not (is_found (first_repeated cs))) && connections_pass cs ps

-- the numbers of the blocks that stand, and of the connections that are held
abbrev pub blocks_in : Lent → List ℤ
blocks_in lent = flat (blocks (plot_in lent).places)

abbrev pub held_part : Lent → List ℤ
held_part lent = take (held_in lent.state * port_width) lent.connections

-- slices that can be left, and the blocks that stand at the front of a list
pub record Standing (lent : Lent) (out : List ℤ) (r : Option ℕ) : Type 0 where
  pub left : is_found r ≡ lent_valid lent
  pub blocks_are : (n : ℕ) → r ≡ Some n → take n out ≡ blocks_in lent

-- room, counts, zeros and what was opened
pub record Frame (lent : Lent) : Type 0 where
  pub room : has_room lent ≡ true
  pub counts : counts_fit lent.state ≡ true
  pub behind : zero_behind lent.state lent.frontiers lent.places lent.connections ≡ true
  pub opens : opens_with (counter lent.state 0) (take (frontier_count_in lent.state * frontier_width) lent.frontiers) ≡ true

pub record FrameFits (lent : Lent) (r : Bool) : Type 0 where
  pub fits : r ≡ true → Frame lent
  pub fails : r ≡ false → Frame lent → ⊥

pub record Parts (lent : Lent) : Type 0 where
  pub frame : Frame lent
  pub freed : (distinct eqb (freed_places_in lent.state) && every (λ k. ltb k (used_in lent.state)) (freed_places_in lent.state)) ≡ true
  pub blank : every (is_blank lent.places) (freed_places_in lent.state) ≡ true
  pub stand : stand_pass (blocks_in lent) (held_part lent) ≡ true
