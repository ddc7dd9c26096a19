-- A plot held open while they build (document 02, R-12), the clicks on it, and what refuses them, in the paper's words and order.
--     Plot                              what is held
--     opening, opened                   an opening: what refuses it, and the plot that it leaves
--     placing, placed, seat             placing a block: what refuses it, the plot that it leaves, the place that it answers
--     breaking, broken                  breaking a block
--     connecting, connected             adding a port connection
-- Number 18 is not here: it speaks of a plot that is handed in, and `Left` says which plots these clicks can leave.
-- Assumes nothing: these are definitions.
use Rattle.std.specs.Prelude.{⊤, Option, Some, None, Result}
use Rattle.lists.specs.declared.Fault.{Fault}
use Rattle.lists.specs.declared.Section.{Section}
use Rattle.lists.specs.declared.Refusal.{Refusal}
use Rattle.checks.specs.Refusals.{strange_rules}
use Rattle.std.specs.Prelude.{ℕ, Bool, false, not, cond, ◌&&◌, ◌||◌, List, [], ◌∷◌, ◌++◌, length, get_or, set, eqb, ltb, ℤ}
use Rattle.lists.specs.Limits.{component_limit, connection_limit, frontier_limit, frontier_width}
use Rattle.lists.specs.Records.{natural_at}
use Rattle.lists.specs.Ranges.{record_in_range, first_out_of_range, component_low, component_high, port_low, port_high, frontier_low, frontier_high}
use Rattle.lists.specs.First.{first_from, is_found}
use Rattle.checks.specs.Refusals.{refuse, ◌or_else◌, not_whole, too_short}
use Rattle.held.specs.Tests.{any, keep, same_numbers}

-- ---- what is held

-- the numbers of a record, as they stand in a list of a scene
abbrev pub Record : Type 0
Record = List ℤ

-- a place that was used before: a block stands there, or it is free again
pub data Place : Type 0 where
  free : Place
  taken : Record → Place

pub record Plot : Type 0 where
  -- the rules number and the frontiers, which remain
  pub rules : ℕ
  pub frontiers : List ℤ
  -- the places used so far, from place 0 on; the others were never used
  pub places : List Place
  -- the free ones among them, the most recently freed first
  pub freed : List ℕ
  -- the port connections, in the order in which they were added
  pub connections : List Record

-- what stands at a place; a place never used is free
abbrev pub at : List Place → ℕ → Place
at places k = get_or places k free

-- the components present, by rising place
unfoldable pub blocks : List Place → List Record
blocks [] = []
blocks (free ∷ places) = blocks places
blocks (taken block ∷ places) = block ∷ blocks places

-- how many there are
abbrev pub present : List Place → ℕ
present places = length (blocks places)

-- the id of a component; the ends of a port connection
abbrev pub id_of : Record → ℕ
id_of block = natural_at block 0

abbrev pub source_of : Record → ℕ
source_of connection = natural_at connection 0

abbrev pub sink_of : Record → ℕ
sink_of connection = natural_at connection 2

-- the component with the id stands there
abbrev pub holds : ℕ → Place → Bool
holds id free = false
holds id (taken block) = eqb (id_of block) id

-- the place of an id
unfoldable pub place_of : List Place → ℕ → Option ℕ
place_of places id = first_from (λ k. holds id (at places k)) 0 (length places)

-- the id is present
abbrev pub is_present : List Place → ℕ → Bool
is_present places id = is_found (place_of places id)

-- ---- refusals of one record

-- a fault of the click itself, with the item that is given for it
abbrev pub fault_at : ℕ → Bool → Option ℕ
fault_at item wrong = cond wrong (Some item) None

-- 3: as many numbers as a record has, each in its range
unfoldable pub fits : List ℤ → List ℤ → Record → Bool
fits low high numbers = eqb (length numbers) (length low) && record_in_range low high numbers 0

abbrev pub block_fits : Record → Bool
block_fits = fits component_low component_high

abbrev pub connection_fits : Record → Bool
connection_fits = fits port_low port_high

-- both ends of a connection are present
abbrev pub ends_present : List Place → Record → Bool
ends_present places connection = is_present places (source_of connection) && is_present places (sink_of connection)

-- ---- opening

-- "It opens empty, with frontiers and a rules number that are checked as in a fresh scene and then remain": 11, 1, 2 for the room that the
-- plot is lent, 3.
unfoldable pub opening : ℕ → List ℤ → Bool → Result ⊤ Refusal
opening rules frontiers enough =
    refuse Fault.UnknownRules None (strange_rules rules)
    or_else refuse Fault.ListLength (Some Section.Frontiers) (not_whole frontier_width frontier_limit (length frontiers))
    or_else refuse Fault.ShortSlice None (too_short enough)
    or_else refuse Fault.OutOfRange (Some Section.Frontiers) (first_out_of_range frontier_low frontier_high frontiers)

abbrev pub opened : ℕ → List ℤ → Plot
opened rules frontiers = record { rules = rules; frontiers = frontiers; places = []; freed = []; connections = [] }

-- ---- placing

-- 3, then 16: the id is present already, then 15: no place is free, given only where as many as the limit are present
unfoldable pub placing : Plot → Record → Result ⊤ Refusal
placing plot block =
    refuse Fault.OutOfRange (Some Section.Components) (fault_at 0 (not (block_fits block)))
    or_else refuse Fault.PresentId None (fault_at 0 (is_present plot.places (id_of block)))
    or_else refuse Fault.FullPlot None (fault_at 0 (not (ltb (present plot.places) component_limit)))

-- "Placing takes and answers the most recently freed place still free, or else the lowest place never used."
abbrev pub seat_of : List ℕ → List Place → ℕ
seat_of [] places = length places
seat_of (k ∷ freed) places = k

abbrev pub seat : Plot → ℕ
seat plot = seat_of plot.freed plot.places

-- the places once a block is in its seat, and the places that are left free
unfoldable pub seated : List ℕ → List Place → Record → List Place
seated [] places block = places ++ (taken block ∷ [])
seated (k ∷ freed) places block = set places k (taken block)

unfoldable pub still_free : List ℕ → List ℕ
still_free [] = []
still_free (k ∷ freed) = freed

abbrev pub placed : Plot → Record → Plot
placed plot block = record {
  rules = plot.rules;
  frontiers = plot.frontiers;
  places = seated plot.freed plot.places block;
  freed = still_free plot.freed;
  connections = plot.connections;
}

-- ---- breaking

-- 17: the id is absent. A broken id has no range check.
unfoldable pub breaking : Plot → ℕ → Result ⊤ Refusal
breaking plot id = refuse Fault.AbsentId None (fault_at 0 (not (is_present plot.places id)))

-- a connection has no end at the id
abbrev pub clear_of : ℕ → Record → Bool
clear_of id connection = not (eqb (source_of connection) id || eqb (sink_of connection) id)

-- "Breaking a block frees its place and drops all connections at it."
abbrev pub broken_at : Plot → ℕ → Option ℕ → Plot
broken_at plot id None = plot
broken_at plot id (Some k) = record {
  rules = plot.rules;
  frontiers = plot.frontiers;
  places = set plot.places k free;
  freed = k ∷ plot.freed;
  connections = keep (clear_of id) plot.connections;
}

abbrev pub broken : Plot → ℕ → Plot
broken plot id = broken_at plot id (place_of plot.places id)

-- ---- connecting

-- one already there: all five numbers are the same
abbrev pub is_held : Plot → Record → Bool
is_held plot connection = any (same_numbers connection) plot.connections

-- 3, then 17 for either end, and last 1, for a new connection when as many as the limit are held
unfoldable pub connecting : Plot → Record → Result ⊤ Refusal
connecting plot connection =
    refuse Fault.OutOfRange (Some Section.Connections) (fault_at 0 (not (connection_fits connection)))
    or_else refuse Fault.AbsentId None (fault_at 0 (not (ends_present plot.places connection)))
    or_else refuse Fault.ListLength (Some Section.Connections) (fault_at connection_limit (not (is_held plot connection) && not (ltb (length plot.connections) connection_limit)))

-- "Connecting adds one port connection between two present ids; one already there changes nothing."
abbrev pub joined : Plot → Record → Plot
joined plot connection = record {
  rules = plot.rules;
  frontiers = plot.frontiers;
  places = plot.places;
  freed = plot.freed;
  connections = plot.connections ++ (connection ∷ []);
}

abbrev pub connected : Plot → Record → Plot
connected plot connection = cond (is_held plot connection) plot (joined plot connection)
