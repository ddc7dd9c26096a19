-- Refusals 1 to 7 (document 01, the table in "The scene taken in"): for each entry the lowest number that applies, at its earliest item,
-- components before connections before frontiers. Lists are 0 components, 1 connections, 2 frontiers, 3 none. Before them all stands 11
-- (document 02, R-4).
-- Assumes nothing: these are definitions.
use Rattle.lists.specs.declared.Fault.{Fault}
use Rattle.lists.specs.declared.Section.{Section}
use Rattle.std.specs.Prelude.{⊤, Option, Some, None, Result, Ok, Err}
use Rattle.std.specs.Prelude.{ℕ, ◌+◌, ◌*◌, ◌/◌, ◌%◌, ◌≤◌, min, Bool, true, not, cond, ◌&&◌, ◌||◌, List, [], ◌∷◌, length, eqb, leb, ltb, ℤ}
use Rattle.lists.specs.Limits.{component_limit, connection_limit, frontier_limit, component_width, connection_width, port_width, kept_width, frontier_width}
use Rattle.lists.specs.Records.{component_count, connection_count}
use Rattle.lists.specs.Rules.{known_rules}
use Rattle.lists.specs.Ranges.{first_out_of_range, component_low, component_high, connection_low, connection_high, port_low, port_high, frontier_low, frontier_high}
use Rattle.lists.specs.Order.{first_not_ascending, component_order, connection_order}
use Rattle.lists.specs.Ids.{first_repeated, first_end_missing}
use Rattle.lists.specs.declared.Refusal.{Refusal}
use Rattle.lists.specs.Refusal.{fault_number, list_number}

-- a fault that was found is refused with its list and the item
abbrev pub refuse : Fault → Option Section → Option ℕ → Result ⊤ Refusal
refuse fault list (Some item) = Err (record { fault = fault; list = list; item = item })
refuse fault list None = Ok tt

infixr 20 ◌or_else◌
-- the first of two checks that refuses
abbrev pub ◌or_else◌ : Result ⊤ Refusal → Result ⊤ Refusal → Result ⊤ Refusal
(Ok tt) or_else next = next
Err r or_else next = Err r

-- 1: a list of n numbers over its limit, or not whole records. The item is the smaller of the limit and the count of whole records.
unfoldable pub not_whole : ℕ → ℕ → ℕ → Option ℕ
not_whole width limit n = cond (ltb limit (n / width) || not (eqb (n % width) 0)) (Some (min limit (n / width))) None

-- 2: a lent slice of n numbers has so many places of a width
abbrev pub room_for : ℕ → ℕ → ℕ → Bool
room_for places width n = leb places (n / width)

abbrev pub too_short : Bool → Option ℕ
too_short enough = cond enough None (Some 0)

-- 11: no rules have the number
abbrev pub strange_rules : ℕ → Option ℕ
strange_rules rules = cond (known_rules rules) None (Some 0)

-- ---- the checks of the lists, given whether the lent slices are long enough

-- up to 5, given how wide a record of the second list is and which of them is out of its range
unfoldable pub scene_lists : ℕ → List ℤ → ℕ → ℕ → Option ℕ → List ℤ → Bool → Result ⊤ Refusal
scene_lists rules cs width connections outside fs enough =
    refuse Fault.UnknownRules None (strange_rules rules)
    or_else refuse Fault.ListLength (Some Section.Components) (not_whole component_width component_limit (length cs))
    or_else refuse Fault.ListLength (Some Section.Connections) (not_whole width connection_limit connections)
    or_else refuse Fault.ListLength (Some Section.Frontiers) (not_whole frontier_width frontier_limit (length fs))
    or_else refuse Fault.ShortSlice None (too_short enough)
    or_else refuse Fault.OutOfRange (Some Section.Components) (first_out_of_range component_low component_high cs)
    or_else refuse Fault.OutOfRange (Some Section.Connections) outside
    or_else refuse Fault.OutOfRange (Some Section.Frontiers) (first_out_of_range frontier_low frontier_high fs)
    or_else refuse Fault.UnsortedComponents (Some Section.Components) (first_not_ascending component_order component_width cs)
    or_else refuse Fault.RepeatedId (Some Section.Components) (first_repeated cs)

-- the grouping and the ports entry, whose frontiers are none, and the lists of a sheet
unfoldable pub grouping_lists : ℕ → List ℤ → List ℤ → List ℤ → Bool → Result ⊤ Refusal
grouping_lists rules cs ps fs enough =
    scene_lists rules cs connection_width (length ps) (first_out_of_range connection_low connection_high ps) fs enough
    or_else refuse Fault.UnsortedConnections (Some Section.Connections) (first_not_ascending connection_order connection_width ps)

-- the liveness entry and the input query
unfoldable pub liveness_lists : ℕ → List ℤ → List ℤ → List ℤ → Bool → Result ⊤ Refusal
liveness_lists rules cs ps fs enough =
    scene_lists rules cs port_width (length ps) (first_out_of_range port_low port_high ps) fs enough
    or_else refuse Fault.MissingEnd (Some Section.Connections) (first_end_missing cs ps)

-- ---- the entries, given how many numbers each lent slice has

-- nets and fragments: a place per component
abbrev pub room_for_groups : ℕ → ℕ → ℕ → Bool
room_for_groups components nets fragments = room_for components 1 nets && room_for components 1 fragments

abbrev pub grouping_refusal : ℕ → List ℤ → List ℤ → ℕ → ℕ → Result ⊤ Refusal
grouping_refusal rules cs ps nets fragments = grouping_lists rules cs ps [] (room_for_groups (component_count cs) nets fragments)

-- port connections with their slopes: a place per grouping connection
abbrev pub ports_refusal : ℕ → List ℤ → List ℤ → ℕ → Result ⊤ Refusal
ports_refusal rules cs ps ports = grouping_lists rules cs ps [] (room_for (connection_count ps) kept_width ports)

-- per component one region, two source rows of two numbers, four verdict rows of three, one pair of the walk's stack
abbrev pub room_for_rows : ℕ → ℕ → ℕ → ℕ → ℕ → Bool
room_for_rows components regions sources inputs stack =
    room_for components 1 regions && (room_for (components * 2) 2 sources && (room_for (components * 4) 3 inputs && room_for components 2 stack))

abbrev pub liveness_room : List ℤ → ℕ → ℕ → ℕ → ℕ → Bool
liveness_room cs regions sources inputs stack = room_for_rows (component_count cs) regions sources inputs stack

abbrev pub liveness_refusal : ℕ → List ℤ → List ℤ → List ℤ → ℕ → ℕ → ℕ → ℕ → Result ⊤ Refusal
liveness_refusal rules cs ps fs regions sources inputs stack = liveness_lists rules cs ps fs (liveness_room cs regions sources inputs stack)

-- the stack alone; number 8 comes after these
abbrev pub query_refusal : ℕ → List ℤ → List ℤ → List ℤ → ℕ → Result ⊤ Refusal
query_refusal rules cs ps fs stack = liveness_lists rules cs ps fs (room_for (component_count cs) 2 stack)

-- the lists that a sheet counted. Numbers 11 and 1 do not arise there: rules that are not known and a count over its limit were refused by
-- their lines.
abbrev pub sheet_refusal : ℕ → List ℤ → List ℤ → List ℤ → Result ⊤ Refusal
sheet_refusal rules cs ps fs = grouping_lists rules cs ps fs true

-- ---- an answer in the paper's numbers

-- a refusal returns the number, the list and the item
abbrev pub refusal_numbers : Refusal → List ℕ
refusal_numbers r = fault_number r.fault ∷ list_number r.list ∷ r.item ∷ []

-- 0 and what the entry counts, or the numbers of the refusal
abbrev pub numbers_by : Result ⊤ Refusal → List ℕ → List ℕ
numbers_by (Ok tt) counts = 0 ∷ counts
numbers_by (Err r) counts = refusal_numbers r

-- ---- an answer as one number

-- the forty-eight bits above the number and the list
abbrev pub item_limit : ℕ
item_limit = 281474976710655

-- the item of a refusal has room in its digits
abbrev pub Small : Result ⊤ Refusal → Type 0
Small (Ok tt) = Unit
Small (Err r) = r.item ≤ item_limit

-- 0 where the checks accept, else the number, the list and the item, from the lowest digits on
abbrev pub packed : Result ⊤ Refusal → ℕ
packed (Ok tt) = 0
packed (Err r) = fault_number r.fault + 256 * list_number r.list + 65536 * r.item
