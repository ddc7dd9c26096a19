-- What the functions that check the lists answer, in the parts in which they do it, and what they leave for the work: the table of ids, each
-- id's list place settled in it, and the ends of port connections.
-- Assumes nothing: these are definitions.
use Rattle.lists.specs.declared.Fault.{Fault}
use Rattle.lists.specs.declared.Section.{Section}
use Rattle.std.specs.Prelude.{Some, None}
use Rattle.std.specs.Prelude.{⊤, Option, Result, Ok}
use Rattle.lists.specs.declared.Refusal.{Refusal}
use Rattle.std.specs.Prelude.{ℕ, ◌≡◌, Bool, List, take, ℤ}
use Rattle.lists.specs.Limits.{component_limit, connection_limit, frontier_limit, component_width, frontier_width}
use Rattle.lists.specs.Records.{component_count}
use Rattle.lists.specs.Ranges.{first_out_of_range, component_low, component_high, frontier_low, frontier_high}
use Rattle.lists.specs.Order.{first_not_ascending, component_order}
use Rattle.lists.specs.Ids.{first_repeated, IdTable}
use Rattle.lists.specs.Places.{PlacesOfIds}
use Rattle.lists.specs.Ends.{SettledEnds}
use Rattle.checks.specs.Refusals.{refuse, ◌or_else◌, not_whole, too_short, strange_rules}

-- 11, 1 and 2, by the rules and the lengths
abbrev pub lengths_of : ℕ → ℕ → ℕ → ℕ → ℕ → Bool → Result ⊤ Refusal
lengths_of rules components width connections frontiers enough =
    refuse Fault.UnknownRules None (strange_rules rules)
    or_else refuse Fault.ListLength (Some Section.Components) (not_whole component_width component_limit components)
    or_else refuse Fault.ListLength (Some Section.Connections) (not_whole width connection_limit connections)
    or_else refuse Fault.ListLength (Some Section.Frontiers) (not_whole frontier_width frontier_limit frontiers)
    or_else refuse Fault.ShortSlice None (too_short enough)

-- 3, given what was found in the second list
abbrev pub ranges_of : List ℤ → Option ℕ → List ℤ → Result ⊤ Refusal
ranges_of cs found fs =
    refuse Fault.OutOfRange (Some Section.Components) (first_out_of_range component_low component_high cs)
    or_else refuse Fault.OutOfRange (Some Section.Connections) found
    or_else refuse Fault.OutOfRange (Some Section.Frontiers) (first_out_of_range frontier_low frontier_high fs)

-- 4 and 5
abbrev pub order_of : List ℤ → Result ⊤ Refusal
order_of cs =
    refuse Fault.UnsortedComponents (Some Section.Components) (first_not_ascending component_order component_width cs)
    or_else refuse Fault.RepeatedId (Some Section.Components) (first_repeated cs)

-- the order and the ids of the components, with their table of ids
pub record Ordered (cs : List ℤ) (keys : List ℕ) (r : Result ⊤ Refusal) : Type 0 where
  pub answer : r ≡ order_of cs
  pub table : IdTable cs keys

-- the answer is that of the checks; where they accept, the keys begin with the table of ids, which settles each id's list place
pub record CheckedBy (checks : Result ⊤ Refusal) (cs : List ℤ) (keys : List ℕ) (r : Result ⊤ Refusal) : Type 0 where
  pub answer : r ≡ checks
  pub table : r ≡ Ok tt → IdTable cs (take (component_count cs) keys)
  pub places : r ≡ Ok tt → PlacesOfIds cs (take (component_count cs) keys)

-- and so are the ends of the port connections settled
pub record LivenessChecked (checks : Result ⊤ Refusal) (cs ps : List ℤ) (keys sources sinks : List ℕ) (r : Result ⊤ Refusal) : Type 0 where
  pub lists : CheckedBy checks cs keys r
  pub ends : r ≡ Ok tt → SettledEnds cs ps sources sinks
