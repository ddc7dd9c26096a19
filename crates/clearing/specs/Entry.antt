-- The entry `clear_missing` (document 02, R-10): what it answers, and what it leaves in the two lists that it was lent.
-- Assumes nothing: these are definitions.
use Rattle.std.specs.Prelude.{⊤, Result, Ok, Err, IfOk}
use Rattle.std.specs.Prelude.{◌≡◌, ℕ, ◌*◌, ◌&&◌, Bool, cond, List, length, take, eqb, ℤ}
use Rattle.lists.specs.declared.Refusal.{Refusal}
use Rattle.lists.specs.Limits.{port_width}
use Rattle.lists.specs.Records.{port_count}
use Rattle.lists.specs.Refusal.{fault_number}
use Rattle.lists.specs.Slices.{left_of}
use Rattle.checks.specs.Refusals.{room_for, liveness_lists}
use Rattle.liveness.specs.Sets.{checked}
use Rattle.clearing.specs.Parts.{dropped_width, kept_items, dropped_items, kept_rows, dropped_rows}
use Rattle.clearing.specs.Promises.{ClearedScene}
use Rattle.clearing.specs.declared.Cleared.{Cleared}

-- "a liveness scene whose only fault is number 7" and "a scene with no fault" are taken; "any other fault is refused as before"
abbrev pub except_missing : Result ⊤ Refusal → Result ⊤ Refusal
except_missing (Ok tt) = Ok tt
except_missing (Err r) = cond (eqb (fault_number r.fault) 7) (Ok tt) (Err r)

-- "Both its lists need a place per port connection", of five numbers and of two
abbrev pub clearing_room : List ℤ → ℕ → ℕ → Bool
clearing_room ps kept dropped = room_for (port_count ps) port_width kept && room_for (port_count ps) dropped_width dropped

-- given a rules number and how many numbers each lent list has: the faults of the liveness entry, with number 2 for these two lists in its turn
abbrev pub clear_refusal : ℕ → List ℤ → List ℤ → List ℤ → ℕ → ℕ → Result ⊤ Refusal
clear_refusal rules cs ps fs kept dropped = except_missing (liveness_lists rules cs ps fs (clearing_room ps kept dropped))

-- how many are kept, and how many dropped
pub record CountsOf (cs ps : List ℤ) (c : Cleared) : Type 0 where
  pub kept_count : c.kept ≡ length (kept_items cs ps)
  pub dropped_count : c.dropped ≡ length (dropped_items cs ps)

-- by what the checks say: the rows of both lists at their front, the rest as it was, and how many these are; or a refusal, which changes
-- nothing
pub record ClearsBy (checks : Result ⊤ Refusal) (cs ps kept kept' : List ℤ) (dropped dropped' : List ℕ) (r : Result Cleared Refusal) : Type 0 where
  pub answer : checked r ≡ checks
  pub counts : IfOk r (CountsOf cs ps)
  pub kept_left : kept' ≡ left_of checks (kept_rows cs ps) kept
  pub dropped_left : dropped' ≡ left_of checks (dropped_rows cs ps) dropped

-- from a rules number, components, port connections, frontiers and two lent lists
pub record Clears (rules : ℕ) (cs ps fs kept kept' : List ℤ) (dropped dropped' : List ℕ) (r : Result Cleared Refusal) : Type 0 where
  pub by : ClearsBy (clear_refusal rules cs ps fs (length kept) (length dropped)) cs ps kept kept' dropped dropped' r
  -- what is promised, of the port connections that were left at the front of the kept list
  pub promise : IfOk r (λ c. ClearedScene rules cs (take (c.kept * port_width) kept') fs)
