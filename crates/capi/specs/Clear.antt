-- Clearing up a plot after digging, for a host that calls through the C convention (document 02, R-10), by the definitions of `clear_missing`.
--     clear_number       its answer as one number
--     ClearByLists       what `dustroute_clear` answers and leaves
-- Assumes nothing: these are definitions.
use Rattle.std.specs.Prelude.{⊤, Result, Ok, Err}
use Rattle.std.specs.Prelude.{ℕ, ◌+◌, ◌*◌, ◌/◌, ◌%◌, ◌≡◌, List, length, take, ℤ}
use Rattle.lists.specs.declared.Refusal.{Refusal}
use Rattle.lists.specs.Limits.{port_width}
use Rattle.lists.specs.Slices.{left_of}
use Rattle.checks.specs.Refusals.{packed}
use Rattle.clearing.specs.Parts.{kept_items, dropped_items, kept_rows, dropped_rows}
use Rattle.clearing.specs.Promises.{ClearedScene}
use Rattle.clearing.specs.Entry.{clear_refusal}

-- a refusal's number, list and item, or 0 in the sixteen lowest bits and then how many are kept and how many dropped, sixteen bits each
abbrev pub clear_number : Result ⊤ Refusal → ℕ → ℕ → ℕ
clear_number (Ok tt) kept dropped = 65536 * kept + 4294967296 * dropped
clear_number (Err refusal) kept dropped = packed (Err refusal)

-- from a rules number, components, port connections, frontiers and two lent lists
pub record ClearByLists (rules : ℕ) (cs ps fs kept kept' : List ℤ) (dropped dropped' : List ℕ) (r : ℕ) : Type 0 where
  pub answer : r
      ≡ clear_number (clear_refusal rules cs ps fs (length kept) (length dropped)) (length (kept_items cs ps)) (length (dropped_items cs ps))
  pub kept_left : kept' ≡ left_of (clear_refusal rules cs ps fs (length kept) (length dropped)) (kept_rows cs ps) kept
  pub dropped_left : dropped' ≡ left_of (clear_refusal rules cs ps fs (length kept) (length dropped)) (dropped_rows cs ps) dropped
  -- what is promised, of the port connections left at the front and the count answered
  pub promise : clear_refusal rules cs ps fs (length kept) (length dropped) ≡ Ok tt
      → ClearedScene rules cs (take (r / 65536 % 65536 * port_width) kept') fs
