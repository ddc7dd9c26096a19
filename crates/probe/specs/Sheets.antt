-- The sheet entry as the tests call it: its answer as one number, the number of a refusal in the lowest digits, as the other entries pack it.
-- Assumes nothing: these are definitions.
use Rattle.std.specs.Prelude.{Result, Ok, Err}
use Rattle.lists.specs.declared.Refusal.{Refusal}
use Rattle.lists.specs.Refusal.{fault_number, list_number}
use Rattle.std.specs.Prelude.{ℕ, ◌+◌, ◌-◌, ◌*◌, ◌^◌, cond, List, leb, ℤ, ◌≡◌}
use Rattle.report.specs.Entry.{Reported}
use Rattle.forms.specs.Sheet.{Parsed}

-- what has no room in its digits
abbrev pub no_room : ℕ
no_room = 2 ^ 64 - 1

abbrev pub packed_refusal : ℕ → ℕ → ℕ → ℕ
packed_refusal number list item =
    cond (leb 256 number) no_room (cond (leb 256 list) no_room (cond (leb (2 ^ 48) item) no_room (number + 256 * list + 65536 * item)))

-- the count stands where the item does
abbrev pub packed_report : Result ℕ Refusal → ℕ
packed_report (Ok n) = packed_refusal 0 0 n
packed_report (Err r) = packed_refusal (fault_number r.fault) (list_number r.list) r.item

-- the answer of the entry, packed
pub record ReportedAs (p : Parsed) (components components' connections connections' frontiers frontiers' : List ℤ) (out out' : List ℕ) (r : ℕ) : Type 0 where
  pub answer : Result ℕ Refusal
  pub reported : Reported p components components' connections connections' frontiers frontiers' out out' answer
  pub packed : r ≡ packed_report answer
