-- Two sheets joined for a host that calls through the C convention (document 02, R-9), by the definition of `join_sheets`.
--     join_number     an answer that counts bytes or tells a refusal and its sheet, as one number
--     JoinByTexts     what `dustroute_join` answers and leaves
-- Assumes nothing: these are definitions.
use Rattle.std.specs.Prelude.{Result, Ok, Err}
use Rattle.std.specs.Prelude.{ℕ, ◌+◌, ◌*◌, ◌≤◌, ◌≡◌, List, ◌++◌, take, drop, ℤ}
use Rattle.checks.specs.Refusals.{item_limit, packed}
use Rattle.join.specs.Entry.{SheetsJoined}
use Rattle.join.specs.declared.JoinRefusal.{JoinRefusal}

-- how many bytes were written, above the sixteen lowest bits; or a refusal's number, list and item, and its sheet in bits 56 to 63
abbrev pub join_number : Result ℕ JoinRefusal → ℕ
join_number (Ok count) = 65536 * count
join_number (Err r) = packed (Err r.refusal) + 72057594037927936 * r.sheet

-- the forty bits below the sheet
abbrev pub join_item_limit : ℕ
join_item_limit = 1099511627775

-- the item has room below the sheet, and the sheet in its digits
abbrev pub Apart : Result ℕ JoinRefusal → Type 0
Apart (Ok count) = Unit
Apart (Err r) = (r.refusal.item ≤ join_item_limit) × (r.sheet ≤ 2)

-- a buffer counts for no more bytes than an answer can tell; what lies past them stays as it was
pub record JoinByTexts (first second : List ℕ) (components components' connections connections' frontiers frontiers' : List ℤ) (out out' : List ℕ) (r : ℕ) : Type 0 where
  pub found : Result ℕ JoinRefusal
  pub front : List ℕ
  pub joined : SheetsJoined first second components components' connections connections' frontiers frontiers' (take item_limit out) front found
  pub answer : r ≡ join_number found
  pub apart : Apart found
  pub left : out' ≡ front ++ drop item_limit out
