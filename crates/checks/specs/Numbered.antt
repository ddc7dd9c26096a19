-- Refusals whose number and list may be any, also such as no fault or list has.
-- Assumes nothing: these are definitions.
use Rattle.std.specs.Prelude.{⊤, Option, Some, None, Result, Ok, Err}
use Rattle.std.specs.Prelude.{ℕ, ◌+◌, ◌*◌, ◌≤◌, ◌<◌}
use Rattle.checks.specs.declared.numbered.RefusalNumbers.{RefusalNumbers}
use Rattle.checks.specs.Refusals.{item_limit}

-- a fault that was found is refused with its number, its list and the item
abbrev pub refuse_numbers : ℕ → ℕ → Option ℕ → Result ⊤ RefusalNumbers
refuse_numbers number list (Some item) = Err (record { number = number; list = list; item = item })
refuse_numbers number list None = Ok tt

-- each part of a refusal has room in its digits
abbrev pub SmallNumbers : Result ⊤ RefusalNumbers → Type 0
SmallNumbers (Ok tt) = Unit
SmallNumbers (Err r) = (r.number < 256) × ((r.list < 256) × (r.item ≤ item_limit))

-- 0 where the checks accept, else the number, the list and the item, from the lowest digits on
abbrev pub packed_numbers : Result ⊤ RefusalNumbers → ℕ
packed_numbers (Ok tt) = 0
packed_numbers (Err r) = r.number + 256 * r.list + 65536 * r.item
