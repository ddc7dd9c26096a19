-- Why grouping connections are left out, for a host that calls through the C convention, by the definitions of `reasons`.
--     ReasonsByLists     what `dustroute_reasons` answers and leaves
-- Assumes nothing: these are definitions.
use Rattle.std.specs.Prelude.{⊤, Result, Ok}
use Rattle.std.specs.Prelude.{ℕ, ◌<◌, ◌≡◌, List, length, get_or, ℤ}
use Rattle.lists.specs.declared.Refusal.{Refusal}
use Rattle.lists.specs.Records.{connection_count}
use Rattle.lists.specs.Slices.{left_of}
use Rattle.scene.specs.Kept.{kept_count}
use Rattle.scene.specs.Reasons.{reasons_of, reasons_refusal, ReasonSays}
use Rattle.capi.specs.Kept.{ports_number}

-- from a rules number, components, grouping connections and a lent list
pub record ReasonsByLists (rules : ℕ) (cs ps : List ℤ) (reasons reasons' : List ℕ) (r : ℕ) : Type 0 where
  -- the number of a refusal, or how many connections `dustroute_ports` keeps
  pub answer : r ≡ ports_number (reasons_refusal rules cs ps (length reasons)) (kept_count rules cs ps)
  pub left : reasons' ≡ left_of (reasons_refusal rules cs ps (length reasons)) (reasons_of rules cs ps) reasons
  -- what each number says, on the numbers that are left
  pub says : reasons_refusal rules cs ps (length reasons) ≡ Ok tt
      → (k : ℕ) → k < connection_count ps → ReasonSays rules cs ps k (get_or reasons' k 0)
