-- The port connections that are kept of a scene, for a host that calls through the C convention (document 02, R-2), by the definitions of
-- `port_connections`.
--     ports_number     its answer as one number
--     PortsByLists     what `dustroute_ports` answers and leaves
-- Assumes nothing: these are definitions.
use Rattle.std.specs.Prelude.{⊤, Result, Ok, Err}
use Rattle.std.specs.Prelude.{ℕ, ◌*◌, ◌/◌, ◌≡◌, List, map, length, take, ℤ, pos}
use Rattle.lists.specs.declared.Refusal.{Refusal}
use Rattle.lists.specs.Limits.{kept_width}
use Rattle.lists.specs.Slices.{left_of}
use Rattle.checks.specs.Refusals.{ports_refusal, packed}
use Rattle.scene.specs.Kept.{kept_rows, kept_count, sloped_rows, without_slopes}

-- a refusal's number, list and item, or 0 in the sixteen lowest bits and then how many are kept
abbrev pub ports_number : Result ⊤ Refusal → ℕ → ℕ
ports_number (Ok tt) kept = 65536 * kept
ports_number (Err refusal) kept = packed (Err refusal)

-- from a rules number, components, grouping connections and a lent list
pub record PortsByLists (rules : ℕ) (cs ps ports ports' : List ℤ) (r : ℕ) : Type 0 where
  pub answer : r ≡ ports_number (ports_refusal rules cs ps (length ports)) (kept_count rules cs ps)
  pub left : ports' ≡ left_of (ports_refusal rules cs ps (length ports)) (map pos (sloped_rows rules cs ps)) ports
  -- the rows left at the front, as many as answered, are without their slopes the list that liveness takes
  pub cut : ports_refusal rules cs ps (length ports) ≡ Ok tt → without_slopes (take (r / 65536 * kept_width) ports') ≡ map pos (kept_rows rules cs ps)
