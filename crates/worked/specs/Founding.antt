-- The founding case (document 01, "What is marked"): three wires in a straight row, each feeding the next, and the same row saved with a
-- connection that names block 9, which was cleared.
--     row, along       the wires, and their port connections
--     cleared_at_head, cleared_inside, cleared_behind     the row with a connection more: 9 feeds wire 0, 9 feeds wire 1, wire 2 feeds 9
--     StraightRow      the row alone: three regions, none cyclic
--     ClearedBlock     7 at the connection that names block 9, whichever end it is
-- Assumes nothing: these are definitions.
use Rattle.std.specs.Prelude.{ℕ, ◌≡◌, ◌+◌, ◌*◌, true, List, [], ◌∷◌, ◌++◌, ℤ, pos}
use Rattle.checks.specs.Refusals.{liveness_lists, packed}
use Rattle.worked.specs.Plots.{feed, regions, cyclic}

abbrev pub wire_at : ℕ → List ℤ
wire_at k = pos k ∷ pos k ∷ pos 0 ∷ pos 0 ∷ pos 0 ∷ pos 0 ∷ pos 0 ∷ pos 0 ∷ []

abbrev pub row : List ℤ
row = wire_at 0 ++ wire_at 1 ++ wire_at 2

abbrev pub along : List ℤ
along = feed 0 1 0 ++ feed 1 2 0

abbrev pub cleared_at_head : List ℤ
cleared_at_head = along ++ feed 9 0 0

abbrev pub cleared_inside : List ℤ
cleared_inside = along ++ feed 9 1 0

abbrev pub cleared_behind : List ℤ
cleared_behind = along ++ feed 2 9 0

-- what the checks of the liveness entries say, as one number: the refusal's number, then its list, then its item
abbrev pub says : List ℤ → ℕ
says ps = packed (liveness_lists 1 row ps [] true)

pub record StraightRow : Type 0 where
  pub accepted : says along ≡ 0
  pub each_alone : regions row along ≡ (0 ∷ []) ∷ (1 ∷ []) ∷ (2 ∷ []) ∷ []
  pub none_cyclic : cyclic row along ≡ 0 ∷ 0 ∷ 0 ∷ []

-- 7, under list 1, at item 2
pub record ClearedBlock : Type 0 where
  pub source : says cleared_at_head ≡ 7 + 256 * 1 + 65536 * 2
  pub source_inside : says cleared_inside ≡ 7 + 256 * 1 + 65536 * 2
  pub sink : says cleared_behind ≡ 7 + 256 * 1 + 65536 * 2
