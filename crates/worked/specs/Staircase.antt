-- Steps that climb (document 02, R-2), and wires that lead up a step, on, and down again.
--     up_and_down, both_ways     the wires, and a connection each way between every two that follow each other
--     Climbs                     face and slope of steps; the rows of the ports entry, and those of the liveness entry
-- Assumes nothing: these are definitions.
use Rattle.std.specs.Prelude.{ℕ, ◌≡◌, List, [], ◌∷◌, ◌++◌, ℤ, pos, negsuc}
use Rattle.faces.specs.Step.{facing_between, slope_between}
use Rattle.scene.specs.Kept.{kept_rows, sloped_rows}
use Rattle.worked.specs.Plots.{step}

-- wires 1 to 4, at 0,0,0, 1,1,0, 2,1,0 and 3,0,0
abbrev pub wire_at : ℕ → ℕ → ℕ → List ℤ
wire_at id x y = pos id ∷ pos x ∷ pos y ∷ pos 0 ∷ pos 0 ∷ pos 0 ∷ pos 0 ∷ pos 0 ∷ []

abbrev pub up_and_down : List ℤ
up_and_down = wire_at 1 0 0 ++ wire_at 2 1 1 ++ wire_at 3 2 1 ++ wire_at 4 3 0

-- up by dust that rises (1) and back by dust that falls (2), along by Dust, and down by dust that rises: the kind does not decide
abbrev pub both_ways : List ℤ
both_ways =
    pos 1 ∷ pos 2 ∷ pos 1
    ∷ pos 2 ∷ pos 1 ∷ pos 2
    ∷ pos 2 ∷ pos 3 ∷ pos 0
    ∷ pos 3 ∷ pos 2 ∷ pos 0
    ∷ pos 3 ∷ pos 4 ∷ pos 1
    ∷ pos 4 ∷ pos 3 ∷ pos 0 ∷ []

pub record Climbs : Type 0 where
  -- Up (5) rises, Down (6) falls; two up have no face
  pub up : step (pos 0) (pos 1) (pos 0) ≡ 5 ∷ 1 ∷ []
  pub down : step (pos 0) (negsuc 0) (pos 0) ≡ 6 ∷ 2 ∷ []
  pub two_up : step (pos 0) (pos 2) (pos 0) ≡ 0 ∷ 0 ∷ []
  -- North (1) and level, rising, falling
  pub north : step (pos 0) (pos 0) (negsuc 0) ≡ 1 ∷ 0 ∷ []
  pub north_up : step (pos 0) (pos 1) (negsuc 0) ≡ 1 ∷ 1 ∷ []
  pub north_down : step (pos 0) (negsuc 0) (negsuc 0) ≡ 1 ∷ 2 ∷ []
  -- out of the highest place there is
  pub out_of_range : facing_between (pos 0) (pos 30000000) (pos 0) (pos 0) (pos 30000001) (pos 0) ≡ 0
  pub out_of_range_level : slope_between (pos 0) (pos 30000000) (pos 0) (pos 0) (pos 30000001) (pos 0) ≡ 0
  -- source, source port, sink, sink port, transfer, slope
  pub rows :
      sloped_rows 1 up_and_down both_ways
      ≡ 1 ∷ 1 ∷ 2 ∷ 3 ∷ 0 ∷ 1
      ∷ 2 ∷ 3 ∷ 1 ∷ 1 ∷ 0 ∷ 2
      ∷ 2 ∷ 1 ∷ 3 ∷ 3 ∷ 0 ∷ 0
      ∷ 3 ∷ 3 ∷ 2 ∷ 1 ∷ 0 ∷ 0
      ∷ 3 ∷ 1 ∷ 4 ∷ 3 ∷ 0 ∷ 2
      ∷ 4 ∷ 3 ∷ 3 ∷ 1 ∷ 0 ∷ 1 ∷ []
  -- and without the slope
  pub kept :
      kept_rows 1 up_and_down both_ways
      ≡ 1 ∷ 1 ∷ 2 ∷ 3 ∷ 0
      ∷ 2 ∷ 3 ∷ 1 ∷ 1 ∷ 0
      ∷ 2 ∷ 1 ∷ 3 ∷ 3 ∷ 0
      ∷ 3 ∷ 3 ∷ 2 ∷ 1 ∷ 0
      ∷ 3 ∷ 1 ∷ 4 ∷ 3 ∷ 0
      ∷ 4 ∷ 3 ∷ 3 ∷ 1 ∷ 0 ∷ []
