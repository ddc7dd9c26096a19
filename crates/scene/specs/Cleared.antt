-- The founding case by reasons: a row of wires 1, 2, 3, 5 whose block 4 was cleared, and the connections that were saved with it; and a
-- plot whose connections have each number once.
--     ClearedRow     "3 to 4: there is no block 4"
--     EachNumber     0 to 7
-- Assumes nothing: these are definitions.
use Rattle.std.specs.Prelude.{ℕ, ◌≡◌, List, [], ◌∷◌, ◌++◌, ℤ, pos}
use Rattle.scene.specs.Kept.{kept_rows}
use Rattle.scene.specs.Reasons.{reasons_of}

-- a block at a place of a row, by its kind and its facing
abbrev pub block_at : ℕ → ℕ → ℕ → ℕ → List ℤ
block_at id x kind facing = pos id ∷ pos x ∷ pos 0 ∷ pos 0 ∷ pos kind ∷ pos facing ∷ pos 0 ∷ pos 0 ∷ []

abbrev pub wire_at : ℕ → ℕ → List ℤ
wire_at id x = block_at id x 0 0

abbrev pub connect : ℕ → ℕ → ℕ → List ℤ
connect source sink kind = pos source ∷ pos sink ∷ pos kind ∷ []

-- ---- the founding case

abbrev pub row : List ℤ
row = wire_at 1 1 ++ wire_at 2 2 ++ wire_at 3 3 ++ wire_at 5 5

abbrev pub along : List ℤ
along = connect 1 2 0 ++ connect 2 3 0 ++ connect 3 4 0 ++ connect 4 5 0

-- 3 to 4 has no sink, 4 to 5 no source; the other two are kept
pub record ClearedRow : Type 0 where
  pub reasons : reasons_of 1 row along ≡ 0 ∷ 0 ∷ 2 ∷ 1 ∷ []
  pub kept : kept_rows 1 row along ≡ 1 ∷ 1 ∷ 2 ∷ 3 ∷ 0 ∷ 2 ∷ 1 ∷ 3 ∷ 3 ∷ 0 ∷ []

-- ---- each number

-- wires 1, 2, 3, then repeater 5 that faces East, wire 6, and far off wire 7
abbrev pub plot : List ℤ
plot = wire_at 1 1 ++ wire_at 2 2 ++ wire_at 3 3 ++ block_at 5 4 1 2 ++ wire_at 6 5 ++ wire_at 7 20

abbrev pub saved : List ℤ
saved =
    connect 1 2 0  -- kept
    ++ connect 9 1 0 ++ connect 1 9 0 ++ connect 8 9 0  -- there are no blocks 8 and 9
    ++ connect 1 7 0  -- wire 7 is far from wire 1
    ++ connect 5 3 6 ++ connect 6 5 5  -- out of the repeater at its input, into it at its output
    ++ connect 1 2 9  -- support

pub record EachNumber : Type 0 where
  pub reasons : reasons_of 1 plot saved ≡ 0 ∷ 1 ∷ 2 ∷ 3 ∷ 4 ∷ 5 ∷ 6 ∷ 7 ∷ []
