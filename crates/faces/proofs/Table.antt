-- The table in constants: for each kind how many ports there are, and seven rows of role, face and channel as numbers.
-- Assumes nothing.
use mathlib.Core.Bool.{Bool, cond}
use mathlib.Core.List.{List, [], ◌∷◌}
use Prim.Native.Nat.{ℕ}
use lib.Dec.{eqb}
use lib.ListN.{get_or, set}
use Rattle.faces.specs.Ports.{face_or, North, Down}
use Rattle.faces.specs.Rows.{unused_row}

pub record Entry : Type 0 where
  pub count : ℕ
  pub rows : List (List ℕ)

abbrev pub entry : ℕ → List (List ℕ) → Entry
entry count rows = record { count = count; rows = rows }

abbrev pub row : ℕ → ℕ → ℕ → List ℕ
row role face channel = role ∷ face ∷ channel ∷ []

-- the rows with the face of place i put in
abbrev pub faced : List (List ℕ) → ℕ → ℕ → List (List ℕ)
faced rows i face = set rows i (set (get_or rows i []) 1 face)

-- ---- the entries, an open face 0

abbrev pub wire : Entry
wire = entry 7 (row 2 1 0 ∷ row 2 2 0 ∷ row 2 3 0 ∷ row 2 4 0 ∷ row 2 5 0 ∷ row 2 6 0 ∷ row 4 6 4 ∷ [])

-- by facing from 1: North, East, South, West, Up, Down
abbrev pub repeaters : List Entry
repeaters =
    entry 0 []
    ∷ entry 5 (row 1 1 0 ∷ row 0 3 0 ∷ row 3 2 0 ∷ row 3 4 0 ∷ row 4 6 4 ∷ unused_row ∷ unused_row ∷ [])
    ∷ entry 5 (row 1 2 0 ∷ row 0 4 0 ∷ row 3 1 0 ∷ row 3 3 0 ∷ row 4 6 4 ∷ unused_row ∷ unused_row ∷ [])
    ∷ entry 5 (row 1 3 0 ∷ row 0 1 0 ∷ row 3 2 0 ∷ row 3 4 0 ∷ row 4 6 4 ∷ unused_row ∷ unused_row ∷ [])
    ∷ entry 5 (row 1 4 0 ∷ row 0 2 0 ∷ row 3 1 0 ∷ row 3 3 0 ∷ row 4 6 4 ∷ unused_row ∷ unused_row ∷ [])
    ∷ entry 7 (row 1 5 0 ∷ row 0 6 0 ∷ row 3 1 0 ∷ row 3 2 0 ∷ row 3 3 0 ∷ row 3 4 0 ∷ row 4 6 4 ∷ [])
    ∷ entry 7 (row 1 6 0 ∷ row 0 5 0 ∷ row 3 1 0 ∷ row 3 2 0 ∷ row 3 3 0 ∷ row 3 4 0 ∷ row 4 6 4 ∷ [])
    ∷ []

abbrev pub repeater : ℕ → Entry
repeater facing = get_or repeaters facing (entry 0 [])

abbrev pub torch : ℕ → Entry
torch support = entry 5 (faced (row 1 1 0 ∷ row 1 2 0 ∷ row 1 3 0 ∷ row 1 4 0 ∷ row 3 0 0 ∷ unused_row ∷ unused_row ∷ []) 4 support)

abbrev pub lever : Entry
lever = entry 4 (row 1 1 2 ∷ row 1 2 2 ∷ row 1 3 2 ∷ row 1 4 2 ∷ unused_row ∷ unused_row ∷ unused_row ∷ [])

abbrev pub piston : ℕ → Entry
piston facing = entry 5 (faced (row 0 1 0 ∷ row 0 2 0 ∷ row 0 3 0 ∷ row 0 4 0 ∷ row 1 0 3 ∷ unused_row ∷ unused_row ∷ []) 4 facing)

abbrev pub none : Entry
none = entry 0 (unused_row ∷ unused_row ∷ unused_row ∷ unused_row ∷ unused_row ∷ unused_row ∷ unused_row ∷ [])

abbrev pub solid : Bool → Entry
solid conducts = cond conducts (entry 6 (row 2 1 1 ∷ row 2 2 1 ∷ row 2 3 1 ∷ row 2 4 1 ∷ row 2 5 1 ∷ row 2 6 1 ∷ unused_row ∷ [])) none

-- ---- by kind

abbrev pub entries : ℕ → ℕ → Bool → List Entry
entries facing support conducts =
    wire
    ∷ repeater facing ∷ repeater facing
    ∷ torch support
    ∷ lever ∷ lever ∷ lever ∷ lever
    ∷ piston facing
    ∷ solid conducts ∷ solid conducts ∷ solid conducts
    ∷ none ∷ []

unfoldable pub table_entry : ℕ → ℕ → ℕ → ℕ → Entry
table_entry kind facing support conducts = get_or (entries (face_or North facing) (face_or Down support) (eqb conducts 1)) kind none
