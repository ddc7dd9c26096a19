-- The lines of a block's rows, a line at a time.
--     fields_one, fields_none     line k and the lines after it; none
--     input_lines_lem                 the lines of a verdict row, one behind the other
-- Assumes nothing.
use mathlib.Core.Path.{◌≡◌, ap, ◌∙◌}
use mathlib.Core.List.{List, [], ◌++◌, map, append_assoc}
use Prim.Native.Nat.{ℕ, suc, ◌≤◌, ◌<◌}
use lib.IntN.{pos}
use lib.ListN.{length, get_or, drop, drop_of_length-le}
use lib.Seq.{drop-cons}
use Rattle.lines.specs.Text.{ascii}
use Rattle.lines.specs.Decimal.{line_of}
use Rattle.blocks.specs.Lines.{field_key, field_lines, set_line, input_text}
use Rattle.blocks.specs.declared.Block.{Block}
use Rattle.blocks.specs.Blocks.{block_keys}

-- the lines of a block from line k on
abbrev pub lines_from : Block → List ℕ → ℕ → List ℕ
lines_from block rows k = field_lines (block_keys block) k (map pos (drop k rows))

-- line k
abbrev pub line_at : Block → List ℕ → ℕ → List ℕ
line_at block rows k = line_of (field_key (block_keys block) k) (pos (get_or rows k 0))

module _ (block : Block) (rows : List ℕ) (k : ℕ) where
  pub fields_one : k < length rows → lines_from block rows k ≡ line_at block rows k ++ lines_from block rows (suc k)
  unfolding field_lines
  fields_one h = rw (drop-cons rows k 0 h)

  pub fields_none : length rows ≤ k → lines_from block rows k ≡ []
  unfolding field_lines
  fields_none h = rw (drop_of_length-le rows h)

-- ---- a verdict row

-- line k of its numbers
abbrev pub row_line : ℕ → ℕ → List ℕ
row_line k value = line_of (field_key (block_keys Block.Inputs) k) (pos value)

pub input_lines_lem : (device port status : ℕ) (immediate inferred : List ℕ) → input_text device port status immediate inferred
    ≡ row_line 0 device ++ (row_line 1 port ++ (row_line 2 status ++ (set_line (ascii "immediate") immediate ++ set_line (ascii "inferred") inferred)))
unfolding field_lines
input_lines_lem device port status immediate inferred =
    let sets : List ℕ = set_line (ascii "immediate") immediate ++ set_line (ascii "inferred") inferred in
    append_assoc (row_line 0 device) (row_line 1 port ++ (row_line 2 status ++ [])) sets
    ∙ ap (λ (t : List ℕ). row_line 0 device ++ t)
    (append_assoc (row_line 1 port) (row_line 2 status ++ []) sets
    ∙ ap (λ (t : List ℕ). row_line 1 port ++ t) (append_assoc (row_line 2 status) [] sets))
