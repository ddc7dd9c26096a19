-- Two rows of the square are equal lists exactly if they are equal in each column.
--     part_at      the places of a row that is lent
--     copied       the same of a copy
--     compared     what `==` says of two rows
-- Assumes nothing.
use mathlib.Core.Path.{◌≡◌, sym, ap, ◌∙◌}
use mathlib.Core.Bool.{Bool, true}
use mathlib.Core.List.{List, ◌++◌}
use mathlib.Core.Logic.{◌↔◌}
use Prim.Native.Nat.{ℕ, ◌+◌, ◌*◌, ◌<◌}
use native.Mathlib.Omega.{arith}
use lib.ListN.{length, get_or, get_or-append}
use lib.Seq.{ext_get_or}
use Rattle.std.specs.List.{between}
use Rattle.std.proofs.lemmas.List.Edits.{length-between, get_or-between}
use Rattle.regions.specs.Graph.{Edges}
use Rattle.reach_table.specs.Table.{bit, is_same_row}
use Rattle.reach_table.specs.Square.{Holds, Compared}
use Rattle.reach_table.proofs.Cells.{row_low}
use Rattle.reach_table.proofs.Rows.{bit_inj, row_parts, row_of, equal_tests}

module _ {n : ℕ} (square : List ℕ) (long : length square ≡ n * n) (a : ℕ) (ha : a < n) where
  pub part_long : length (between (a * n) (a * n + n) square) ≡ n
  part_long = length-between square (a * n) (a * n + n) (omega (arith, row_low n a ha)) ∙ omega arith

  pub part_at : (c : ℕ) → c < n → get_or (between (a * n) (a * n + n) square) c 0 ≡ get_or square (a * n + c) 0
  part_at c hc = get_or-between square (a * n) (a * n + n) c 0 (omega arith)

-- a row that is copied to the front of an array
pub copied : {n : ℕ} (square : List ℕ) → length square ≡ n * n → (a : ℕ) → a < n → (part rest : List ℕ) → part ≡ between (a * n) (a * n + n) square
    → (c : ℕ) → c < n → get_or (part ++ rest) c 0 ≡ get_or square (a * n + c) 0
copied {n} square long a ha part rest e c hc =
    get_or-append part rest 0 c (omega (arith, ap length e, part_long square long a ha)) ∙ ap (λ l. get_or l c 0) e ∙ part_at square long a ha c hc

pub compared : {n : ℕ} (square : List ℕ) (a b : ℕ) → length square ≡ n * n → a < n → b < n → (r : Bool)
    → (r ≡ true) ↔ (between (a * n) (a * n + n) square ≡ between (b * n) (b * n + n) square) → Compared n square a b r
compared {n} square a b long ha hb r d = record { same = λ t h. equal_tests r (is_same_row n t a b) (to t h) (from t h) }
  where
    to : (t : Edges) → Holds n t square → r ≡ true → is_same_row n t a b ≡ true
    to t h e = row_of n t a b (λ c hc. bit_inj (t a c) (t b c) (
        sym (h.at a c ha hc) ∙ sym (part_at square long a ha c hc)
        ∙ ap (λ l. get_or l c 0) (d.0 e)
        ∙ part_at square long b hb c hc ∙ h.at b c hb hc))

    from : (t : Edges) → Holds n t square → is_same_row n t a b ≡ true → r ≡ true
    from t h e = d.1 (ext_get_or 0 _ _ (part_long square long a ha ∙ sym (part_long square long b hb)) (λ c l.
        let hc : c < n = omega (arith, part_long square long a ha) in
        part_at square long a ha c hc ∙ h.at a c ha hc ∙ ap bit (row_parts n t a b e c hc) ∙ sym (h.at b c hb hc) ∙ sym (part_at square long b hb c hc)))
