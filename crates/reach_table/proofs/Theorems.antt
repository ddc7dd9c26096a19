-- The theorems that specs/Theorems.antt states.
-- Assumes nothing.
use mathlib.Core.Path.{◌≡◌}
use mathlib.Core.Bool.{true}
use mathlib.Core.Logic.{◌↔◌}
use Prim.Native.Nat.{ℕ, zero, ◌<◌, zero-le}
use native.Mathlib.Omega.{arith}
use Rattle.regions.specs.Graph.{Edges, Within, range, Reach, Both}
use Rattle.regions.proofs.Laws.Lists.{mem-∈, range-∈}
use Rattle.regions.proofs.Theorems.{region_laws}
use Rattle.reach_table.specs.Table.{filled, is_same_row}
use Rattle.reach_table.specs.Theorems.{TableLaws}
use Rattle.reach_table.proofs.Warshall.{table_after, table_reaches}
use Rattle.reach_table.proofs.Rows.{rows_both, equal_tests}
use Rattle.reach_table.proofs.Numbering.{numbers_same}

module _ (n : ℕ) (edge : Edges) (within : Within n edge) where
  filled_reaches : (a b : ℕ) → (filled n edge a b ≡ true) ↔ Reach edge a b
  filled_reaches = table_reaches edge (range zero n) within (λ x h. range-∈ x zero n zero-le (omega arith))

  filled_rows : (a b : ℕ) → a < n → b < n → (is_same_row n (filled n edge) a b ≡ true) ↔ Both edge a b
  filled_rows = rows_both n edge (filled n edge) filled_reaches

  pub table_laws : TableLaws n edge
  table_laws =
      record {
        after = table_after edge;
        reaches = filled_reaches;
        any_order = λ middles all a b.
            let r = table_reaches edge middles within (λ x h. mem-∈ x middles (all x h)) a b in
            equal_tests _ _ (λ e. (filled_reaches a b).1 (r.0 e)) (λ e. r.1 ((filled_reaches a b).0 e));
        rows = filled_rows;
        classes = λ a b ha hb. (
          λ e. ((region_laws n edge within).same a b ha hb).1 ((filled_rows a b ha hb).0 e),
          λ e. (filled_rows a b ha hb).1 (((region_laws n edge within).same a b ha hb).0 e),
        );
        same_numbers = numbers_same n edge (is_same_row n (filled n edge)) within filled_rows;
      }
