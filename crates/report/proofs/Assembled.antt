-- The text by the rows that were gathered is the report.
--     whole_is                         by the definitions' rows
--     rows_long, component_count_lem, region_pairs     how many numbers the rows have
--     assembled                        by what grouping, port selection and the analysis left
-- Assumes nothing.
use Rattle.blocks.specs.declared.Block.{Block}
use Rattle.std.specs.Prelude.{None}
use mathlib.Core.Path.{◌≡◌, refl, ap, subst, ◌∙◌}
use mathlib.Core.List.{List, ◌++◌, append_assoc}
use Prim.Native.Nat.{ℕ, zero, suc, ◌*◌}
use native.Mathlib.Omega.{arith}
use lib.ListN.{length, length-append}
use lib.IntN.{ℤ, pos}
use Rattle.lists.specs.Records.{component_count}
use Rattle.lists.specs.Ids.{first_repeated}
use Rattle.lines.specs.Text.{ascii}
use Rattle.lines.specs.Decimal.{line_of}
use Rattle.scene.specs.Kept.{sloped_rows}
use Rattle.signals.specs.Regions.{region_count}
use Rattle.assessment.specs.Verdicts.{source_rows, input_rows}
use Rattle.liveness.specs.declared.Analysis.{Analysis}
use Rattle.blocks.specs.Blocks.{block_text}
use Rattle.report.specs.Report.{all_rows, kept_list, component_rows, region_rows, input_block, unread_ids, unread_block, report_of}
use Rattle.report.specs.Printing.{component_row_by, region_row_by, inputs_text, whole_text, Gathered, Analyzed}
use Rattle.report.proofs.Shown.{component_rows_lem, region_rows_lem}
use Rattle.report.proofs.VerdictText.{rows_lines}

-- ---- the text

-- six texts one after the other
in_order : (a b c d e f : List ℕ) → (a ++ (b ++ (c ++ (d ++ e)))) ++ f ≡ a ++ (b ++ (c ++ (d ++ (e ++ f))))
in_order a b c d e f =
    append_assoc a (b ++ (c ++ (d ++ e))) f
    ∙ ap (λ (t : List ℕ). a ++ t)
    (append_assoc b (c ++ (d ++ e)) f
    ∙ ap (λ (t : List ℕ). b ++ t) (append_assoc c (d ++ e) f ∙ ap (λ (t : List ℕ). c ++ t) (append_assoc d e f)))

inputs_is : (rules : ℕ) (cs kept fs : List ℤ) → first_repeated cs ≡ None → inputs_text rules cs kept fs (input_rows rules cs kept fs) ≡ input_block rules cs kept fs
inputs_is rules cs kept fs once = rw (rows_lines rules cs kept fs once)

pub whole_is : (rules : ℕ) (cs ps fs : List ℤ) → first_repeated cs ≡ None
    → whole_text rules cs (kept_list rules cs ps) fs (component_rows rules cs ps fs (component_count cs)) (sloped_rows rules cs ps)
    (region_rows rules cs ps fs (region_count cs (kept_list rules cs ps))) (source_rows rules cs (kept_list rules cs ps) fs) (input_rows rules cs (kept_list rules cs ps) fs)
    (unread_ids rules cs (component_count cs))
    ≡ report_of rules cs ps fs
unfolding report_of
whole_is rules cs ps fs once =
    let components = block_text Block.Components (component_rows rules cs ps fs (component_count cs)) in
    let kept = block_text Block.Connections (sloped_rows rules cs ps) in
    let regions = block_text Block.Regions (region_rows rules cs ps fs (region_count cs (kept_list rules cs ps))) in
    let sources = block_text Block.Sources (source_rows rules cs (kept_list rules cs ps) fs) in
    in_order (line_of (ascii "answer") (pos 0)) components kept regions sources
    (inputs_text rules cs (kept_list rules cs ps) fs (input_rows rules cs (kept_list rules cs ps) fs) ++ unread_block rules cs)
    ∙ ap (λ (t : List ℕ). line_of (ascii "answer") (pos 0) ++ (components ++ (kept ++ (regions ++ (sources ++ (t ++ unread_block rules cs))))))
    (inputs_is rules cs (kept_list rules cs ps) fs once)

-- ---- how many numbers

pub rows_long : (row : ℕ → List ℕ) (w n : ℕ) → ((p : ℕ) → length (row p) ≡ w) → length (all_rows row n) ≡ w * n
unfolding all_rows
rows_long row w zero each = omega arith
rows_long row w (suc n) each = length-append (all_rows row n) (row n) ∙ omega (arith, rows_long row w n each, each n)

pub component_count_lem : (cs : List ℤ) (nets fragments regions drive potential : List ℕ) (n : ℕ)
    → length (all_rows (component_row_by cs nets fragments regions drive potential) n) ≡ 6 * n
component_count_lem cs nets fragments regions drive potential n = rows_long (component_row_by cs nets fragments regions drive potential) 6 n (λ p. refl)

pub region_pairs : (cyclic drive : List ℕ) (n : ℕ) → length (all_rows (region_row_by cyclic drive) n) ≡ 2 * n
region_pairs cyclic drive n = rows_long (region_row_by cyclic drive) 2 n (λ p. refl)

-- ---- by what was left

-- rows that are the same have the same text
same_text : (rules : ℕ) (cs fs : List ℤ) {kept kept' : List ℤ} {a a' b b' c c' d d' e e' f f' : List ℕ}
    → kept ≡ kept' → a ≡ a' → b ≡ b' → c ≡ c' → d ≡ d' → e ≡ e' → f ≡ f'
    → whole_text rules cs kept fs a b c d e f ≡ whole_text rules cs kept' fs a' b' c' d' e' f'
same_text rules cs fs k a b c d e f = rw (k, a, b, c, d, e, f)

components_are : (rules : ℕ) (cs ps fs : List ℤ) {nets fragments slopes regions sources inputs : List ℕ} {r : Analysis}
    → Gathered rules cs ps (kept_list rules cs ps) nets fragments slopes → Analyzed rules cs (kept_list rules cs ps) fs regions sources inputs r
    → all_rows (component_row_by cs nets fragments regions r.drive.words r.potential.words) (component_count cs) ≡ component_rows rules cs ps fs (component_count cs)
components_are rules cs ps fs g a =
    rw (g.nets_are, g.fragments_are, a.regions_are)
    (component_rows_lem rules cs ps fs g.nets_old g.fragments_old a.regions_old a.drive_set a.potential_set)

regions_are : (rules : ℕ) (cs ps fs : List ℤ) {regions sources inputs : List ℕ} {r : Analysis} → Analyzed rules cs (kept_list rules cs ps) fs regions sources inputs r
    → all_rows (region_row_by r.cyclic.words r.has_drive.words) r.regions ≡ region_rows rules cs ps fs (region_count cs (kept_list rules cs ps))
regions_are rules cs ps fs {r = r} a =
    ap (all_rows (region_row_by r.cyclic.words r.has_drive.words)) a.region_count_lem ∙ region_rows_lem rules cs ps fs a.cyclic_set a.has_drive_set

module _ (rules : ℕ) (cs ps fs : List ℤ) {kept : List ℤ} {nets fragments slopes regions sources inputs : List ℕ} {r : Analysis} where
  pub assembled : {rows connections marks ids : List ℕ} → first_repeated cs ≡ None → Gathered rules cs ps kept nets fragments slopes → Analyzed rules cs kept fs regions sources inputs r
      → rows ≡ all_rows (component_row_by cs nets fragments regions r.drive.words r.potential.words) (component_count cs)
      → connections ≡ sloped_rows rules cs ps
      → marks ≡ all_rows (region_row_by r.cyclic.words r.has_drive.words) r.regions
      → ids ≡ unread_ids rules cs (component_count cs)
      → whole_text rules cs kept fs rows connections marks sources inputs ids ≡ report_of rules cs ps fs
  assembled once g a e f h i =
      let g' = subst (λ (k : List ℤ). Gathered rules cs ps k nets fragments slopes) g.kept_are g in
      let a' = subst (λ (k : List ℤ). Analyzed rules cs k fs regions sources inputs r) g.kept_are a in
      same_text rules cs fs g.kept_are (e ∙ components_are rules cs ps fs g' a') f (h ∙ regions_are rules cs ps fs a') a'.sources_are a'.inputs_are i
      ∙ whole_is rules cs ps fs once
