-- A valid sheet in the short form, within the program's counts, is never too long for the program (`short_fits`). Assumes nothing.
use Prim.Native.Nat.{ℕ, ◌+◌, ◌≤◌}
use native.Mathlib.Omega.{arith}
use mathlib.Core.Path.{◌≡◌, refl, sym, subst, ◌∙◌}
use mathlib.Core.Bool.{true}
use mathlib.Core.List.{List, ◌++◌}
use lib.IntN.{ℤ, pos}
use lib.ListN.{length, length-append}
use borrow.Author.Tests.{le-leb}
use Rattle.std.specs.Prelude.{Ok}
use Rattle.lines.specs.Text.{ascii}
use Rattle.lines.specs.Decimal.{line_of}
use Rattle.lists.specs.declared.Section.TheVariants.{Components, Connections, Frontiers}
use Rattle.lists.specs.Limits.{connection_width}
use Rattle.lists.specs.Rules.{rules_limit}
use Rattle.lists.specs.Ranges.{first_out_of_range, connection_low, connection_high}
use Rattle.checks.specs.Refusals.{sheet_refusal, scene_lists}
use Rattle.checks.proofs.Accepts.{Ranged, scene_accept, grouping_parts}
use Rattle.checks.proofs.Chain.{both_accept}
use Rattle.forms.specs.declared.Style.{Style}
use Rattle.forms.specs.declared.Style.TheVariants.{Old, Short}
use Rattle.forms.specs.Sheet.{Sheet}
use Rattle.forms.specs.Writing.{rules_line, head_text, list_text, lists_text, sheet_text, WithinLimits, Known}
use Rattle.forms.proofs.Sheets.{SheetIs, written, spelled, parse_sound}
use Rattle.forms.proofs.ShortSizes.{line_sized, components_sized, connections_sized, frontiers_sized}
use Rattle.plotreport.specs.Program.{components, connections, frontiers, parsed_by}
use Rattle.plotreport.specs.Fits.{longest_short_sheet, ShortFits}

-- ---- the parts

-- the list checks accept: each list is in its ranges
sheet_ranged : (rules : ℕ) (cs ps fs : List ℤ) → sheet_refusal rules cs ps fs ≡ Ok tt → Ranged cs (first_out_of_range connection_low connection_high ps) fs
sheet_ranged rules cs ps fs e =
    let parts = both_accept (scene_lists rules cs connection_width (length ps) (first_out_of_range connection_low connection_high ps) fs true) _ (grouping_parts rules cs ps fs true ∙ e) in
    (scene_accept rules cs connection_width (length ps) _ fs true parts.0).ranges

-- a short sheet is never spelled otherwise
short_written : (style : Style) (rules : ℕ) (cs ps fs : List ℤ) (text : List ℕ) → style ≡ Short → SheetIs style rules cs ps fs text → text ≡ sheet_text style rules cs ps fs
short_written style rules cs ps fs text s (written e) = e
short_written style rules cs ps fs text s (spelled o n e) = let z : Old ≡ Short = sym o ∙ s in cc

head_few : (rules : ℕ) → Known rules_limit rules → length (head_text Short rules) ≤ 16
unfolding head_text
head_few rules k =
    omega (arith, length-append (line_of (ascii "sheet") (pos 2)) (rules_line rules), line_sized (ascii "sheet") 0 2 (omega arith), line_sized (ascii "rules") 0 rules (omega (arith, k.largest)))

-- ---- the sheet

module _ (rules : ℕ) (cs ps fs : List ℤ) where
  sheet_few : Known rules_limit rules → WithinLimits components connections frontiers Short cs ps fs
      → Ranged cs (first_out_of_range connection_low connection_high ps) fs → length (sheet_text Short rules cs ps fs) ≤ longest_short_sheet
  unfolding lists_text
  sheet_few k w r =
      let a = head_text Short rules in
      let b = list_text Short Components cs in
      let c = list_text Short Connections ps in
      let d = list_text Short Frontiers fs in
      let sizes : length (a ++ (b ++ (c ++ d))) ≡ length a + length b + length c + length d = omega (arith, length-append a (b ++ (c ++ d)), length-append b (c ++ d), length-append c d) in
      let first = components_sized 2 cs (omega (arith, w.of_components.few)) r.components in
      let second = connections_sized 3 ps (omega (arith, w.of_connections.few)) r.connections in
      let third = frontiers_sized 2 fs (omega (arith, w.of_frontiers.few)) r.frontiers in
      omega (arith, sizes, head_few rules k, first, second, third, w.of_components.few, w.of_connections.few, w.of_frontiers.few)

few : (text : List ℕ) (rules : ℕ) (cs ps fs : List ℤ) → parsed_by text ≡ Sheet Short rules cs ps fs → sheet_refusal rules cs ps fs ≡ Ok tt → length text ≤ longest_short_sheet
few text rules cs ps fs e a =
    let (k, w, i) = parse_sound rules_limit components connections frontiers (omega arith) (omega arith) text Short rules cs ps fs e in
    subst (λ (t : List ℕ). length t ≤ longest_short_sheet) (sym (short_written Short rules cs ps fs text refl i)) (sheet_few rules cs ps fs k w (sheet_ranged rules cs ps fs a))

pub short_fits : ShortFits
short_fits = record {
  bytes = few;
  never_too_long = λ text rules cs ps fs e a. let l = few text rules cs ps fs e a in rw (le-leb (length text) 65536 (omega arith));
}
