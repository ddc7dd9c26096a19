-- What the converter leaves of a sheet that was read.
--     said_written     a sheet whose lists were checked, and which was then written
--     left             the entry on a sheet that was read
-- Assumes nothing.
use Rattle.std.specs.Prelude.{⊤, Result, Ok, Err}
use mathlib.Core.Path.{◌≡◌}
use mathlib.Core.List.{List}
use Prim.Native.Nat.{ℕ}
use lib.IntN.{ℤ, pos}
use lib.ListN.{length, replicate}
use Rattle.lists.specs.declared.Refusal.{Refusal}
use Rattle.checks.specs.Refusals.{sheet_refusal, ◌or_else◌}
use Rattle.checks.proofs.Chain.{refused_not}
use Rattle.forms.specs.declared.Style.{Style}
use Rattle.forms.specs.Sheet.{Parsed, Sheet, Faulty}
use Rattle.forms.specs.Writing.{sheet_text}
use Rattle.forms.specs.Converter.{other, unless, turned}
use Rattle.sheet.specs.Entry.{style_of, rules_of, components_of, connections_of, frontiers_of, sheet_checked}
use Rattle.sheet.specs.Written.{fits, PrintedBy}
use Rattle.convert.specs.Entry.{parsed_by, text_of, converted_fits, SheetConverted}

-- checked, and then written where it fits
abbrev pub Checked : Style → ℕ → List ℤ → List ℤ → List ℤ → List ℕ → List ℕ → Result ℕ Refusal → Type 0
Checked style rules cs ps fs out out' r =
    let text = sheet_text style rules cs ps fs in
    PrintedBy (sheet_refusal rules cs ps fs or_else fits text (length out)) text out out' r

by_check : (check : Result ⊤ Refusal) (text : List ℕ) {out out' : List ℕ} {r : Result ℕ Refusal}
    → PrintedBy (check or_else fits text (length out)) text out out' r
    → PrintedBy (converted_fits (unless check text) (length out)) (text_of (unless check text)) out out' r
by_check (Ok tt) text w = w
by_check (Err e) text w = record { answer = w.answer; numbers = w.numbers; left = w.left }

said_written : (p : Parsed) (a b c : ℕ) {out out' : List ℕ} {r : Result ℕ Refusal} → sheet_checked p a b c ≡ Ok tt
    → Checked (other (style_of p)) (rules_of p) (components_of p) (connections_of p) (frontiers_of p) out out' r
    → PrintedBy (sheet_checked p a b c or_else converted_fits (turned sheet_refusal p) (length out)) (text_of (turned sheet_refusal p)) out out' r
said_written (Sheet style rules cs ps fs) a b c good w =
    let v = by_check (sheet_refusal rules cs ps fs) (sheet_text (other style) rules cs ps fs) w in
    record { answer = rw good v.answer; numbers = rw good v.numbers; left = rw good v.left }
said_written (Faulty e) a b c good w = absurd (refused_not good)

-- the same lists are written
same_written : {style style' form : Style} {rules rules' : ℕ} {cs cs' ps ps' fs fs' : List ℤ} {out out' : List ℕ} {r : Result ℕ Refusal}
    → form ≡ other style → style ≡ style' → rules ≡ rules' → cs ≡ cs' → ps ≡ ps' → fs ≡ fs'
    → Checked form rules cs ps fs out out' r → Checked (other style') rules' cs' ps' fs' out out' r
same_written e h d f g i w = rw (e, h, d, f, g, i) at w

-- the work lists were cleared after the lists at their fronts were written
pub left : (text : List ℕ) {a a' b b' c c' cs ps fs : List ℤ} {style form : Style} {rules i j k : ℕ} {out out' : List ℕ} {r : Result ℕ Refusal}
    → let p = parsed_by text in sheet_checked p (length a) (length b) (length c) ≡ Ok tt
    → form ≡ other style → style ≡ style_of p → rules ≡ rules_of p → cs ≡ components_of p → ps ≡ connections_of p → fs ≡ frontiers_of p
    → Checked form rules cs ps fs out out' r
    → i ≡ length a → a' ≡ replicate i (pos 0)
    → j ≡ length b → b' ≡ replicate j (pos 0)
    → k ≡ length c → c' ≡ replicate k (pos 0)
    → SheetConverted text a a' b b' c c' out out' r
left text {a = a} {b = b} {c = c} good form said ruled e f g q i u j v k w = record {
  written = said_written (parsed_by text) (length a) (length b) (length c) good (same_written form said ruled e f g q);
  components_left = rw good (rw i at u);
  connections_left = rw good (rw j at v);
  frontiers_left = rw good (rw k at w);
}
