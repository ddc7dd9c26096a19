-- The laws of the converter: those of its definition, which hold for any list check.
-- Assumes nothing.
use native.Mathlib.Omega.{arith}
use mathlib.Core.Path.{◌≡◌, sym, ap, ◌∙◌}
use mathlib.Core.List.{List, ◌++◌}
use Prim.Native.Nat.{ℕ, ◌≤◌}
use lib.IntN.{ℤ}
use Rattle.std.specs.Prelude.{Ok}
use Rattle.checks.specs.Refusals.{sheet_refusal}
use Rattle.lists.specs.Limits.{component_limit, connection_limit, frontier_limit}
use Rattle.lists.specs.Rules.{rules_limit}
use Rattle.forms.specs.Writing.{rules_line}
use Rattle.forms.specs.Converter.{plain}
use Rattle.forms.specs.declared.Style.{Style}
use Rattle.forms.proofs.Sheets.{SheetIs, written, spelled, parse_sound}
use Rattle.forms.proofs.Converter.{convert_says, there_and_back, plain_written, plain_spelled}
use Rattle.convert.specs.Entry.{converted}
use Rattle.convert.specs.Laws.{SaysTheSame, Converts}

same : (text result : List ℕ) → converted text ≡ Ok result → SaysTheSame text result
same text result e =
    let (style, rules, cs, ps, fs, said) = convert_says rules_limit component_limit connection_limit frontier_limit (omega arith) (omega arith) sheet_refusal text result e in
    record { style = style; rules = rules; components = cs; connections = ps; frontiers = fs; from = said.from; to = said.to }

-- as it is written, a sheet loses nothing; else it spells out `rules=1`
plain_or : (style : Style) (rules : ℕ) (cs ps fs : List ℤ) (text : List ℕ) → rules ≤ 4294967295 → SheetIs style rules cs ps fs text
    → (plain text ≡ text → ⊥) → text ≡ rules_line 1 ++ plain text
plain_or style rules cs ps fs text few (written e) lost = absurd (lost (ap plain e ∙ plain_written style rules cs ps fs few ∙ sym e))
plain_or style rules cs ps fs text few (spelled o n e) lost = e ∙ ap (λ (s : List ℕ). rules_line 1 ++ s) (sym (ap plain e ∙ plain_spelled _))

own : (text result : List ℕ) → converted text ≡ Ok result → (plain text ≡ text → ⊥) → text ≡ rules_line 1 ++ plain text
own text result e lost =
    let (style, rules, cs, ps, fs, said) = convert_says rules_limit component_limit connection_limit frontier_limit (omega arith) (omega arith) sheet_refusal text result e in
    let (known, within, is) = parse_sound rules_limit component_limit connection_limit frontier_limit (omega arith) (omega arith) text style rules cs ps fs said.from in
    plain_or style rules cs ps fs text (omega (arith, known.largest)) is lost

pub converts : Converts
converts = record {
  same = same;
  back = λ text result e. there_and_back rules_limit component_limit connection_limit frontier_limit (omega arith) (omega arith) sheet_refusal text result e;
  own = own;
}
