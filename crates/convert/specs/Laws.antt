-- The laws of the converter (document 02, R-6), of sheets that it accepts.
--     Converts     the statements
-- The theorem is `converts` of proofs/Converts.antt. No contract rests on it.
-- Assumes nothing: these are statements.
use Rattle.std.specs.Prelude.{ℕ, ◌≡◌, List, ◌++◌, ℤ, Ok}
use Rattle.forms.specs.Sheet.{Sheet}
use Rattle.forms.specs.Writing.{rules_line}
use Rattle.forms.specs.Converter.{other, plain}
use Rattle.forms.specs.declared.Style.{Style}
use Rattle.convert.specs.Entry.{parsed_by, converted}

-- both texts say the same rules and lists, in one form and in the other
pub record SaysTheSame (text result : List ℕ) : Type 0 where
  pub style : Style
  pub rules : ℕ
  pub components : List ℤ
  pub connections : List ℤ
  pub frontiers : List ℤ
  pub from : parsed_by text ≡ Sheet style rules components connections frontiers
  pub to : parsed_by result ≡ Sheet (other style) rules components connections frontiers

pub record Converts : Type 0 where
  pub same : (text result : List ℕ) → converted text ≡ Ok result → SaysTheSame text result
  -- there and back yields the sheet's own bytes, less a spelled-out `rules=1`
  pub back : (text result : List ℕ) → converted text ≡ Ok result → converted result ≡ Ok (plain text)
  -- which an old sheet alone can have: any other sheet loses no byte
  pub own : (text result : List ℕ) → converted text ≡ Ok result → (plain text ≡ text → ⊥) → text ≡ rules_line 1 ++ plain text
