-- Forms as the code holds them, field by field. Assumes nothing.
--     fields_turn, fields_none     the fields from one on
--     field_ends                   the number of each ends
--     lines_turn, lines_rest       the lines of the fields before one
use Prim.Native.Nat.{ℕ, zero, suc, ◌+◌, ◌≤◌, ◌<◌}
use native.Mathlib.Numerals.{add-one}
use native.Mathlib.Omega.{arith}
use mathlib.Core.Path.{◌≡◌, refl, sym, subst, ◌∙◌}
use mathlib.Core.Bool.{Bool, true, false, cond, false≢true}
use mathlib.Core.List.{List, [], ◌∷◌}
use lib.Dec.{eqb}
use mir.Val.{bool_byte}
use lib.ListN.{length, get_or, take, drop, get_or-map, drop_of_length-le}
use lib.Seq.{drop-cons, take-suc}
use Rattle.std.proofs.lemmas.List.{length-map, map-append, take-append-drop}
use Rattle.forms.specs.Numbers.{Ends}
use Rattle.forms.specs.Form.{Field, lines_of, form_test, AllEnd}
use Rattle.forms.specs.Places.{field_of, fields_of}
use Rattle.forms.specs.declared.Field as code
use Rattle.forms.proofs.Grammar.{append_lines, form_ends}

-- the number of each field of a list ends
all_ends : (fs : List Field) (k : ℕ) (d : Field) → AllEnd fs → k < length fs → Ends (get_or fs k d).ending
unfolding AllEnd
all_ends [] k d e h = absurd (omega arith)
all_ends (f ∷ fs) zero d e h = e.0
all_ends (f ∷ fs) (suc k) d e h = all_ends fs k d e.1 (omega arith)

-- the lines of the fields before one, and of those from it on, are all
pub lines_rest : (form : List code.Field) (k : ℕ) → lines_of (fields_of (take k form)) + lines_of (fields_of (drop k form)) ≡ lines_of (fields_of form)
lines_rest form k = sym (append_lines (fields_of (take k form)) (fields_of (drop k form))) ∙ rw (← map-append, take-append-drop)

one_line : (f : Field) → lines_of (f ∷ []) ≡ cond (eqb f.ending 10) 1 0
unfolding lines_of
one_line f = refl

module _ (form : List code.Field) (k : ℕ) (d : code.Field) (h : k < length form) where
  pub fields_turn : fields_of (drop k form) ≡ field_of (get_or form k d) ∷ fields_of (drop (k + 1) form)
  fields_turn = rw (drop-cons form k d h, add-one)

  pub field_ends : form_test (fields_of form) ≡ true → Ends (get_or form k d).1
  field_ends e =
      let l : k < length (fields_of form) = rw length-map h in
      subst (λ (f : Field). Ends f.ending) (get_or-map field_of form k d) (all_ends (fields_of form) k (field_of d) (form_ends (fields_of form) e) l)

  pub lines_turn : lines_of (fields_of (take (k + 1) form)) ≡ lines_of (fields_of (take k form)) + cond (eqb (get_or form k d).1 10) 1 0
  lines_turn = rw (add-one, take-suc form k d h, map-append, append_lines, one_line)

-- a byte from a test, added
pub line_added : (b : Bool) (lines k : ℕ) → lines ≤ k → (lines + bool_byte b ≤ k + 1) × (lines + bool_byte b ≡ lines + cond b 1 0)
line_added true lines k h = (omega arith, refl)
line_added false lines k h = (omega arith, refl)

-- a form has a field
pub form_some : (form : List code.Field) → form_test (fields_of form) ≡ true → 0 < length form
unfolding form_test
form_some [] e = absurd (false≢true e)
form_some (f ∷ fs) e = omega arith

pub fields_none : (form : List code.Field) (k : ℕ) → length form ≤ k → fields_of (drop k form) ≡ []
fields_none form k h = rw (drop_of_length-le form h)
