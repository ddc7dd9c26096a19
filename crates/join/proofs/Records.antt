-- The text of records, one record after the other.
--     fields_front             fields read the front of what they are given
--     text_turn, text_none     the first record, and those behind it
--     text_start               the records of a merge from its start
--     stepped, step_text, no_text     what a step of it writes
-- Assumes nothing.
use Prim.Native.Nat.{ℕ, ◌/◌, ◌≤◌, ◌<◌}
use native.Mathlib.Omega.{arith}
use mathlib.Core.Path.{◌≡◌, refl, sym, ap, ◌∙◌, subst}
use mathlib.Core.List.{List, [], ◌∷◌, ◌++◌}
use lib.IntN.{ℤ}
use lib.ListN.{length, length-append}
use lib.Seq.{drop_at}
use Rattle.std.specs.Prelude.{Option, Some, None}
use Rattle.std.proofs.lemmas.List.{length-map}
use Rattle.forms.specs.Places.{field_of, fields_of}
use Rattle.forms.specs.declared.Field as code
use Rattle.forms.specs.Form.{Field, times, field_text, write_fields, write_records}
use Rattle.forms.proofs.Writing.{write_append, write_none}
use Rattle.joining.specs.Split.{flat}
use Rattle.joining.specs.Merge.{merged}
use Rattle.joining.specs.Cursor.{FieldsBelow, merged_from, Moved, StepOf}
use Rattle.joining.specs.declared.merging.Step.{Step}
use Rattle.joining.proofs.Steps.{merged_from_start, count_start, none_left}
use Rattle.join.specs.Texts.{merged_text}

abbrev pub text_of : List Field → List (List ℤ) → List ℕ
text_of form rs = write_records form (length rs) (flat rs)

pub fields_front : (fs : List Field) (r s : List ℤ) → length r ≡ length fs → write_fields fs (r ++ s) ≡ write_fields fs r
unfolding write_fields
fields_front [] r s e = refl
fields_front (f ∷ fs) [] s e = absurd (omega arith)
fields_front (f ∷ fs) (z ∷ r) s e = ap (λ (t : List ℕ). field_text f z ++ t) (fields_front fs r s (omega arith))

pub text_none : (form : List Field) → text_of form [] ≡ []
unfolding times flat
text_none form = write_none []

pub text_turn : (form : List Field) (r : List ℤ) (rs : List (List ℤ)) → length r ≡ length form → text_of form (r ∷ rs) ≡ write_fields form r ++ text_of form rs
unfolding times flat
text_turn form r rs e =
    let room : length form ≤ length (r ++ flat rs) = omega (arith, length-append r (flat rs)) in
    write_append form (times (length rs) form) (r ++ flat rs) room
    ∙ rw (fields_front form r (flat rs) e, drop_at r (flat rs) (length form) e) refl

pub text_start : (form : List Field) (w : ℕ) (fields : List ℕ) → 0 < w → FieldsBelow w fields → (a b : List ℤ)
    → text_of form (merged_from fields w a 0 b 0) ≡ merged_text form w fields a b
text_start form w fields positive inside a b =
    let rest = merged_from fields w a 0 b 0 in
    ap (λ (n : ℕ). write_records form n (flat rest)) (count_start fields w positive inside a b)
    ∙ ap (λ (zs : List ℤ). write_records form (length (merged fields w a b) / w) zs) (sym (merged_from_start fields w a b))

-- a step of a merge, by a form as the code holds it
module _ (form : List code.Field) (fields : List ℕ) (a : List ℤ) (i : ℕ) (b : List ℤ) (j : ℕ) where
  abbrev w : ℕ
  w = length form

  pub stepped : (r : Option Step) (s : Step) → StepOf fields w a i b j r → r ≡ Some s → Moved fields w a i b j s.i s.j s.record.now
  stepped r s e is = subst (StepOf fields w a i b j) is e

  pub step_text : {i' j' : ℕ} {r : List ℤ} → Moved fields w a i b j i' j' r
      → text_of (fields_of form) (merged_from fields w a i b j) ≡ write_fields (fields_of form) r ++ text_of (fields_of form) (merged_from fields w a i' b j')
  step_text {i'} {j'} {r} m =
      ap (text_of (fields_of form)) m.left ∙ text_turn (fields_of form) r (merged_from fields w a i' b j') (m.wide ∙ sym (length-map form field_of))

  pub no_text : (r : Option Step) → StepOf fields w a i b j r → r ≡ None → text_of (fields_of form) (merged_from fields w a i b j) ≡ []
  no_text r e is = ap (text_of (fields_of form)) (none_left fields w a i b j r e is) ∙ text_none (fields_of form)
