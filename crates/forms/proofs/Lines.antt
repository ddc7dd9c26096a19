-- Lines are what LF ends, in any form that passes `form_test`.
--     records_lines    the writing of n records has n times the form's lines
--     fault_line       a fault is at the line where it stands: as many LF are before it as fields that were read and end in LF
-- Assumes nothing.
use Prim.Native.Nat.{ℕ, zero, suc, ◌+◌, ◌*◌, ◌/◌, ◌%◌}
use native.Mathlib.Omega.{arith}
use mathlib.Core.Path.{◌≡◌, refl, sym, ap, ◌∙◌}
use mathlib.Core.Bool.{Bool, true, false, not, cond, ◌&&◌, false≢true}
use mathlib.Core.Logic.{⊎_elim}
use mathlib.Core.List.{List, [], ◌∷◌, ◌++◌, append_assoc}
use lib.Dec.{eqb}
use lib.IntN.{ℤ, pos, negsuc}
use lib.ListN.{length}
use borrow.Author.Tests.{ne_eqb}
use Rattle.lines.specs.Decimal.{digits_then, number}
use Rattle.lines.specs.Line.{Taken, taken, refused, is_digit}
use Rattle.lines.proofs.Digits.{below_or, digits_last, digits_turn}
use Rattle.forms.specs.Form.{Field, times, field_text, write_fields, write_records, read_field, Fields, got, stop, after, onward, line_after, read_fields, read_records, lines_of, feeds, in_line, field_test, form_test}
use Rattle.forms.proofs.Grammar.{both, field_sound, times_length, times_lines}

-- ---- LF in a text

feeds_other : (b : ℕ) (t : List ℕ) → (b ≡ 10 → ⊥) → feeds (b ∷ t) ≡ feeds t
unfolding feeds
feeds_other b t n = rw (ne_eqb b 10 n)

feeds_append : (s t : List ℕ) → feeds (s ++ t) ≡ feeds s + feeds t
unfolding feeds
feeds_append [] t = omega arith
feeds_append (b ∷ s) t = go (eqb b 10) (feeds_append s t)
  where
    go : (x : Bool) → feeds (s ++ t) ≡ feeds s + feeds t → cond x (suc (feeds (s ++ t))) (feeds (s ++ t)) ≡ cond x (suc (feeds s)) (feeds s) + feeds t
    go true h = omega arith
    go false h = h

feeds_none : (s : List ℕ) → in_line s ≡ true → feeds s ≡ 0
unfolding feeds in_line
feeds_none [] e = refl
feeds_none (b ∷ s) e = go (eqb b 10) e (λ h. feeds_none s h)
  where
    go : (x : Bool) → not x && in_line s ≡ true → (in_line s ≡ true → feeds s ≡ 0) → cond x (suc (feeds s)) (feeds s) ≡ 0
    go true e h = absurd (false≢true e)
    go false e h = h e

only : (n : ℕ) (t : List ℕ) → digits_then 0 n t ≡ (48 + n) ∷ t
unfolding digits_then
only n t = refl

feeds_digits : (more n : ℕ) (t : List ℕ) → feeds (digits_then more n t) ≡ feeds t
feeds_digits zero n t = ap feeds (only n t) ∙ feeds_other (48 + n) t (λ e. omega arith)
feeds_digits (suc more) n t =
    ⊎_elim
    (λ l. ap feeds (digits_last (suc more) n t l) ∙ feeds_other (48 + n) t (λ e. omega arith))
    (λ g. ap feeds (digits_turn more n t g) ∙ feeds_digits more (n / 10) ((48 + n % 10) ∷ t) ∙ feeds_other (48 + n % 10) t (λ e. omega arith))
    (below_or n 10)

feeds_number : (z : ℤ) (t : List ℕ) → feeds (number z t) ≡ feeds t
feeds_number (pos n) t = feeds_digits 19 n t
feeds_number (negsuc n) t = feeds_other 45 (digits_then 19 (suc n) t) (λ e. omega arith) ∙ feeds_digits 19 (suc n) t

-- ---- a field that passes

one : (f : Field) → feeds (f.ending ∷ []) ≡ cond (eqb f.ending 10) 1 0
unfolding feeds
one f = refl

feeds_field : (f : Field) (z : ℤ) → field_test f ≡ true → feeds (field_text f z) ≡ cond (eqb f.ending 10) 1 0
unfolding field_test
feeds_field f z e =
    let p = (both (not (is_digit f.ending)) _ e).1 in
    let q = (both (not (eqb f.ending 45)) (in_line f.prefix) p).1 in
    feeds_append f.prefix (number z (f.ending ∷ [])) ∙ rw (feeds_none f.prefix q, feeds_number z (f.ending ∷ []), one f) (nothing (cond (eqb f.ending 10) 1 0))
  where
    nothing : (n : ℕ) → 0 + n ≡ n
    nothing n = omega arith

-- every field passes
unfoldable pub AllPass : List Field → Type 0
AllPass [] = Unit
AllPass (f ∷ fs) = (field_test f ≡ true) × AllPass fs

pub form_passes : (form : List Field) → form_test form ≡ true → AllPass form
unfolding form_test AllPass
form_passes [] e = tt
form_passes (f ∷ []) e = ((both (field_test f) _ e).0, tt)
form_passes (f ∷ g ∷ fs) e = let p = both (field_test f) (form_test (g ∷ fs)) e in (p.0, form_passes (g ∷ fs) p.1)

append_pass : (fs gs : List Field) → AllPass fs → AllPass gs → AllPass (fs ++ gs)
unfolding AllPass
append_pass [] gs p q = q
append_pass (f ∷ fs) gs p q = (p.0, append_pass fs gs p.1 q)

pub times_pass : (n : ℕ) (form : List Field) → AllPass form → AllPass (times n form)
unfolding times AllPass
times_pass zero form p = tt
times_pass (suc n) form p = append_pass form (times n form) p (times_pass n form p)

-- ---- the lines of a writing

line_sum : (b : Bool) (m n : ℕ) → m ≡ n → cond b 1 0 + m ≡ cond b (suc n) n
line_sum true m n e = omega arith
line_sum false m n e = omega arith

pub fields_lines : (fs : List Field) (zs : List ℤ) → AllPass fs → length zs ≡ length fs → feeds (write_fields fs zs) ≡ lines_of fs
unfolding write_fields lines_of AllPass feeds
fields_lines [] [] p n = refl
fields_lines [] (z ∷ zs) p n = absurd (omega arith)
fields_lines (f ∷ fs) [] p n = absurd (omega arith)
fields_lines (f ∷ fs) (z ∷ zs) p n =
    feeds_append (field_text f z) (write_fields fs zs)
    ∙ rw (feeds_field f z p.0) (line_sum (eqb f.ending 10) (feeds (write_fields fs zs)) (lines_of fs) (fields_lines fs zs p.1 (omega arith)))

pub records_lines : (form : List Field) → form_test form ≡ true → (n : ℕ) (zs : List ℤ) → length zs ≡ n * length form
    → feeds (write_records form n zs) ≡ n * lines_of form
records_lines form good n zs c =
    fields_lines (times n form) zs (times_pass n form (form_passes form good)) (c ∙ sym (times_length n form)) ∙ times_lines n form

-- ---- the line of a fault

-- the fields that were read, the first that was refused, and those behind it; the text that was read, and the rest, which that field refuses
pub record FaultAt (fs : List Field) (line k : ℕ) (s : List ℕ) : Type 0 where
  pub read : List Field
  pub faulty : Field
  pub left : List Field
  pub numbers : List ℤ
  pub rest : List ℕ
  pub fields : fs ≡ read ++ faulty ∷ left
  pub text : s ≡ write_fields read numbers ++ rest
  pub refuses : read_field faulty rest ≡ refused
  pub place : k ≡ line + feeds (write_fields read numbers)

after_stop : (z : ℤ) (f : Fields) (k : ℕ) → after z f ≡ stop k → f ≡ stop k
after_stop z (got ys s) k e = let o : ◌≡◌ {A = ℕ} 0 1 = cc in absurd (omega arith)
after_stop z (stop j) k e = cc

next_place : (b : Bool) (line k m : ℕ) → k ≡ cond b (suc line) line + m → k ≡ line + (cond b 1 0 + m)
next_place true line k m e = omega arith
next_place false line k m e = omega arith

pub fields_fault : (fs : List Field) (line : ℕ) (s : List ℕ) (k : ℕ) → AllPass fs → read_fields fs line s ≡ stop k → FaultAt fs line k s
unfolding read_fields write_fields AllPass feeds
fields_fault [] line s k p e = let o : ◌≡◌ {A = ℕ} 0 1 = cc in absurd (omega arith)
fields_fault (f ∷ fs) line s k p e = go (read_field f s) refl e (λ r h. fields_fault fs (line_after f line) r k p.1 h)
  where
    go : (q : Taken ℤ) → read_field f s ≡ q → onward line q (read_fields fs (line_after f line)) ≡ stop k
        → ((r : List ℕ) → read_fields fs (line_after f line) r ≡ stop k → FaultAt fs (line_after f line) k r) → FaultAt (f ∷ fs) line k s
    go (taken z r) q e h =
        let a = h r (after_stop z (read_fields fs (line_after f line) r) k e) in
        let t = write_fields a.read a.numbers in
        let w = (field_sound f s z r q).1 in
        record {
          read = f ∷ a.read;
          faulty = a.faulty;
          left = a.left;
          numbers = z ∷ a.numbers;
          rest = a.rest;
          fields = ap (λ (l : List Field). f ∷ l) a.fields;
          text = w ∙ ap (λ (x : List ℕ). field_text f z ++ x) a.text ∙ sym (append_assoc (field_text f z) t a.rest);
          refuses = a.refuses;
          place = rw (feeds_append (field_text f z) t, feeds_field f z p.0) (next_place (eqb f.ending 10) line k (feeds t) a.place);
        }
    go refused q e h =
        let d : line ≡ k = cc in
        record { read = []; faulty = f; left = fs; numbers = []; rest = s; fields = refl; text = refl; refuses = q; place = omega arith }

pub fault_line : (form : List Field) → form_test form ≡ true → (n line : ℕ) (s : List ℕ) (k : ℕ) → read_records form n line s ≡ stop k
    → FaultAt (times n form) line k s
fault_line form good n line s k e = fields_fault (times n form) line s k (times_pass n form (form_passes form good)) e
