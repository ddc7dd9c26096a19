-- Records in any form that passes `form_test`: what is read is what is written.
--     field_sound, field_complete      one field
--     fields_sound, fields_complete    a run of fields
--     records_write                    reading what was written gives it back
--     records_read                     what is read is the writing of these numbers
--     records_unique                   and of no others
-- Assumes nothing.
use Prim.Native.Nat.{ℕ, zero, suc, ◌+◌, ◌*◌}
use native.Mathlib.Omega.{arith}
use native.Mathlib.Nat.{suc-mul}
use mathlib.Core.Path.{◌≡◌, refl, sym, ap, ap₂, ◌∙◌}
use mathlib.Core.Bool.{Bool, true, false, not, cond, ◌&&◌, false≢true}
use mathlib.Core.Logic.{⊎_elim}
use mathlib.Core.List.{List, [], ◌∷◌, ◌++◌, append_assoc}
use lib.Dec.{eqb}
use lib.IntN.{ℤ}
use lib.ListN.{length, drop, length-append}
use lib.Seq.{drop-append_seam}
use borrow.Author.Tests.{eq-eqb, ne_eqb}
use Rattle.lines.specs.Decimal.{InRange, number}
use Rattle.lines.specs.Line.{Taken, taken, refused, is_digit}
use Rattle.lines.proofs.Digits.{same_or}
use Rattle.lines.proofs.Grammar.{number_append}
use Rattle.forms.specs.Numbers.{number_until, Ends}
use Rattle.forms.specs.Form.{Field, times, field_text, write_fields, write_records, has_prefix, read_field, Fields, got, stop, after, onward, line_after, read_fields, read_records, lines_of, AllInRange, field_test, form_test, AllEnd}
use Rattle.forms.proofs.Until.{number_sound, number_read}

-- ---- the test says that every number ends

pub both : (x y : Bool) → x && y ≡ true → (x ≡ true) × (y ≡ true)
both true y e = (refl, e)
both false y e = absurd (false≢true e)

not_true : (x : Bool) → not x ≡ true → x ≡ false
not_true true e = absurd (false≢true e)
not_true false e = refl

field_ends : (f : Field) → field_test f ≡ true → Ends f.ending
unfolding field_test
field_ends f e = not_true (is_digit f.ending) (both (not (is_digit f.ending)) _ e).0

pub form_ends : (form : List Field) → form_test form ≡ true → AllEnd form
unfolding form_test AllEnd
form_ends [] e = tt
form_ends (f ∷ []) e = (field_ends f (both (field_test f) _ e).0, tt)
form_ends (f ∷ g ∷ fs) e = let p = both (field_test f) (form_test (g ∷ fs)) e in (field_ends f p.0, form_ends (g ∷ fs) p.1)

append_ends : (fs gs : List Field) → AllEnd fs → AllEnd gs → AllEnd (fs ++ gs)
unfolding AllEnd
append_ends [] gs p q = q
append_ends (f ∷ fs) gs p q = (p.0, append_ends fs gs p.1 q)

pub times_ends : (n : ℕ) (form : List Field) → AllEnd form → AllEnd (times n form)
unfolding times AllEnd
times_ends zero form p = tt
times_ends (suc n) form p = append_ends form (times n form) p (times_ends n form p)

pub times_length : (n : ℕ) (form : List Field) → length (times n form) ≡ n * length form
unfolding times
times_length zero form = omega arith
times_length (suc n) form = rw (length-append form (times n form), times_length n form, suc-mul) (omega arith)

-- ---- lines

pub append_lines : (fs gs : List Field) → lines_of (fs ++ gs) ≡ lines_of fs + lines_of gs
unfolding lines_of
append_lines [] gs = omega arith
append_lines (f ∷ fs) gs = go (eqb f.ending 10) (lines_of (fs ++ gs)) (lines_of fs) (lines_of gs) (append_lines fs gs)
  where
    go : (b : Bool) (m k l : ℕ) → m ≡ k + l → cond b (suc m) m ≡ cond b (suc k) k + l
    go true m k l h = omega arith
    go false m k l h = h

pub times_lines : (n : ℕ) (form : List Field) → lines_of (times n form) ≡ n * lines_of form
unfolding times lines_of
times_lines zero form = omega arith
times_lines (suc n) form = rw (append_lines form (times n form), times_lines n form, suc-mul) (omega arith)

-- ---- a field

clash : {A X : Type 0} {a : A} {r : List ℕ} → ◌≡◌ {A = Taken A} refused (taken a r) → X
clash e = let z : ◌≡◌ {A = ℕ} 0 1 = cc in absurd (omega arith)

pub prefix_sound : (key s : List ℕ) → has_prefix key s ≡ true → s ≡ key ++ drop (length key) s
unfolding has_prefix
prefix_sound [] s e = refl
prefix_sound (k ∷ ks) [] e = absurd (false≢true e)
prefix_sound (k ∷ ks) (b ∷ bs) e =
    ⊎_elim
    (λ h. ap₂ ◌∷◌ h (prefix_sound ks bs (rw (eq-eqb b k h) at e)))
    (λ n. absurd (false≢true (rw (ne_eqb b k n) at e)))
    (same_or b k)

pub prefix_complete : (key r : List ℕ) → has_prefix key (key ++ r) ≡ true
unfolding has_prefix
prefix_complete [] r = refl
prefix_complete (k ∷ ks) r = rw (eq-eqb k k refl) (prefix_complete ks r)

-- behind the prefix comes the field's number; where it is missing, the field is refused
pub data Prefixed (f : Field) (s : List ℕ) : Type 0 where
  there : has_prefix f.prefix s ≡ true → read_field f s ≡ number_until f.ending (drop (length f.prefix) s) → Prefixed f s
  missing : has_prefix f.prefix s ≡ false → read_field f s ≡ refused → Prefixed f s

pub prefixed : (f : Field) (s : List ℕ) → Prefixed f s
unfolding read_field
prefixed f s = go (has_prefix f.prefix s) refl
  where
    go : (t : Bool) → has_prefix f.prefix s ≡ t → Prefixed f s
    go true e = there e (rw e)
    go false e = missing e (rw e)

field_append : (f : Field) (z : ℤ) (r : List ℕ) → field_text f z ++ r ≡ f.prefix ++ number z (f.ending ∷ r)
field_append f z r = rw (append_assoc) (ap (λ (s : List ℕ). f.prefix ++ s) (number_append z (f.ending ∷ []) r))

pub field_parts : (f : Field) (z : ℤ) → (f.prefix ++ number z []) ++ (f.ending ∷ []) ≡ field_text f z
field_parts f z = simp (append_assoc, number_append z [] (f.ending ∷ []))

pub field_size : (f : Field) (z : ℤ) → length (field_text f z) ≡ length f.prefix + length (number z []) + 1
field_size f z = rw (← field_parts f z) (simp length-append)

pub field_sound : (f : Field) (s : List ℕ) (z : ℤ) (r : List ℕ) → read_field f s ≡ taken z r → InRange z × (s ≡ field_text f z ++ r)
field_sound f s z r e =
    elim (prefixed f s) [
      | there h q ↦
          let p = number_sound f.ending (drop (length f.prefix) s) z r (sym q ∙ e) in
          (p.0, prefix_sound f.prefix s h ∙ ap (λ (t : List ℕ). f.prefix ++ t) p.1 ∙ sym (field_append f z r))
      | missing h q ↦ clash (sym q ∙ e)
    ]

pub field_complete : (f : Field) (z : ℤ) (r : List ℕ) → Ends f.ending → InRange z → read_field f (field_text f z ++ r) ≡ taken z r
unfolding read_field
field_complete f z r g h =
    let t = number z (f.ending ∷ r) in
    rw (field_append f z r, prefix_complete f.prefix t, drop-append_seam f.prefix t) (number_read f.ending g z r h)

-- ---- a run of fields

after_got : (z : ℤ) (f : Fields) (zs : List ℤ) (r : List ℕ) → after z f ≡ got zs r → (ys : List ℤ) × (f ≡ got ys r) × (zs ≡ z ∷ ys)
after_got z (got ys s) zs r e = (ys, cc, cc)
after_got z (stop k) zs r e = let o : ◌≡◌ {A = ℕ} 0 1 = cc in absurd (omega arith)

onward_got : (k : ℕ) (q : Taken ℤ) (f : List ℕ → Fields) (zs : List ℤ) (r : List ℕ) → onward k q f ≡ got zs r
    → (z : ℤ) × (s : List ℕ) × (ys : List ℤ) × (q ≡ taken z s) × (f s ≡ got ys r) × (zs ≡ z ∷ ys)
onward_got k (taken z s) f zs r e = let (ys, g, l) = after_got z (f s) zs r e in (z, s, ys, refl, g, l)
onward_got k refused f zs r e = let o : ◌≡◌ {A = ℕ} 0 1 = cc in absurd (omega arith)

pub fields_sound : (fs : List Field) (line : ℕ) (s : List ℕ) (zs : List ℤ) (r : List ℕ) → read_fields fs line s ≡ got zs r
    → (length zs ≡ length fs) × AllInRange zs × (s ≡ write_fields fs zs ++ r)
unfolding read_fields write_fields AllInRange
fields_sound [] line s zs r e = let l : zs ≡ [] = cc in rw l (refl, tt, cc)
fields_sound (f ∷ fs) line s zs r e =
    let (z, s', ys, q, g, l) = onward_got line (read_field f s) (read_fields fs (line_after f line)) zs r e in
    let (count, small, rest) = fields_sound fs (line_after f line) s' ys r g in
    let (range, here) = field_sound f s z s' q in
    rw l (
      ap suc count,
      (range, small),
      here ∙ ap (λ (t : List ℕ). field_text f z ++ t) rest ∙ sym (append_assoc (field_text f z) (write_fields fs ys) r),
    )

pub fields_complete : (fs : List Field) (line : ℕ) (zs : List ℤ) (r : List ℕ) → AllEnd fs → length zs ≡ length fs → AllInRange zs
    → read_fields fs line (write_fields fs zs ++ r) ≡ got zs r
unfolding read_fields write_fields AllInRange AllEnd
fields_complete [] line [] r g n h = refl
fields_complete [] line (z ∷ zs) r g n h = absurd (omega arith)
fields_complete (f ∷ fs) line [] r g n h = absurd (omega arith)
fields_complete (f ∷ fs) line (z ∷ zs) r g n h =
    rw (
      append_assoc (field_text f z) (write_fields fs zs) r,
      field_complete f z (write_fields fs zs ++ r) g.0 h.0,
      fields_complete fs (line_after f line) zs r g.1 (omega arith) h.1,
    )

-- ---- records in a form that passes the test

module _ (form : List Field) (good : form_test form ≡ true) (n : ℕ) where
  pub records_write : (line : ℕ) (zs : List ℤ) (r : List ℕ) → length zs ≡ n * length form → AllInRange zs
      → read_records form n line (write_records form n zs ++ r) ≡ got zs r
  records_write line zs r c h =
      fields_complete (times n form) line zs r (times_ends n form (form_ends form good)) (c ∙ sym (times_length n form)) h

  pub records_read : (line : ℕ) (s : List ℕ) (zs : List ℤ) (r : List ℕ) → read_records form n line s ≡ got zs r
      → (length zs ≡ n * length form) × AllInRange zs × (s ≡ write_records form n zs ++ r)
  records_read line s zs r e =
      let p = fields_sound (times n form) line s zs r e in
      (p.0 ∙ times_length n form, p.1, p.2)

  pub records_unique : (ys zs : List ℤ) (q r : List ℕ) → length ys ≡ n * length form → AllInRange ys → length zs ≡ n * length form → AllInRange zs
      → write_records form n ys ++ q ≡ write_records form n zs ++ r → (ys ≡ zs) × (q ≡ r)
  records_unique ys zs q r c h d k e =
      let p : got ys q ≡ got zs r = sym (records_write 0 ys q c h) ∙ ap (read_records form n 0) e ∙ records_write 0 zs r d k in
      (cc, cc)
