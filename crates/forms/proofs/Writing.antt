-- Writing fields one after the other.
--     write_turn               the first field, and those behind it
--     write_append             a record, and those behind it
--     Left                     what is written and what is left are the whole
-- Assumes nothing.
use Prim.Native.Nat.{ℕ, suc, ◌+◌, ◌-◌, ◌*◌, ◌≤◌, ◌<◌}
use native.Mathlib.Nat.{suc-mul, mul-le-mul_right}
use native.Mathlib.Omega.{arith}
use native.Mathlib.Numerals.{add-one}
use mathlib.Core.Path.{◌≡◌, refl, sym, ap, ◌∙◌}
use mathlib.Core.List.{List, [], ◌∷◌, ◌++◌, append_assoc, append-nil}
use lib.IntN.{ℤ}
use lib.ListN.{length, take, drop, get_or, length-append, length-drop}
use lib.Seq.{drop-cons, drop-drop, take-length}
use Rattle.std.proofs.lemmas.List.{length-map}
use Rattle.lines.specs.Wrote.{Wrote}
use Rattle.lines.proofs.Writing.{lent, back, wrote_then, room_then}
use Rattle.forms.specs.Form.{Field, times, field_text, write_fields, write_records}
use Rattle.forms.specs.Places.{field_of, fields_of}
use Rattle.forms.specs.declared.Field as code
use Rattle.forms.proofs.Held.{fields_turn, fields_none}
use Rattle.forms.proofs.Steps.{times_turn, times_none}

-- ---- fields

pub write_turn : (f : Field) (fs : List Field) (zs : List ℤ) (i : ℕ) (d : ℤ) → i < length zs
    → write_fields (f ∷ fs) (drop i zs) ≡ field_text f (get_or zs i d) ++ write_fields fs (drop (i + 1) zs)
unfolding write_fields
write_turn f fs zs i d h = rw (add-one, drop-cons zs i d)

pub write_none : (zs : List ℤ) → write_fields [] zs ≡ []
unfolding write_fields
write_none zs = refl

pub write_append : (fs gs : List Field) (zs : List ℤ) → length fs ≤ length zs → write_fields (fs ++ gs) zs ≡ write_fields fs zs ++ write_fields gs (drop (length fs) zs)
unfolding write_fields
write_append [] gs zs h = refl
write_append (f ∷ fs) gs [] h = absurd (omega arith)
write_append (f ∷ fs) gs (z ∷ zs) h =
    ap (λ (t : List ℕ). field_text f z ++ t) (write_append fs gs zs (omega arith)) ∙ sym (append_assoc (field_text f z) (write_fields fs zs) (write_fields gs (drop (length fs) zs)))

-- ---- what was written, and what is left

-- s was written over the front of a buffer, and with r behind it that is the whole, for which there is room
pub record Left (whole r before after : List ℕ) (n : ℕ) (s : List ℕ) : Type 0 where
  pub wrote : Wrote s before after n
  pub rest : s ++ r ≡ whole
  pub fits : length whole ≤ length before

module _ {whole before : List ℕ} where
  pub left_start : (h : length whole ≤ length before) → Left whole whole before before 0 []
  left_start h = record { wrote = record { room = omega arith; bytes = refl; count = refl }; rest = refl; fits = h }

  module _ (t r : List ℕ) {q after s : List ℕ} {n : ℕ} (l : Left whole q before after n s) (e : q ≡ t ++ r) where
    parts : s ++ (t ++ r) ≡ whole
    parts = ap (λ (x : List ℕ). s ++ x) (sym e) ∙ l.rest

    small : length (s ++ t) ≤ length before
    small = omega (arith, length-append s t, length-append s (t ++ r), length-append t r, ap length parts, l.fits)

    -- there is room for the next bytes
    pub left_room : length t ≤ length (lent after n)
    left_room = room_then l.wrote t small

    -- and they were written
    pub left_step : {ys : List ℕ} {m : ℕ} → Wrote t (lent after n) ys m → Left whole r before (back after n ys) (n + m) (s ++ t)
    left_step w = record { wrote = wrote_then l.wrote w; rest = append_assoc s t r ∙ parts; fits = l.fits }

  pub left_end : {q after s : List ℕ} {n : ℕ} → Left whole q before after n s → q ≡ [] → Wrote whole before after n
  left_end {q} {after} {s} {n} l e =
      let w : s ≡ whole = sym (append-nil s) ∙ ap (λ (x : List ℕ). s ++ x) (sym e) ∙ l.rest in
      rw (← w) l.wrote

-- ---- fields and records that the code holds

module _ (form : List code.Field) (numbers : List ℤ) (k : ℕ) where
  -- field k, and those behind it
  pub next_field : (d : code.Field) (z : ℤ) → k < length form → length form ≤ length numbers
      → write_fields (fields_of (drop k form)) (drop k numbers)
      ≡ field_text (field_of (get_or form k d)) (get_or numbers k z) ++ write_fields (fields_of (drop (k + 1) form)) (drop (k + 1) numbers)
  next_field d z h w =
      ap (λ (fs : List Field). write_fields fs (drop k numbers)) (fields_turn form k d h)
      ∙ write_turn (field_of (get_or form k d)) (fields_of (drop (k + 1) form)) numbers k z (omega arith)

  pub no_field : length form ≤ k → write_fields (fields_of (drop k form)) (drop k numbers) ≡ []
  no_field h = ap (λ (fs : List Field). write_fields fs (drop k numbers)) (fields_none form k h) ∙ write_none (drop k numbers)

module _ (form : List code.Field) (numbers : List ℤ) (n k : ℕ) where
  -- record k, and those behind it
  pub next_record : k < n → n * length form ≤ length numbers
      → write_fields (times (n - k) (fields_of form)) (drop (k * length form) numbers)
      ≡ write_fields (fields_of form) (take (length numbers - k * length form) (drop (k * length form) numbers))
      ++ write_fields (times (n - (k + 1)) (fields_of form)) (drop ((k + 1) * length form) numbers)
  next_record h w =
      let j = k * length form in
      let i : suc k ≤ n = omega arith in
      let l = length-map form field_of in
      let lent : take (length numbers - j) (drop j numbers) ≡ drop j numbers = rw (← length-drop j numbers, take-length (drop j numbers)) in
      let room : length (fields_of form) ≤ length (drop j numbers) =
      rw (l, length-drop j numbers) (omega (arith, mul-le-mul_right (length form) i, suc-mul k (length form))) in
      let d : drop (length (fields_of form)) (drop j numbers) ≡ drop ((k + 1) * length form) numbers =
      rw l (drop-drop (length form) j numbers ∙ ap (λ (m : ℕ). drop m numbers) (let e : k * length form + length form ≡ (k + 1) * length form = omega arith in e)) in
      rw lent
      (ap (λ (fs : List Field). write_fields fs (drop j numbers)) (times_turn (fields_of form) n k h)
      ∙ write_append (fields_of form) (times (n - (k + 1)) (fields_of form)) (drop j numbers) room
      ∙ ap (λ (zs : List ℤ). write_fields (fields_of form) (drop j numbers) ++ write_fields (times (n - (k + 1)) (fields_of form)) zs) d)

  pub no_record : n ≤ k → write_fields (times (n - k) (fields_of form)) (drop (k * length form) numbers) ≡ []
  no_record h =
      ap (λ (fs : List Field). write_fields fs (drop (k * length form) numbers)) (times_none (fields_of form) n k h)
      ∙ write_none (drop (k * length form) numbers)

pub records_first : (form : List Field) (numbers : List ℤ) (n w : ℕ) → write_fields (times (n - 0) form) (drop (0 * w) numbers) ≡ write_records form n numbers
records_first form numbers n w =
    let z : n - 0 ≡ n = omega arith in
    let o : 0 * w ≡ 0 = omega arith in
    rw (z, o)
