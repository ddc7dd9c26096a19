-- The text of frontiers, those of one list behind those of another.
--     records_behind           the records of two lists
--     frontiers_text           the list of both
--     by_form                  records by a form as the code holds it
--     three_measured           three texts, measured one after the other
--     room_two, room_three     their room
-- Assumes nothing.
use Prim.Native.Nat.{ℕ, zero, suc, ◌+◌, ◌*◌, ◌/◌, ◌%◌, ◌≤◌, min}
use native.Mathlib.Omega.{arith}
use mathlib.Core.Path.{◌≡◌, refl, sym, ap, ◌∙◌}
use mathlib.Core.List.{List, ◌++◌, append_assoc}
use lib.IntN.{ℤ, pos}
use lib.ListN.{length, length-append}
use lib.Seq.{drop_at}
use Rattle.std.proofs.lemmas.List.{length-map}
use Rattle.lines.specs.Decimal.{line_of}
use Rattle.lists.specs.declared.Section.TheVariants.{Frontiers}
use Rattle.forms.specs.Form.{Field, times, write_fields, write_records}
use Rattle.forms.specs.Places.{field_of, fields_of, greatest}
use Rattle.forms.specs.Tables.{form_of, count_key}
use Rattle.forms.specs.Writing.{list_text}
use Rattle.forms.specs.declared.Style.TheVariants.{Old}
use Rattle.forms.specs.declared.Field as code
use Rattle.forms.proofs.Writing.{write_append}
use Rattle.join.proofs.Records.{fields_front}

times_length : (n : ℕ) (form : List Field) → length (times n form) ≡ n * length form
unfolding times
times_length zero form = omega arith
times_length (suc n) form = omega (arith, length-append form (times n form), times_length n form)

times_add : (n m : ℕ) (form : List Field) → times (n + m) form ≡ times n form ++ times m form
unfolding times
times_add zero m form = let e : 0 + m ≡ m = omega arith in ap (λ (k : ℕ). times k form) e
times_add (suc n) m form =
    let e : suc n + m ≡ suc (n + m) = omega arith in
    ap (λ (k : ℕ). times k form) e
    ∙ ap (λ (fs : List Field). form ++ fs) (times_add n m form) ∙ sym (append_assoc form (times n form) (times m form))

pub records_behind : (form : List Field) (n m : ℕ) (a b : List ℤ) → length a ≡ n * length form
    → write_records form (n + m) (a ++ b) ≡ write_records form n a ++ write_records form m b
records_behind form n m a b e =
    let l : length a ≡ length (times n form) = e ∙ sym (times_length n form) in
    let room : length (times n form) ≤ length (a ++ b) = omega (arith, length-append a b) in
    ap (λ (fs : List Field). write_fields fs (a ++ b)) (times_add n m form)
    ∙ write_append (times n form) (times m form) (a ++ b) room
    ∙ rw (fields_front (times n form) a b l, drop_at a b (length (times n form)) l) refl

pub frontiers_text : (a b : List ℤ) → length a % 3 ≡ 0 → length b % 3 ≡ 0
    → line_of (count_key Frontiers) (pos (length a / 3 + length b / 3))
    ++ (write_records (form_of Old Frontiers) (length a / 3) a ++ write_records (form_of Old Frontiers) (length b / 3) b)
    ≡ list_text Old Frontiers (a ++ b)
frontiers_text a b ea eb =
    let count : length a / 3 + length b / 3 ≡ length (a ++ b) / 3 = omega (arith, length-append a b) in
    let long : length a ≡ length a / 3 * 3 = omega arith in
    ap (λ (t : List ℕ). line_of (count_key Frontiers) (pos (length a / 3 + length b / 3)) ++ t) (sym (records_behind (form_of Old Frontiers) (length a / 3) (length b / 3) a b long))
    ∙ ap (λ (n : ℕ). line_of (count_key Frontiers) (pos n) ++ write_records (form_of Old Frontiers) n (a ++ b)) count

pub by_form : (fs : List code.Field) (zs : List ℤ) → fields_of fs ≡ form_of Old Frontiers
    → write_records (fields_of fs) (length zs / length fs) zs ≡ write_records (form_of Old Frontiers) (length zs / 3) zs
by_form fs zs e =
    let w : length fs ≡ 3 = sym (length-map fs field_of) ∙ ap (λ (f : List Field). length f) e in
    rw (w, e) refl

pub three_measured : (x s t : List ℕ) {i j k m r : ℕ} → i ≡ length x → j ≡ min (length s) greatest → k ≡ min (i + j) greatest
    → m ≡ min (length t) greatest → r ≡ min (k + m) greatest → r ≡ min (length (x ++ (s ++ t))) greatest
three_measured x s t e f g h l = omega (arith, length-append x (s ++ t), length-append s t)

-- where all have room, so have those in front
module _ (a b : List ℤ) (ea : length a % 3 ≡ 0) (eb : length b % 3 ≡ 0) {n : ℕ} (h : length (list_text Old Frontiers (a ++ b)) ≤ n) where
  abbrev x : List ℕ
  x = line_of (count_key Frontiers) (pos (length a / 3 + length b / 3))

  abbrev s : List ℕ
  s = write_records (form_of Old Frontiers) (length a / 3) a

  abbrev t : List ℕ
  t = write_records (form_of Old Frontiers) (length b / 3) b

  all : length (x ++ (s ++ t)) ≤ n
  all = let l : length (x ++ (s ++ t)) ≡ length (list_text Old Frontiers (a ++ b)) = ap length (frontiers_text a b ea eb) in omega arith

  pub room_two : length (x ++ s) ≤ n
  room_two = omega (arith, all, length-append x (s ++ t), length-append s t, length-append x s)

  pub room_three : length ((x ++ s) ++ t) ≤ n
  room_three = omega (arith, all, length-append x (s ++ t), length-append s t, length-append x s, length-append (x ++ s) t)
