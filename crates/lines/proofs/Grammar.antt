-- What `read_line` accepts is what `line_of` writes: `read_write` and `write_read`, for every number in range and any text after the
-- line. So the accepted text of a number is unique, and so is the number of an accepted text. Assumes nothing.
use Prim.Native.Nat.{ℕ, zero, suc, ◌+◌, ◌-◌, ◌*◌, ◌/◌, ◌%◌, ◌^◌, ◌≤◌, ◌<◌}
use native.Mathlib.Omega.{arith}
use mathlib.Core.Path.{◌≡◌, refl, sym, ap, ap₂, ◌∙◌}
use mathlib.Core.Bool.{true, false≢true}
use mathlib.Core.Logic.{⊎_elim}
use mathlib.Core.List.{List, [], ◌∷◌, ◌++◌, append_assoc}
use lib.Dec.{lit<}
use lib.IntN.{ℤ, pos, negsuc}
use lib.ListN.{length, drop}
use lib.Seq.{drop-append-add}
use borrow.Author.Tests.{eq-eqb, ne_eqb, eqb-true}
use Rattle.lines.specs.Decimal.{limit, InRange, digits_then, digits, number, line_of}
use Rattle.lines.specs.Line.{Taken, taken, refused, read_digits, read_end, read_magnitude, positive, negative, read_number, has_key, read_line}
use Rattle.lines.proofs.Digits.{below_or, same_or, tens, digits_last, digits_turn, digits_snoc, digits_append, digits_head}
use Rattle.lines.proofs.Reading.{digit_yes, digit_low, digit_high, digits_feed, digits_other, digits_large, digits_more, there, missing, keyed}

-- ---- what one byte does

pub data Step (v b : ℕ) (bs : List ℕ) : Type 0 where
  feed : b ≡ 10 → read_digits v (b ∷ bs) ≡ taken v bs → Step v b bs
  more : 48 ≤ b → b ≤ 57 → v * 10 + (b - 48) ≤ limit → read_digits v (b ∷ bs) ≡ read_digits (v * 10 + (b - 48)) bs → Step v b bs
  stop : read_digits v (b ∷ bs) ≡ refused → Step v b bs

pub step : (v b : ℕ) (bs : List ℕ) → Step v b bs
step v b bs =
    ⊎_elim
    (λ e. feed e (digits_feed v b bs e))
    (λ n.
    ⊎_elim
    (λ l. stop (digits_other v b bs n (digit_low b l)))
    (λ g.
    ⊎_elim
    (λ h. stop (digits_other v b bs n (digit_high b h)))
    (λ k. ⊎_elim (λ o. stop (digits_large v b bs g k o)) (λ o. more g k o (digits_more v b bs g k o)) (below_or limit (v * 10 + (b - 48))))
    (below_or 57 b))
    (below_or b 48))
    (same_or b 10)

-- ---- what is accepted was written

digits_sound : (v : ℕ) (s : List ℕ) (w : ℕ) (r : List ℕ) → 0 < v → v ≤ limit → read_digits v s ≡ taken w r → (0 < w) × (w ≤ limit) × (digits v s ≡ digits w (10 ∷ r))
unfolding read_digits
digits_sound v [] w r p l e = cc
digits_sound v (b ∷ bs) w r p l e =
    elim (step v b bs) [
      | feed h q ↦ let vw : v ≡ w = cc in (omega arith, omega arith, cc)
      | more g k o q ↦
          let ih = digits_sound (v * 10 + (b - 48)) bs w r (omega arith) o (sym q ∙ e) in
          let b' : 48 + (b - 48) ≡ b = omega arith in
          (ih.0, ih.1, ap (λ (d : ℕ). digits v (d ∷ bs)) (sym b') ∙ sym (digits_snoc v (b - 48) bs p (omega arith) (omega arith)) ∙ ih.2)
      | stop q ↦ cc
    ]

end_sound : (s : List ℕ) (w : ℕ) (r : List ℕ) → read_end s ≡ taken w r → (w ≡ 0) × (s ≡ 10 ∷ r)
unfolding read_end
end_sound [] w r e = cc
end_sound (b ∷ bs) w r e =
    ⊎_elim
    (λ h. let e' : taken 0 bs ≡ taken w r = rw (eq-eqb b 10 h) at e in (cc, cc))
    (λ n. let e' : refused ≡ taken w r = rw (ne_eqb b 10 n) at e in cc)
    (same_or b 10)

-- a number with no sign. `read_magnitude` accepts a number that is not 0 by its first digit
pub magnitude_sound : (s : List ℕ) (w : ℕ) (r : List ℕ) → read_magnitude s ≡ taken w r → (w ≤ limit) × (s ≡ digits w (10 ∷ r))
unfolding read_magnitude
magnitude_sound [] w r e = cc
magnitude_sound (b ∷ bs) w r e =
    ⊎_elim
    (λ h.
    let e' : read_end bs ≡ taken w r = rw (eq-eqb b 48 h) at e in
    let z = end_sound bs w r e' in
    let d : digits 0 (10 ∷ r) ≡ 48 ∷ 10 ∷ r = digits_last 19 0 (10 ∷ r) (lit< tt) in
    (omega arith, cc))
    (λ n.
    ⊎_elim
    (λ l. let e' : refused ≡ taken w r = rw (ne_eqb b 48 n, digit_low b l) at e in cc)
    (λ g.
    ⊎_elim
    (λ h. let e' : refused ≡ taken w r = rw (ne_eqb b 48 n, digit_high b h) at e in cc)
    (λ k.
    let e' : read_digits (b - 48) bs ≡ taken w r = rw (ne_eqb b 48 n, digit_yes b g k) at e in
    let d = digits_sound (b - 48) bs w r (omega arith) (omega arith) e' in
    let b' : 48 + (b - 48) ≡ b = omega arith in
    (d.1, ap (λ (d : ℕ). d ∷ bs) (sym b') ∙ sym (digits_last 19 (b - 48) bs (omega arith)) ∙ d.2))
    (below_or 57 b))
    (below_or b 48))
    (same_or b 48)

positive_taken : (q : Taken ℕ) (z : ℤ) (r : List ℕ) → positive q ≡ taken z r → (n : ℕ) × (q ≡ taken n r) × (z ≡ pos n)
positive_taken (taken n s) z r e = (n, cc, cc)
positive_taken refused z r e = cc

negative_taken : (q : Taken ℕ) (z : ℤ) (r : List ℕ) → negative q ≡ taken z r → (n : ℕ) × (q ≡ taken (suc n) r) × (z ≡ negsuc n)
negative_taken (taken zero s) z r e = cc
negative_taken (taken (suc n) s) z r e = (n, cc, cc)
negative_taken refused z r e = cc

number_sound : (s : List ℕ) (z : ℤ) (r : List ℕ) → read_number s ≡ taken z r → InRange z × (s ≡ number z (10 ∷ r))
unfolding read_number
number_sound [] z r e = cc
number_sound (b ∷ bs) z r e =
    ⊎_elim
    (λ h.
    let p = negative_taken (read_magnitude bs) z r (rw (eq-eqb b 45 h) at e) in
    let m = magnitude_sound bs (suc p.0) r p.1 in
    rw p.2 (m.0, cc))
    (λ n.
    let p = positive_taken (read_magnitude (b ∷ bs)) z r (rw (ne_eqb b 45 n) at e) in
    let m = magnitude_sound (b ∷ bs) p.0 r p.1 in
    rw p.2 m)
    (same_or b 45)

pub key_sound : (key s : List ℕ) → has_key key s ≡ true → s ≡ key ++ 61 ∷ drop (length key + 1) s
unfolding has_key
key_sound [] [] e = absurd (false≢true e)
key_sound [] (b ∷ bs) e = ap (λ (c : ℕ). c ∷ bs) (eqb-true b 61 e)
key_sound (k ∷ ks) [] e = absurd (false≢true e)
key_sound (k ∷ ks) (b ∷ bs) e =
    ⊎_elim
    (λ h.
    let d : length (k ∷ ks) + 1 ≡ suc (length ks + 1) = omega arith in
    rw d (ap₂ ◌∷◌ h (key_sound ks bs (rw (eq-eqb b k h) at e))))
    (λ n. absurd (false≢true (rw (ne_eqb b k n) at e)))
    (same_or b k)

line_sound : (key s : List ℕ) (z : ℤ) (r : List ℕ) → read_line key s ≡ taken z r → InRange z × (s ≡ key ++ 61 ∷ number z (10 ∷ r))
line_sound key s z r e =
    elim (keyed key s) [
      | there h q ↦
          let p = number_sound (drop (length key + 1) s) z r (sym q ∙ e) in
          (p.0, key_sound key s h ∙ ap (λ (t : List ℕ). key ++ 61 ∷ t) p.1)
      | missing h q ↦ cc
    ]

-- ---- what is written is accepted

magnitude_first : (n : ℕ) (t : List ℕ) → 0 < n → n < 10 → read_magnitude ((48 + n) ∷ t) ≡ read_digits n t
unfolding read_magnitude
magnitude_first n t p h =
    let e : (48 + n) - 48 ≡ n = omega arith in
    rw (ne_eqb (48 + n) 48 (λ q. omega arith), digit_yes (48 + n) (omega arith) (omega arith), e)

digits_next : (n : ℕ) (t : List ℕ) → n ≤ limit → read_digits (n / 10) ((48 + n % 10) ∷ t) ≡ read_digits n t
digits_next n t l =
    let v : n / 10 * 10 + ((48 + n % 10) - 48) ≡ n = omega arith in
    digits_more (n / 10) (48 + n % 10) t (omega arith) (omega arith) (omega arith) ∙ ap (λ (k : ℕ). read_digits k t) v

magnitude_complete : (room n : ℕ) (t : List ℕ) → 0 < n → n ≤ limit → n < 10 ^ suc room → read_magnitude (digits_then room n t) ≡ read_digits n t
magnitude_complete zero n t p l h = rw (digits_last 0 n t h) (magnitude_first n t p h)
magnitude_complete (suc room) n t p l h =
    ⊎_elim
    (λ b. rw (digits_last (suc room) n t b) (magnitude_first n t p b))
    (λ g.
    rw (digits_turn room n t g)
    (magnitude_complete room (n / 10) ((48 + n % 10) ∷ t) (omega arith) (omega arith) (tens room n h) ∙ digits_next n t l))
    (below_or n 10)

pub magnitude_read : (n : ℕ) (r : List ℕ) → n ≤ limit → read_magnitude (digits n (10 ∷ r)) ≡ taken n r
unfolding read_magnitude read_end
magnitude_read zero r l = rw (digits_last 19 0 (10 ∷ r) (lit< tt))
magnitude_read (suc n) r l = magnitude_complete 19 (suc n) (10 ∷ r) (omega arith) l (omega arith) ∙ digits_feed (suc n) 10 r refl

number_complete : (z : ℤ) (r : List ℕ) → InRange z → read_number (number z (10 ∷ r)) ≡ taken z r
unfolding read_number
number_complete (pos n) r l =
    let d = digits_head 19 n (10 ∷ r) in
    let m : read_magnitude (d.0 ∷ d.1) ≡ taken n r = ap read_magnitude (sym d.3) ∙ magnitude_read n r l in
    rw (d.3, ne_eqb d.0 45 (λ e. omega (arith, d.2)), m)
number_complete (negsuc n) r l = rw (magnitude_read (suc n) r l)

key_complete : (key r : List ℕ) → has_key key (key ++ 61 ∷ r) ≡ true
unfolding has_key
key_complete [] r = refl
key_complete (k ∷ ks) r = rw (eq-eqb k k refl) (key_complete ks r)

line_complete : (key : List ℕ) (z : ℤ) (r : List ℕ) → InRange z → read_line key (key ++ 61 ∷ number z (10 ∷ r)) ≡ taken z r
unfolding read_line
line_complete key z r l =
    let t = number z (10 ∷ r) in
    rw (key_complete key t, drop-append-add key (61 ∷ t) 1) (number_complete z r l)

-- ---- the two directions

pub number_append : (z : ℤ) (t r : List ℕ) → number z t ++ r ≡ number z (t ++ r)
number_append (pos n) t r = digits_append 19 n t r
number_append (negsuc n) t r = ap (λ (s : List ℕ). 45 ∷ s) (digits_append 19 (suc n) t r)

pub line_append : (key : List ℕ) (z : ℤ) (r : List ℕ) → line_of key z ++ r ≡ key ++ 61 ∷ number z (10 ∷ r)
line_append key z r = rw (append_assoc) (ap (λ (s : List ℕ). key ++ 61 ∷ s) (number_append z (10 ∷ []) r))

-- the writing of every number in range is read back
pub read_write : (key : List ℕ) (z : ℤ) (r : List ℕ) → InRange z → read_line key (line_of key z ++ r) ≡ taken z r
read_write key z r l = rw (line_append key z r) (line_complete key z r l)

-- what is read is the writing of a number in range
pub write_read : (key s : List ℕ) (z : ℤ) (r : List ℕ) → read_line key s ≡ taken z r → InRange z × (s ≡ line_of key z ++ r)
write_read key s z r e = let p = line_sound key s z r e in (p.0, p.1 ∙ sym (line_append key z r))

-- a text starts with the line of one number at most
pub line_unique : (key : List ℕ) (y z : ℤ) (q r : List ℕ) → InRange y → InRange z → line_of key y ++ q ≡ line_of key z ++ r → (y ≡ z) × (q ≡ r)
line_unique key y z q r h k e =
    let p : taken y q ≡ taken z r = sym (read_write key y q h) ∙ ap (read_line key) e ∙ read_write key z r k in
    (cc, cc)
