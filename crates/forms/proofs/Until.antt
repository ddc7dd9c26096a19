-- A number up to an ending byte: what `number_until` accepts is what `number` writes. At LF it is the number of `lines`. Assumes nothing.
use Prim.Native.Nat.{ℕ, zero, suc, ◌+◌, ◌-◌, ◌*◌, ◌/◌, ◌%◌, ◌^◌, ◌≤◌, ◌<◌}
use native.Mathlib.Omega.{arith}
use mathlib.Core.Path.{◌≡◌, refl, sym, ap, subst, ◌∙◌}
use mathlib.Core.Bool.{false, false≢true}
use mathlib.Core.Logic.{⊎_elim}
use mathlib.Core.List.{List, [], ◌∷◌}
use lib.Dec.{lit<}
use lib.IntN.{ℤ, pos, negsuc}
use borrow.Author.Tests.{eq-eqb, ne_eqb, le-leb, lt-leb}
use Rattle.lines.specs.Decimal.{limit, InRange, digits_then, digits, number}
use Rattle.lines.specs.Line.{Taken, taken, refused, positive, negative, is_digit, read_digits, read_end, read_magnitude, read_number}
use Rattle.lines.proofs.Digits.{below_or, same_or, tens, digits_last, digits_turn, digits_snoc, digits_head}
use Rattle.lines.proofs.Reading.{digit_yes, digit_low, digit_high}
use Rattle.forms.specs.Numbers.{digits_until, zero_until, magnitude_until, number_until, Ends}

-- ---- at LF

pub digits_line : (v : ℕ) (s : List ℕ) → digits_until 10 v s ≡ read_digits v s
unfolding digits_until read_digits
digits_line v [] = refl
digits_line v (b ∷ bs) = rw (digits_line (v * 10 + (b - 48)) bs)

zero_line : (s : List ℕ) → zero_until 10 s ≡ read_end s
unfolding zero_until read_end
zero_line [] = refl
zero_line (b ∷ bs) = refl

pub magnitude_line : (s : List ℕ) → magnitude_until 10 s ≡ read_magnitude s
unfolding magnitude_until read_magnitude
magnitude_line [] = refl
magnitude_line (b ∷ bs) = rw (zero_line bs, digits_line (b - 48) bs)

pub number_line : (s : List ℕ) → number_until 10 s ≡ read_number s
unfolding number_until read_number
number_line [] = refl
number_line (b ∷ bs) = rw (magnitude_line bs, magnitude_line (b ∷ bs))

-- ---- one byte

module _ (e v b : ℕ) (bs : List ℕ) where
  pub until_end : b ≡ e → digits_until e v (b ∷ bs) ≡ taken v bs
  unfolding digits_until
  until_end h = rw (eq-eqb b e h)

  pub until_other : (b ≡ e → ⊥) → is_digit b ≡ false → digits_until e v (b ∷ bs) ≡ refused
  unfolding digits_until
  until_other n d = rw (ne_eqb b e n, d)

  pub until_large : (b ≡ e → ⊥) → 48 ≤ b → b ≤ 57 → limit < v * 10 + (b - 48) → digits_until e v (b ∷ bs) ≡ refused
  unfolding digits_until
  until_large n l h o = rw (ne_eqb b e n, digit_yes b l h, lt-leb (v * 10 + (b - 48)) limit o)

  pub until_more : (b ≡ e → ⊥) → 48 ≤ b → b ≤ 57 → v * 10 + (b - 48) ≤ limit → digits_until e v (b ∷ bs) ≡ digits_until e (v * 10 + (b - 48)) bs
  unfolding digits_until
  until_more n l h o = rw (ne_eqb b e n, digit_yes b l h, le-leb (v * 10 + (b - 48)) limit o)

  pub data Step : Type 0 where
    ends : b ≡ e → digits_until e v (b ∷ bs) ≡ taken v bs → Step
    more : (b ≡ e → ⊥) → 48 ≤ b → b ≤ 57 → v * 10 + (b - 48) ≤ limit → digits_until e v (b ∷ bs) ≡ digits_until e (v * 10 + (b - 48)) bs → Step
    stop : digits_until e v (b ∷ bs) ≡ refused → Step

  pub step : Step
  step =
      ⊎_elim
      (λ h. ends h (until_end h))
      (λ n.
      ⊎_elim
      (λ l. stop (until_other n (digit_low b l)))
      (λ g.
      ⊎_elim
      (λ h. stop (until_other n (digit_high b h)))
      (λ k. ⊎_elim (λ o. stop (until_large n g k o)) (λ o. more n g k o (until_more n g k o)) (below_or limit (v * 10 + (b - 48))))
      (below_or 57 b))
      (below_or b 48))
      (same_or b e)

module _ (e b : ℕ) (bs : List ℕ) where
  pub until_zero : b ≡ 48 → magnitude_until e (b ∷ bs) ≡ zero_until e bs
  unfolding magnitude_until
  until_zero h = rw (eq-eqb b 48 h)

  pub until_none : (b ≡ 48 → ⊥) → is_digit b ≡ false → magnitude_until e (b ∷ bs) ≡ refused
  unfolding magnitude_until
  until_none n d = rw (ne_eqb b 48 n, d)

  pub until_digit : (b ≡ 48 → ⊥) → 48 ≤ b → b ≤ 57 → magnitude_until e (b ∷ bs) ≡ digits_until e (b - 48) bs
  unfolding magnitude_until
  until_digit n l h = rw (ne_eqb b 48 n, digit_yes b l h)

-- ---- what is accepted was written

clash : {A X : Type 0} {a : A} {r : List ℕ} → ◌≡◌ {A = Taken A} refused (taken a r) → X
clash e = let z : ◌≡◌ {A = ℕ} 0 1 = cc in absurd (omega arith)

module _ (e : ℕ) where
  digits_sound : (v : ℕ) (s : List ℕ) (w : ℕ) (r : List ℕ) → 0 < v → v ≤ limit → digits_until e v s ≡ taken w r
      → (0 < w) × (w ≤ limit) × (digits v s ≡ digits w (e ∷ r))
  unfolding digits_until
  digits_sound v [] w r p l q = clash q
  digits_sound v (b ∷ bs) w r p l q =
      elim (step e v b bs) [
        | ends h t ↦ let vw : v ≡ w = cc in (omega arith, omega arith, cc)
        | more n g k o t ↦
            let ih = digits_sound (v * 10 + (b - 48)) bs w r (omega arith) o (sym t ∙ q) in
            let b' : 48 + (b - 48) ≡ b = omega arith in
            (ih.0, ih.1, ap (λ (d : ℕ). digits v (d ∷ bs)) (sym b') ∙ sym (digits_snoc v (b - 48) bs p (omega arith) (omega arith)) ∙ ih.2)
        | stop t ↦ clash (sym t ∙ q)
      ]

  zero_sound : (s : List ℕ) (w : ℕ) (r : List ℕ) → zero_until e s ≡ taken w r → (w ≡ 0) × (s ≡ e ∷ r)
  unfolding zero_until
  zero_sound [] w r q = clash q
  zero_sound (b ∷ bs) w r q =
      ⊎_elim
      (λ h. let t : taken 0 bs ≡ taken w r = rw (eq-eqb b e h) at q in (cc, cc))
      (λ n. let t : refused ≡ taken w r = rw (ne_eqb b e n) at q in clash t)
      (same_or b e)

  pub magnitude_sound : (s : List ℕ) (w : ℕ) (r : List ℕ) → magnitude_until e s ≡ taken w r → (w ≤ limit) × (s ≡ digits w (e ∷ r))
  unfolding magnitude_until
  magnitude_sound [] w r q = clash q
  magnitude_sound (b ∷ bs) w r q =
      ⊎_elim
      (λ h.
      let t = zero_sound bs w r (rw (eq-eqb b 48 h) at q) in
      let z = digits_last 19 0 (e ∷ r) (lit< tt) in
      (omega arith, cc))
      (λ n.
      ⊎_elim
      (λ l. clash (rw (ne_eqb b 48 n, digit_low b l) at q))
      (λ g.
      ⊎_elim
      (λ h. clash (rw (ne_eqb b 48 n, digit_high b h) at q))
      (λ k.
      let t : digits_until e (b - 48) bs ≡ taken w r = rw (ne_eqb b 48 n, digit_yes b g k) at q in
      let d = digits_sound (b - 48) bs w r (omega arith) (omega arith) t in
      let b' : 48 + (b - 48) ≡ b = omega arith in
      (d.1, ap (λ (d : ℕ). d ∷ bs) (sym b') ∙ sym (digits_last 19 (b - 48) bs (omega arith)) ∙ d.2))
      (below_or 57 b))
      (below_or b 48))
      (same_or b 48)

positive_taken : (q : Taken ℕ) (z : ℤ) (r : List ℕ) → positive q ≡ taken z r → (n : ℕ) × (q ≡ taken n r) × (z ≡ pos n)
positive_taken (taken n s) z r e = (n, cc, cc)
positive_taken refused z r e = clash e

negative_taken : (q : Taken ℕ) (z : ℤ) (r : List ℕ) → negative q ≡ taken z r → (n : ℕ) × (q ≡ taken (suc n) r) × (z ≡ negsuc n)
negative_taken (taken zero s) z r e = clash e
negative_taken (taken (suc n) s) z r e = (n, cc, cc)
negative_taken refused z r e = clash e

pub number_sound : (e : ℕ) (s : List ℕ) (z : ℤ) (r : List ℕ) → number_until e s ≡ taken z r → InRange z × (s ≡ number z (e ∷ r))
unfolding number_until
number_sound e [] z r q = clash q
number_sound e (b ∷ bs) z r q =
    ⊎_elim
    (λ h.
    let p = negative_taken (magnitude_until e bs) z r (rw (eq-eqb b 45 h) at q) in
    let m = magnitude_sound e bs (suc p.0) r p.1 in
    rw p.2 (m.0, cc))
    (λ n.
    let p = positive_taken (magnitude_until e (b ∷ bs)) z r (rw (ne_eqb b 45 n) at q) in
    let m = magnitude_sound e (b ∷ bs) p.0 r p.1 in
    rw p.2 m)
    (same_or b 45)

-- ---- what is written is accepted

-- a digit is not the ending
pub is_other : (e : ℕ) → Ends e → (b : ℕ) → 48 ≤ b → b ≤ 57 → b ≡ e → ⊥
is_other e good b l h q = false≢true (sym (subst (λ (d : ℕ). is_digit d ≡ false) (sym q) good) ∙ digit_yes b l h)

module _ (e : ℕ) (good : Ends e) where
  first : (n : ℕ) (t : List ℕ) → 0 < n → n < 10 → magnitude_until e ((48 + n) ∷ t) ≡ digits_until e n t
  unfolding magnitude_until
  first n t p h =
      let q : (48 + n) - 48 ≡ n = omega arith in
      rw (ne_eqb (48 + n) 48 (λ q. omega arith), digit_yes (48 + n) (omega arith) (omega arith), q)

  next : (n : ℕ) (t : List ℕ) → n ≤ limit → digits_until e (n / 10) ((48 + n % 10) ∷ t) ≡ digits_until e n t
  next n t l =
      let v : n / 10 * 10 + ((48 + n % 10) - 48) ≡ n = omega arith in
      until_more e (n / 10) (48 + n % 10) t (is_other e good (48 + n % 10) (omega arith) (omega arith)) (omega arith) (omega arith) (omega arith)
      ∙ ap (λ (k : ℕ). digits_until e k t) v

  complete : (room n : ℕ) (t : List ℕ) → 0 < n → n ≤ limit → n < 10 ^ suc room → magnitude_until e (digits_then room n t) ≡ digits_until e n t
  complete zero n t p l h = rw (digits_last 0 n t h) (first n t p h)
  complete (suc room) n t p l h =
      ⊎_elim
      (λ b. rw (digits_last (suc room) n t b) (first n t p b))
      (λ g.
      rw (digits_turn room n t g)
      (complete room (n / 10) ((48 + n % 10) ∷ t) (omega arith) (omega arith) (tens room n h) ∙ next n t l))
      (below_or n 10)

  pub magnitude_read : (n : ℕ) (r : List ℕ) → n ≤ limit → magnitude_until e (digits n (e ∷ r)) ≡ taken n r
  unfolding magnitude_until zero_until
  magnitude_read zero r l = rw (digits_last 19 0 (e ∷ r) (lit< tt), eq-eqb e e refl)
  magnitude_read (suc n) r l = complete 19 (suc n) (e ∷ r) (omega arith) l (omega arith) ∙ until_end e (suc n) e r refl

  pub number_read : (z : ℤ) (r : List ℕ) → InRange z → number_until e (number z (e ∷ r)) ≡ taken z r
  unfolding number_until
  number_read (pos n) r l =
      let d = digits_head 19 n (e ∷ r) in
      let m : magnitude_until e (d.0 ∷ d.1) ≡ taken n r = ap (magnitude_until e) (sym d.3) ∙ magnitude_read n r l in
      rw (d.3, ne_eqb d.0 45 (λ e. omega (arith, d.2)), m)
  number_read (negsuc n) r l = rw (magnitude_read (suc n) r l)
