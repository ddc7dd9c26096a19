-- What an accepted text says of its bytes: the digits begin before the end of the text, a byte of them that is not the ending is a digit and
-- the rest is accepted too, and an accepted magnitude is the digits after none. Assumes nothing.
use Prim.Native.Nat.{ℕ, ◌+◌, ◌-◌, ◌*◌, ◌≤◌, ◌<◌}
use native.Mathlib.Omega.{arith}
use mathlib.Core.Path.{◌≡◌, refl, sym, ap, subst, ◌∙◌}
use mathlib.Core.Logic.{⊎_elim}
use mathlib.Core.List.{List, [], ◌∷◌}
use lib.ListN.{length, get_or, drop, drop_of_length-le}
use borrow.Author.Tests.{eq-eqb, ne_eqb}
use Rattle.std.specs.Prelude.{Some}
use Rattle.lines.specs.Decimal.{limit}
use Rattle.lines.specs.Line.{Taken, taken, refused, Accepted, taken_in, positive, negative}
use Rattle.lines.proofs.Digits.{below_or, same_or}
use Rattle.lines.proofs.Reading.{next, digit_low, digit_high}
use Rattle.lines.proofs.Placed.{taken_is}
use Rattle.forms.specs.Numbers.{digits_until, zero_until, magnitude_until, number_until, Ends}
use Rattle.forms.proofs.Until.{is_other, until_end, until_more, until_zero, until_none, until_digit, ends, more, stop, step}
use Rattle.forms.proofs.Placed.{end_at, minus_at, plain_at, magnitude_small, positive_some, negative_some}

negative_accepted : (q : Taken ℕ) → Accepted (negative q) → Accepted q
negative_accepted (taken n r) a = tt
negative_accepted refused a = a

positive_accepted : (q : Taken ℕ) → Accepted (positive q) → Accepted q
positive_accepted (taken n r) a = tt
positive_accepted refused a = a

module _ (e : ℕ) where
  pub digits_within : (v i : ℕ) (text : List ℕ) → Accepted (digits_until e v (drop i text)) → i < length text
  unfolding digits_until
  digits_within v i text a =
      ⊎_elim (λ l. l) (λ g. absurd (subst (λ (s : List ℕ). Accepted (digits_until e v s)) (drop_of_length-le text g) a)) (below_or i (length text))

  pub known_digit : (v b : ℕ) (bs : List ℕ) → Accepted (digits_until e v (b ∷ bs)) → (b ≡ e → ⊥)
      → (48 ≤ b) × (b ≤ 57) × (v * 10 + (b - 48) ≤ limit) × (digits_until e v (b ∷ bs) ≡ digits_until e (v * 10 + (b - 48)) bs)
  known_digit v b bs a n =
      elim (step e v b bs) [
        | ends h q ↦ absurd (n h)
        | more m g k o q ↦ (g, k, o, q)
        | stop q ↦ absurd (subst Accepted q a)
      ]

  -- the same at a position of a text
  module _ (v : ℕ) (text : List ℕ) (i : ℕ) (a : Accepted (digits_until e v (drop i text))) where
    pub known_at : (digits_until e v (drop i text) ≡ digits_until e v (drop i text)) × (i < length text)
    known_at = (refl, digits_within v i text a)

    pub known_digit_at : (get_or text i 0 ≡ e → ⊥)
        → (digits_until e v (drop i text) ≡ digits_until e (v * 10 + (get_or text i 0 - 48)) (drop (i + 1) text))
        × (48 ≤ get_or text i 0) × (get_or text i 0 ≤ 57) × (v * 10 + (get_or text i 0 - 48) ≤ limit)
        × Accepted (digits_until e (v * 10 + (get_or text i 0 - 48)) (drop (i + 1) text))
    known_digit_at n =
        let s = next text i (digits_within v i text a) in
        let (low, high, small, q) = known_digit v (get_or text i 0) (drop (i + 1) text) (subst (λ (s : List ℕ). Accepted (digits_until e v s)) s a) n in
        let r : digits_until e v (drop i text) ≡ digits_until e (v * 10 + (get_or text i 0 - 48)) (drop (i + 1) text) = ap (digits_until e v) s ∙ q in
        (r, low, high, small, subst Accepted r a)

  zero_known : (s : List ℕ) → Accepted (zero_until e s) → digits_until e 0 s ≡ zero_until e s
  unfolding zero_until
  zero_known [] a = absurd a
  zero_known (b ∷ bs) a =
      ⊎_elim
      (λ q. until_end e 0 b bs q ∙ rw (eq-eqb b e q))
      (λ n. absurd (rw (ne_eqb b e n) at a))
      (same_or b e)

  pub magnitude_digits : Ends e → (s : List ℕ) → Accepted (magnitude_until e s) → digits_until e 0 s ≡ magnitude_until e s
  unfolding magnitude_until
  magnitude_digits good [] a = absurd a
  magnitude_digits good (b ∷ bs) a =
      ⊎_elim
      (λ q.
      let z : 0 * 10 + (b - 48) ≡ 0 = omega arith in
      let m = until_zero e b bs q in
      until_more e 0 b bs (is_other e good b (omega arith) (omega arith)) (omega arith) (omega arith) (omega arith)
      ∙ ap (λ (w : ℕ). digits_until e w bs) z ∙ zero_known bs (subst Accepted m a) ∙ sym m)
      (λ n.
      ⊎_elim
      (λ l. absurd (subst Accepted (until_none e b bs n (digit_low b l)) a))
      (λ g.
      ⊎_elim
      (λ h. absurd (subst Accepted (until_none e b bs n (digit_high b h)) a))
      (λ k.
      let z : 0 * 10 + (b - 48) ≡ b - 48 = omega arith in
      until_more e 0 b bs (is_other e good b g k) g k (omega arith) ∙ ap (λ (w : ℕ). digits_until e w bs) z ∙ sym (until_digit e b bs n g k))
      (below_or 57 b))
      (below_or b 48))
      (same_or b 48)

  pub known_start : Ends e → (s : List ℕ) → Accepted (magnitude_until e s) → (digits_until e 0 s ≡ magnitude_until e s) × Accepted (digits_until e 0 s)
  known_start good s a = let q = magnitude_digits good s a in (q, subst Accepted (sym q) a)

pub ruleset digits_known = (known_start, known_at, known_digit_at, end_at)

-- ---- a number with its sign

module _ (e : ℕ) (text : List ℕ) (i : ℕ) (a : Accepted (number_until e (drop i text))) where
  pub number_within : i < length text
  unfolding number_until
  number_within =
      ⊎_elim (λ l. l) (λ g. absurd (subst (λ (s : List ℕ). Accepted (number_until e s)) (drop_of_length-le text g) a)) (below_or i (length text))

  pub known_within : (number_until e (drop i text) ≡ number_until e (drop i text)) × (i < length text)
  known_within = (refl, number_within)

  pub known_minus : get_or text i 0 ≡ 45
      → (number_until e (drop i text) ≡ negative (magnitude_until e (drop (i + 1) text))) × Accepted (magnitude_until e (drop (i + 1) text))
  known_minus h =
      let q = minus_at e text i number_within h in
      (q, negative_accepted (magnitude_until e (drop (i + 1) text)) (subst Accepted q a))

  pub known_plain : (get_or text i 0 ≡ 45 → ⊥)
      → (number_until e (drop i text) ≡ positive (magnitude_until e (drop i text))) × Accepted (magnitude_until e (drop i text))
  known_plain n =
      let q = plain_at e text i number_within n in
      (q, positive_accepted (magnitude_until e (drop i text)) (subst Accepted q a))

  -- behind a minus comes no 0
  pub known_some : get_or text i 0 ≡ 45 → (n m p : ℕ) → taken_in n (magnitude_until e (drop (i + 1) text)) ≡ Some (m, p) → m ≡ 0 → ⊥
  known_some h n m p t z =
      let q = minus_at e text i number_within h in
      let r = taken_is n (magnitude_until e (drop (i + 1) text)) m p t in
      subst Accepted (q ∙ ap negative r.1 ∙ ap (λ (k : ℕ). negative (taken k r.0)) z) a

pub ruleset number_known = (known_within, known_minus, known_plain, known_some, magnitude_small, positive_some, negative_some)
