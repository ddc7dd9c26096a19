-- One step of each reader at a position of a text, by what the next byte is. Assumes nothing.
use Prim.Native.Nat.{ℕ, zero, suc, ◌+◌, ◌-◌, ◌*◌, ◌≤◌, ◌<◌}
use native.Mathlib.Omega.{arith}
use mathlib.Core.Path.{◌≡◌, refl}
use mathlib.Core.Bool.{false}
use mathlib.Core.Logic.{◌⊎◌, ⊎_elim}
use mathlib.Core.List.{List}
use lib.ListN.{length, get_or, drop, drop_of_length-le}
use lib.IntN.{pos, neg_ℤ}
use borrow.Author.Tests.{eq-eqb, ne_eqb}
use Rattle.std.specs.Prelude.{Some, None}
use Rattle.lines.specs.Decimal.{limit}
use Rattle.lines.specs.Line.{Taken, refused, is_digit, positive, negative, taken_in}
use Rattle.lines.proofs.Reading.{next, starts, digit_low, digit_high}
use Rattle.lines.proofs.Placed.{taken_is, refused_is, positive_none, negative_none, rest_at}
use Rattle.forms.specs.Numbers.{digits_until, zero_until, magnitude_until, number_until, Ends}
use Rattle.forms.proofs.Until.{is_other, until_end, until_other, until_large, until_more, until_zero, until_none, until_digit, magnitude_sound}

no_digit : (b : ℕ) → (b < 48) ⊎ (57 < b) → is_digit b ≡ false
no_digit b d = ⊎_elim (digit_low b) (digit_high b) d

-- ---- digits

module _ (e v : ℕ) (text : List ℕ) (i : ℕ) where
  pub end_at : i < length text → get_or text i 0 ≡ e → taken_in (length text) (digits_until e v (drop i text)) ≡ Some (v, i + 1)
  end_at h q = rw (next text i h, until_end e v (get_or text i 0) (drop (i + 1) text) q, starts text (i + 1) (omega arith))

  pub other_at : i < length text → (get_or text i 0 ≡ e → ⊥) → (get_or text i 0 < 48) ⊎ (57 < get_or text i 0) → digits_until e v (drop i text) ≡ refused
  other_at h n d = rw (next text i h) (until_other e v (get_or text i 0) (drop (i + 1) text) n (no_digit (get_or text i 0) d))

  pub large_at : Ends e → i < length text → 48 ≤ get_or text i 0 → get_or text i 0 ≤ 57 → limit < v * 10 + (get_or text i 0 - 48) → digits_until e v (drop i text) ≡ refused
  large_at g h l k o =
      rw (next text i h) (until_large e v (get_or text i 0) (drop (i + 1) text) (is_other e g (get_or text i 0) l k) l k o)

  pub more_at : Ends e → i < length text → 48 ≤ get_or text i 0 → get_or text i 0 ≤ 57 → v * 10 + (get_or text i 0 - 48) ≤ limit
      → digits_until e v (drop i text) ≡ digits_until e (v * 10 + (get_or text i 0 - 48)) (drop (i + 1) text)
  more_at g h l k o =
      rw (next text i h) (until_more e v (get_or text i 0) (drop (i + 1) text) (is_other e g (get_or text i 0) l k) l k o)

  pub none_at : length text ≤ i → digits_until e v (drop i text) ≡ refused
  unfolding digits_until
  none_at h = rw (drop_of_length-le text h)

pub ruleset digits_at = (end_at, other_at, large_at, more_at, none_at)

-- ---- magnitudes

module _ (e : ℕ) (text : List ℕ) (i : ℕ) where
  pub magnitude_none_at : length text ≤ i → magnitude_until e (drop i text) ≡ refused
  unfolding magnitude_until
  magnitude_none_at h = rw (drop_of_length-le text h)

  pub zero_at : i + 1 < length text → get_or text i 0 ≡ 48 → get_or text (i + 1) 0 ≡ e → taken_in (length text) (magnitude_until e (drop i text)) ≡ Some (0, i + 2)
  unfolding zero_until
  zero_at h q f =
      let l : i < length text = omega arith in
      let two : i + 1 + 1 ≡ i + 2 = omega arith in
      rw (
        next text i l,
        until_zero e (get_or text i 0) (drop (i + 1) text) q,
        next text (i + 1) h,
        eq-eqb (get_or text (i + 1) 0) e f,
        starts text (i + 1 + 1) (omega arith),
        two,
      )

  pub zero_last_at : i < length text → length text ≤ i + 1 → get_or text i 0 ≡ 48 → magnitude_until e (drop i text) ≡ refused
  unfolding zero_until
  zero_last_at h k q =
      rw (next text i h, until_zero e (get_or text i 0) (drop (i + 1) text) q, drop_of_length-le text k)

  pub zero_more_at : i + 1 < length text → get_or text i 0 ≡ 48 → (get_or text (i + 1) 0 ≡ e → ⊥) → magnitude_until e (drop i text) ≡ refused
  unfolding zero_until
  zero_more_at h q n =
      let l : i < length text = omega arith in
      rw (
        next text i l,
        until_zero e (get_or text i 0) (drop (i + 1) text) q,
        next text (i + 1) h,
        ne_eqb (get_or text (i + 1) 0) e n,
      )

  pub magnitude_other_at : i < length text → (get_or text i 0 ≡ 48 → ⊥) → (get_or text i 0 < 48) ⊎ (57 < get_or text i 0) → magnitude_until e (drop i text) ≡ refused
  magnitude_other_at h n d = rw (next text i h) (until_none e (get_or text i 0) (drop (i + 1) text) n (no_digit (get_or text i 0) d))

  pub magnitude_digit_at : i < length text → (get_or text i 0 ≡ 48 → ⊥) → 48 ≤ get_or text i 0 → get_or text i 0 ≤ 57
      → magnitude_until e (drop i text) ≡ digits_until e (get_or text i 0 - 48) (drop (i + 1) text)
  magnitude_digit_at h n l k = rw (next text i h) (until_digit e (get_or text i 0) (drop (i + 1) text) n l k)

pub ruleset magnitude_at = (magnitude_none_at, zero_at, zero_last_at, zero_more_at, magnitude_other_at, magnitude_digit_at)

-- ---- numbers with a sign

module _ (e : ℕ) (text : List ℕ) (i : ℕ) where
  pub number_none_at : length text ≤ i → number_until e (drop i text) ≡ refused
  unfolding number_until
  number_none_at h = rw (drop_of_length-le text h)

  pub minus_at : i < length text → get_or text i 0 ≡ 45 → number_until e (drop i text) ≡ negative (magnitude_until e (drop (i + 1) text))
  unfolding number_until
  minus_at h q = rw (next text i h, eq-eqb (get_or text i 0) 45 q)

  pub plain_at : i < length text → (get_or text i 0 ≡ 45 → ⊥) → number_until e (drop i text) ≡ positive (magnitude_until e (drop i text))
  unfolding number_until
  plain_at h n = rw (next text i h, ne_eqb (get_or text i 0) 45 n)

module _ (n e : ℕ) (s : List ℕ) (m p : ℕ) (q : taken_in n (magnitude_until e s) ≡ Some (m, p)) where
  pub magnitude_small : m ≤ limit
  magnitude_small = let t = taken_is n (magnitude_until e s) m p q in (magnitude_sound e s m t.0 t.1).0

module _ (n : ℕ) (q : Taken ℕ) where
  pub positive_some : (m p : ℕ) → taken_in n q ≡ Some (m, p) → taken_in n (positive q) ≡ Some (pos m, p)
  positive_some m p e = let t = taken_is n q m p e in rw (t.1, t.2)

  pub negative_some : (m p : ℕ) → taken_in n q ≡ Some (m, p) → (m ≡ 0 → ⊥) → taken_in n (negative q) ≡ Some (neg_ℤ (pos m), p)
  negative_some zero p e h = absurd (h refl)
  negative_some (suc m) p e h = let t = taken_is n q (suc m) p e in rw (t.1, t.2)

  pub negative_zero : (m p : ℕ) → taken_in n q ≡ Some (m, p) → m ≡ 0 → taken_in n (negative q) ≡ None
  negative_zero zero p e h = let t = taken_is n q zero p e in rw t.1
  negative_zero (suc m) p e h = absurd (omega arith)

pub ruleset number_at =
    (number_none_at, minus_at, plain_at, magnitude_small, positive_some, negative_some, negative_zero, positive_none, negative_none)
