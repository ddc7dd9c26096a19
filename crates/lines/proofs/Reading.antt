-- One step of each reader of specs/, by what the next byte is, and positions in a text. Assumes nothing.
use Prim.Native.Nat.{ℕ, ◌+◌, ◌-◌, ◌*◌, ◌≤◌, ◌<◌}
use native.Mathlib.Numerals.{add-one}
use native.Mathlib.Omega.{arith}
use mathlib.Core.Path.{◌≡◌, refl, sym}
use mathlib.Core.Bool.{Bool, true, false, ◌&&◌}
use mathlib.Core.List.{List, [], ◌∷◌}
use mathlib.Core.Logic.{◌⊎◌, ⊎_elim}
use lib.ListN.{length, get_or, take, drop, length-drop, drop_of_length-le}
use Rattle.std.specs.Prelude.{Some, None}
use Rattle.std.proofs.Math.Bool.{and_assoc}
use Rattle.std.specs.Cmp.Lexicographic.{pointwise}
use lib.Seq.{drop-cons, take-length}
use lib.Dec.{leb, eqb}
use borrow.Author.Tests.{eq-eqb, ne_eqb, le-leb, lt-leb}
use Rattle.lines.proofs.Digits.{same_or}
use Rattle.lines.specs.Decimal.{limit}
use Rattle.lines.specs.Line.{taken_in, taken, refused, is_digit, read_digits, read_end, read_magnitude, positive, negative, read_number, has_key, read_line, after_key}

-- ---- positions

module _ (text : List ℕ) (i : ℕ) where
  -- the byte at a position, and the text after it
  pub next : i < length text → drop i text ≡ get_or text i 0 ∷ drop (i + 1) text
  next h = rw (add-one, drop-cons text i 0)

  -- the text from a position starts there
  pub starts : i ≤ length text → length text - length (drop i text) ≡ i
  starts h = simp length-drop (omega arith)

-- ---- digits

pub digit_yes : (b : ℕ) → 48 ≤ b → b ≤ 57 → is_digit b ≡ true
digit_yes b l h = simp (le-leb 48 b l, le-leb b 57 h)

pub digit_low : (b : ℕ) → b < 48 → is_digit b ≡ false
digit_low b l = simp (lt-leb 48 b l)

and_false : (b : Bool) → b && false ≡ false
and_false true = refl
and_false false = refl

pub digit_high : (b : ℕ) → 57 < b → is_digit b ≡ false
digit_high b h = rw (lt-leb b 57 h) (and_false (leb 48 b))

module _ (v b : ℕ) (bs : List ℕ) where
  pub digits_feed : b ≡ 10 → read_digits v (b ∷ bs) ≡ taken v bs
  unfolding read_digits
  digits_feed e = rw (eq-eqb b 10 e)

  pub digits_other : (b ≡ 10 → ⊥) → is_digit b ≡ false → read_digits v (b ∷ bs) ≡ refused
  unfolding read_digits
  digits_other n d = rw (ne_eqb b 10 n, d)

  pub digits_large : 48 ≤ b → b ≤ 57 → limit < v * 10 + (b - 48) → read_digits v (b ∷ bs) ≡ refused
  unfolding read_digits
  digits_large l h o = rw (ne_eqb b 10 (λ e. omega arith), digit_yes b l h, lt-leb (v * 10 + (b - 48)) limit o)

  pub digits_more : 48 ≤ b → b ≤ 57 → v * 10 + (b - 48) ≤ limit → read_digits v (b ∷ bs) ≡ read_digits (v * 10 + (b - 48)) bs
  unfolding read_digits
  digits_more l h o = rw (ne_eqb b 10 (λ e. omega arith), digit_yes b l h, le-leb (v * 10 + (b - 48)) limit o)

-- the same at a position of a text
module _ (v : ℕ) (text : List ℕ) (i : ℕ) where
  pub feed_at : i < length text → get_or text i 0 ≡ 10 → taken_in (length text) (read_digits v (drop i text)) ≡ Some (v, i + 1)
  feed_at h e = rw (next text i h, digits_feed v (get_or text i 0) (drop (i + 1) text) e, starts text (i + 1) (omega arith))

  pub other_at : i < length text → (get_or text i 0 ≡ 10 → ⊥) → (get_or text i 0 < 48) ⊎ (57 < get_or text i 0) → read_digits v (drop i text) ≡ refused
  other_at h n d =
      rw (next text i h)
      (digits_other v (get_or text i 0) (drop (i + 1) text) n (⊎_elim (digit_low (get_or text i 0)) (digit_high (get_or text i 0)) d))

  pub large_at : i < length text → 48 ≤ get_or text i 0 → get_or text i 0 ≤ 57 → limit < v * 10 + (get_or text i 0 - 48) → read_digits v (drop i text) ≡ refused
  large_at h l k o = rw (next text i h) (digits_large v (get_or text i 0) (drop (i + 1) text) l k o)

  pub more_at : i < length text → 48 ≤ get_or text i 0 → get_or text i 0 ≤ 57 → v * 10 + (get_or text i 0 - 48) ≤ limit
      → read_digits v (drop i text) ≡ read_digits (v * 10 + (get_or text i 0 - 48)) (drop (i + 1) text)
  more_at h l k o = rw (next text i h) (digits_more v (get_or text i 0) (drop (i + 1) text) l k o)

  pub none_at : length text ≤ i → read_digits v (drop i text) ≡ refused
  unfolding read_digits
  none_at h = rw (drop_of_length-le text h)

pub ruleset digits_at = (feed_at, other_at, large_at, more_at, none_at)

-- ---- magnitudes

module _ (b : ℕ) (bs : List ℕ) where
  pub magnitude_zero : b ≡ 48 → read_magnitude (b ∷ bs) ≡ read_end bs
  unfolding read_magnitude
  magnitude_zero e = rw (eq-eqb b 48 e)

  pub magnitude_other : (b ≡ 48 → ⊥) → is_digit b ≡ false → read_magnitude (b ∷ bs) ≡ refused
  unfolding read_magnitude
  magnitude_other n d = rw (ne_eqb b 48 n, d)

  pub magnitude_digit : (b ≡ 48 → ⊥) → 48 ≤ b → b ≤ 57 → read_magnitude (b ∷ bs) ≡ read_digits (b - 48) bs
  unfolding read_magnitude
  magnitude_digit n l h = rw (ne_eqb b 48 n, digit_yes b l h)

module _ (text : List ℕ) (i : ℕ) where
  pub magnitude_none_at : length text ≤ i → read_magnitude (drop i text) ≡ refused
  unfolding read_magnitude
  magnitude_none_at h = rw (drop_of_length-le text h)

  pub zero_at : i + 1 < length text → get_or text i 0 ≡ 48 → get_or text (i + 1) 0 ≡ 10 → taken_in (length text) (read_magnitude (drop i text)) ≡ Some (0, i + 2)
  unfolding read_end
  zero_at h e f =
      let l : i < length text = omega arith in
      let two : i + 1 + 1 ≡ i + 2 = omega arith in
      rw (
        next text i l,
        magnitude_zero (get_or text i 0) (drop (i + 1) text) e,
        next text (i + 1) h,
        eq-eqb (get_or text (i + 1) 0) 10 f,
        starts text (i + 1 + 1) (omega arith),
        two,
      )

  pub zero_last_at : i < length text → length text ≤ i + 1 → get_or text i 0 ≡ 48 → read_magnitude (drop i text) ≡ refused
  unfolding read_end
  zero_last_at h k e =
      rw (next text i h, magnitude_zero (get_or text i 0) (drop (i + 1) text) e, drop_of_length-le text k)

  pub zero_more_at : i + 1 < length text → get_or text i 0 ≡ 48 → (get_or text (i + 1) 0 ≡ 10 → ⊥) → read_magnitude (drop i text) ≡ refused
  unfolding read_end
  zero_more_at h e n =
      let l : i < length text = omega arith in
      rw (
        next text i l,
        magnitude_zero (get_or text i 0) (drop (i + 1) text) e,
        next text (i + 1) h,
        ne_eqb (get_or text (i + 1) 0) 10 n,
      )

  pub magnitude_other_at : i < length text → (get_or text i 0 ≡ 48 → ⊥) → (get_or text i 0 < 48) ⊎ (57 < get_or text i 0) → read_magnitude (drop i text) ≡ refused
  magnitude_other_at h n d =
      rw (next text i h)
      (magnitude_other (get_or text i 0) (drop (i + 1) text) n (⊎_elim (digit_low (get_or text i 0)) (digit_high (get_or text i 0)) d))

  pub magnitude_digit_at : i < length text → (get_or text i 0 ≡ 48 → ⊥) → 48 ≤ get_or text i 0 → get_or text i 0 ≤ 57
      → read_magnitude (drop i text) ≡ read_digits (get_or text i 0 - 48) (drop (i + 1) text)
  magnitude_digit_at h n l k = rw (next text i h) (magnitude_digit (get_or text i 0) (drop (i + 1) text) n l k)

pub ruleset magnitude_at = (magnitude_none_at, zero_at, zero_last_at, zero_more_at, magnitude_other_at, magnitude_digit_at)

-- ---- numbers with a sign

module _ (text : List ℕ) (i : ℕ) where
  pub number_none_at : length text ≤ i → read_number (drop i text) ≡ refused
  unfolding read_number
  number_none_at h = rw (drop_of_length-le text h)

  pub minus_at : i < length text → get_or text i 0 ≡ 45 → read_number (drop i text) ≡ negative (read_magnitude (drop (i + 1) text))
  unfolding read_number
  minus_at h e = rw (next text i h, eq-eqb (get_or text i 0) 45 e)

  pub plain_at : i < length text → (get_or text i 0 ≡ 45 → ⊥) → read_number (drop i text) ≡ positive (read_magnitude (drop i text))
  unfolding read_number
  plain_at h n = rw (next text i h, ne_eqb (get_or text i 0) 45 n)

-- ---- keys

-- a text that is no longer than the key has no room for its `=`
pub key_long : (key s : List ℕ) → length s ≤ length key → has_key key s ≡ false
unfolding has_key
key_long [] [] h = refl
key_long [] (b ∷ bs) h = absurd (omega arith)
key_long (k ∷ ks) [] h = refl
key_long (k ∷ ks) (b ∷ bs) h = rw (key_long ks bs (omega arith)) (and_false (eqb b k))

pub eqb_comm : (a b : ℕ) → eqb a b ≡ eqb b a
eqb_comm a b =
    ⊎_elim (λ e. rw (eq-eqb a b e, eq-eqb b a (sym e))) (λ n. rw (ne_eqb a b n, ne_eqb b a (λ e. n (sym e)))) (same_or a b)

-- the bytes of the key, and then the byte behind them
key_parts : (key s : List ℕ) → has_key key s ≡ pointwise eqb key (take (length key) s) && has_key [] (drop (length key) s)
unfolding has_key
key_parts [] s = refl
key_parts (k ∷ ks) [] = refl
key_parts (k ∷ ks) (b ∷ bs) = rw (eqb_comm b k, key_parts ks bs, and_assoc)

-- `&text[at..]`
abbrev pub from : List ℕ → ℕ → List ℕ
from text at = take (length text - at) (drop at text)

pub from_is : (text : List ℕ) (at : ℕ) → from text at ≡ drop at text
from_is text at = rw (← length-drop at text, take-length (drop at text))

module _ (text : List ℕ) (at : ℕ) (key : List ℕ) where
  pub no_key_at : pointwise eqb key (take (length key) (from text at)) ≡ false → after_key text at key ≡ None
  no_key_at e = rw (key_parts key (drop at text), rw (from_is text at) at e)

  pub key_end_at : length (from text at) ≤ length key → after_key text at key ≡ None
  key_end_at h = rw (key_long key (drop at text) (rw (from_is text at) at h))

  pub no_sign_at : length key < length (from text at) → (get_or (from text at) (length key) 0 ≡ 61 → ⊥) → after_key text at key ≡ None
  unfolding has_key
  no_sign_at h n =
      let l = rw (from_is text at) at h in
      let m = rw (from_is text at) at n in
      rw (
        key_parts key (drop at text),
        next (drop at text) (length key) l,
        ne_eqb (get_or (drop at text) (length key) 0) 61 m,
        and_false (pointwise eqb key (take (length key) (drop at text))),
      )

  pub key_at : pointwise eqb key (take (length key) (from text at)) ≡ true → length key < length (from text at) → get_or (from text at) (length key) 0 ≡ 61
      → after_key text at key ≡ Some (at + length key + 1)
  unfolding has_key
  key_at e h f =
      let l = rw (from_is text at) at h in
      rw (
        key_parts key (drop at text),
        rw (from_is text at) at e,
        next (drop at text) (length key) l,
        eq-eqb (get_or (drop at text) (length key) 0) 61 (rw (from_is text at) at f),
      )

pub ruleset keys_at = (no_key_at, key_end_at, no_sign_at, key_at)

-- behind a key and its `=` comes the line's number; where they are missing, the line is refused
pub data Keyed (key s : List ℕ) : Type 0 where
  there : has_key key s ≡ true → read_line key s ≡ read_number (drop (length key + 1) s) → Keyed key s
  missing : has_key key s ≡ false → read_line key s ≡ refused → Keyed key s

pub keyed : (key s : List ℕ) → Keyed key s
unfolding read_line
keyed key s = go (has_key key s) refl
  where
    go : (t : Bool) → has_key key s ≡ t → Keyed key s
    go true e = there e (rw e)
    go false e = missing e (rw e)
