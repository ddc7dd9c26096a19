-- The members of a set leave no choice in its words.
--     bits_unique        a number of w digits, by its digits
--     words_unique       the words of a set, by the test that its members pass
--     set_unique         those of a set of numbers below n, of any count of words
--     words_member       the members of the words by a test are those that pass it
-- Assumes nothing.
use mathlib.Core.Path.{◌≡◌, refl, sym, ap, ◌∙◌}
use mathlib.Core.Bool.{Bool, true, false, ◌&&◌}
use mathlib.Core.List.{List, [], ◌∷◌, ◌++◌}
use Prim.Native.Nat.{ℕ, zero, suc, ◌+◌, ◌*◌, ◌/◌, ◌%◌, ◌^◌, ◌≤◌, ◌<◌}
use native.Mathlib.Nat.{pow-suc}
use native.Mathlib.Decide.{dec_lt}
use native.Mathlib.Omega.{arith}
use lib.Dec.{eqb, ltb}
use lib.Arith.{lt-one}
use lib.ListN.{length, get_or, take, length-append, get_or-append}
use lib.Seq.{take-suc, take_all, get_or_at}
use Rattle.sets.specs.Members.{test_bit, member_of, as_nat, bits_of, words_where, words_of_set}
use Rattle.sets.proofs.Counts.{as_nat_le}
use Rattle.sets.proofs.TestBit.{test_low, test_suc, digit_nat}
use Rattle.sets.proofs.Words.{member_at}

pub bits_unique : (w n : ℕ) (P : ℕ → Bool) → n < 2 ^ w → ((j : ℕ) → j < w → test_bit n j ≡ P j) → n ≡ bits_of w P
unfolding bits_of
bits_unique zero n P h f = lt-one h
bits_unique (suc w) n P h f =
    let low : n % 2 ≡ as_nat (P 0) = sym (ap as_nat (sym (f 0 (omega arith)) ∙ test_low n) ∙ digit_nat (n % 2) (omega arith)) in
    let rest : n / 2 ≡ bits_of w (λ j. P (suc j)) =
    bits_unique w (n / 2) (λ j. P (suc j)) (omega (arith, pow-suc 2 w)) (λ j l. sym (test_suc n j) ∙ f (suc j) (omega arith)) in
    omega (arith, low, rest)

module _ (ws : List ℕ) (P : ℕ → Bool) (fits : (i : ℕ) → get_or ws i 0 < 2 ^ 64) (member : (k : ℕ) → member_of ws k ≡ P k) where
  word_unique : (i : ℕ) → get_or ws i 0 ≡ bits_of 64 (λ j. P (64 * i + j))
  word_unique i = bits_unique 64 (get_or ws i 0) (λ j. P (64 * i + j)) (fits i) (λ j l. sym (member_at ws i j l) ∙ member (64 * i + j))

  first_unique : (m : ℕ) → m ≤ length ws → take m ws ≡ words_where P m
  unfolding words_where
  first_unique zero h = refl
  first_unique (suc m) h = rw (take-suc ws m 0 h, first_unique m (omega arith), word_unique m)

  pub words_unique : (m : ℕ) → length ws ≡ m → ws ≡ words_where P m
  words_unique m e = sym (take_all m ws (omega arith)) ∙ first_unique m (omega arith)

pub set_unique : (count : ℕ) (ws : List ℕ) (n : ℕ) (P : ℕ → Bool) → length ws ≡ count → ((i : ℕ) → get_or ws i 0 < 2 ^ 64)
    → ((k : ℕ) → member_of ws k ≡ (ltb k n && P k)) → ws ≡ words_of_set count n P
set_unique count ws n P e fits member = words_unique ws (λ k. ltb k n && P k) fits member count e

-- ---- the words by a test keep what passes it

as_digit : (b : Bool) → eqb (as_nat b) 1 ≡ b
as_digit true = refl
as_digit false = refl

test_bits : (w : ℕ) (P : ℕ → Bool) (j : ℕ) → j < w → test_bit (bits_of w P) j ≡ P j
unfolding bits_of
test_bits zero P j h = absurd (omega arith)
test_bits (suc w) P zero h =
    let digit : bits_of (suc w) P % 2 ≡ as_nat (P 0) = omega (arith, as_nat_le (P 0)) in
    test_low (bits_of (suc w) P) ∙ ap (λ (x : ℕ). eqb x 1) digit ∙ as_digit (P 0)
test_bits (suc w) P (suc j) h =
    let half : bits_of (suc w) P / 2 ≡ bits_of w (λ i. P (suc i)) = omega (arith, as_nat_le (P 0)) in
    test_suc (bits_of (suc w) P) j ∙ ap (λ (x : ℕ). test_bit x j) half ∙ test_bits w (λ i. P (suc i)) j (omega arith)

length_words : (P : ℕ → Bool) (m : ℕ) → length (words_where P m) ≡ m
unfolding words_where
length_words P zero = refl
length_words P (suc m) = length-append (words_where P m) _ ∙ omega (arith, length_words P m)

word_there : (P : ℕ → Bool) (m i : ℕ) → i < m → get_or (words_where P m) i 0 ≡ bits_of 64 (λ j. P (64 * i + j))
unfolding words_where
word_there P zero i h = absurd (omega arith)
word_there P (suc m) i h = go (dec_lt i m) (word_there P m i)
  where
    go : Dec (i < m) → (i < m → get_or (words_where P m) i 0 ≡ bits_of 64 (λ j. P (64 * i + j)))
        → get_or (words_where P m ++ (bits_of 64 (λ j. P (64 * m + j)) ∷ [])) i 0 ≡ bits_of 64 (λ j. P (64 * i + j))
    go (yes l) ih = get_or-append (words_where P m) _ 0 i (omega (arith, length_words P m)) ∙ ih l
    go (no l) ih =
        let e : i ≡ m = omega arith in
        rw e (get_or_at (words_where P m) _ [] 0 m (length_words P m))

pub words_member : (P : ℕ → Bool) (m k : ℕ) → k < 64 * m → member_of (words_where P m) k ≡ P k
unfolding member_of
words_member P m k h =
    let whole : 64 * (k / 64) + k % 64 ≡ k = omega arith in
    rw (word_there P m (k / 64) (omega arith), test_bits 64 (λ j. P (64 * (k / 64) + j)) (k % 64) (omega arith)) (ap P whole)
