-- Words and sets made of flags.
--     word_none, word_more, word_small     `WordOf`: one flag more, below those that there are; how great a word can be
--     flagged_all                          all words make the set
--     set_of_front                         the set of the flags in front of a slice
-- Assumes nothing.
use mathlib.Core.Path.{◌≡◌, refl, sym, ap, ◌∙◌}
use mathlib.Core.Bool.{Bool, true, false, ◌&&◌}
use mathlib.Core.List.{List}
use Prim.Native.Nat.{ℕ, zero, suc, ◌+◌, ◌*◌, ◌/◌, ◌%◌, ◌^◌, ◌≤◌, ◌<◌, min}
use native.Mathlib.Nat.{pow-suc}
use native.Mathlib.Decide.{dec_lt}
use native.Mathlib.Omega.{arith}
use lib.Dec.{eqb, ltb}
use lib.ListN.{length, get_or, take}
use lib.Seq.{length-take-le, get_or-take}
use borrow.Author.Tests.{lt-ltb, le-ltb}
use Rattle.sets.specs.Members.{test_bit, member_of, as_nat, SetOf, WordOf}
use Rattle.sets.proofs.TestBit.{test_low, test_suc, test_zero}
use Rattle.sets.proofs.Words.{member_past}

-- ---- a word

pub word_none : (flags : List Bool) (end : ℕ) → WordOf flags end end 0
word_none flags end = record { bits = λ j. test_zero j ∙ sym (ap (λ (t : Bool). t && get_or flags (end + j) false) (le-ltb (end + j) end (omega arith))) }

module _ (flags : List Bool) (at end word : ℕ) (h : at < end) (w : WordOf flags (at + 1) end word) where
  low : (t : Bool) → test_bit (2 * word + as_nat t) 0 ≡ t
  low true = let odd : (2 * word + 1) % 2 ≡ 1 = omega arith in test_low (2 * word + 1) ∙ ap (λ (x : ℕ). eqb x 1) odd
  low false = let even : (2 * word + 0) % 2 ≡ 0 = omega arith in test_low (2 * word + 0) ∙ ap (λ (x : ℕ). eqb x 1) even

  half : (t : Bool) → (2 * word + as_nat t) / 2 ≡ word
  half true = omega arith
  half false = omega arith

  more : (t : Bool) → t ≡ get_or flags at false → (j : ℕ) → test_bit (2 * word + as_nat t) j ≡ (ltb (at + j) end && get_or flags (at + j) false)
  more t e zero =
      let here : at ≡ at + 0 = omega arith in
      low t ∙ e ∙ ap (λ (x : Bool). x && get_or flags at false) (sym (lt-ltb at end h)) ∙ ap (λ (x : ℕ). ltb x end && get_or flags x false) here
  more t e (suc j) =
      let next : at + 1 + j ≡ at + suc j = omega arith in
      test_suc (2 * word + as_nat t) j ∙ ap (λ (x : ℕ). test_bit x j) (half t) ∙ w.bits j ∙ ap (λ (x : ℕ). ltb x end && get_or flags x false) next

  pub word_more : (bit : ℕ) → bit ≡ as_nat (get_or flags at false) → WordOf flags at end (2 * word + bit)
  word_more bit e = record { bits = λ j. ap (λ (x : ℕ). test_bit (2 * word + x) j) e ∙ more (get_or flags at false) refl j }

as_small : (t : Bool) → as_nat t < 2
as_small true = omega arith
as_small false = omega arith

pub word_small : (word k : ℕ) (t : Bool) → word < 2 ^ k → 2 * word + as_nat t < 2 ^ suc k
word_small word k t l = omega (arith, pow-suc 2 k, as_small t)

-- ---- a set

-- each word has its flags, if it has any: the words make the set
module _ (flags : List Bool) (words : List ℕ) (few : length flags ≤ 64 * length words)
    (each : (i : ℕ) → i < length words → WordOf flags (min (length flags) (64 * i)) (min (length flags) (64 * i + 64)) (get_or words i 0)) where
  flag_at : (k start : ℕ) → k / 64 < length words → start ≡ min (length flags) (64 * (k / 64))
      → member_of words k ≡ (ltb (start + k % 64) (min (length flags) (64 * (k / 64) + 64)) && get_or flags (start + k % 64) false)
  unfolding member_of
  flag_at k start h e =
      (each (k / 64) h).bits (k % 64)
      ∙ ap (λ (x : ℕ). ltb (x + k % 64) (min (length flags) (64 * (k / 64) + 64)) && get_or flags (x + k % 64) false) (sym e)

  past_flags : (k : ℕ) → length flags ≤ k → Dec (k / 64 < length words) → member_of words k ≡ false
  past_flags k h (yes l) =
      let start = min (length flags) (64 * (k / 64)) in
      flag_at k start l refl
      ∙ ap (λ (t : Bool). t && get_or flags (start + k % 64) false) (le-ltb (start + k % 64) (min (length flags) (64 * (k / 64) + 64)) (omega arith))
  past_flags k h (no l) = member_past words k (omega arith)

  pub flagged_all : SetOf (length flags) flags words
  flagged_all = record {
    member = λ k h.
        let same : 64 * (k / 64) + k % 64 ≡ k = omega arith in
        flag_at k (64 * (k / 64)) (omega arith) (omega arith)
        ∙ ap (λ (x : ℕ). ltb x (min (length flags) (64 * (k / 64) + 64)) && get_or flags x false) same
        ∙ ap (λ (t : Bool). t && get_or flags k false) (lt-ltb k (min (length flags) (64 * (k / 64) + 64)) (omega arith));
    past = λ k h. past_flags k h (dec_lt (k / 64) (length words));
  }

-- a set of the first n flags of a longer slice, of which they are lent
pub set_of_front : (n : ℕ) (flags : List Bool) (words : List ℕ) → n ≤ length flags → SetOf (length (take n flags)) (take n flags) words → SetOf n flags words
set_of_front n flags words h s =
    let long : length (take n flags) ≡ n = length-take-le n flags h in
    record {
      member = λ k l. s.member k (omega arith) ∙ get_or-take n flags k false l;
      past = λ k l. s.past k (omega arith);
    }
