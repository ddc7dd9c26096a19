-- Numbers read from bytes.
--     signed_low, signed_high   a number of 64 bits without and with a sign
--     numbers_more              one number more
--     length_numbers            how many there are
-- Assumes nothing.
use mathlib.Core.Path.{◌≡◌, refl, ap, ◌∙◌}
use mathlib.Core.List.{List, [], ◌∷◌, ◌++◌}
use Prim.Native.Nat.{ℕ, zero, suc, ◌+◌, ◌-◌, ◌^◌, ◌≤◌, ◌<◌}
use native.Mathlib.Numerals.{add-one}
use lib.ListN.{length, length-append}
use lib.IntN.{pos, negsuc}
use borrow.Author.Tests.{lt-ltb, le-ltb}
use Rattle.encoding.specs.Bytes.{signed, word_at, first_numbers}

pub signed_low : (n : ℕ) → n < 2 ^ 63 → signed n ≡ pos n
unfolding signed
signed_low n h = rw (lt-ltb n (2 ^ 63) h)

pub signed_high : (n : ℕ) → 2 ^ 63 ≤ n → n < 2 ^ 64 → signed n ≡ negsuc (2 ^ 64 - suc n)
unfolding signed
signed_high n h l = rw (le-ltb n (2 ^ 63) h, lt-ltb n (2 ^ 64) l)

pub numbers_more : (bytes : List ℕ) (k : ℕ) → first_numbers bytes (k + 1) ≡ first_numbers bytes k ++ (signed (word_at bytes k) ∷ [])
unfolding first_numbers
numbers_more bytes k = rw add-one

pub length_numbers : (bytes : List ℕ) (n : ℕ) → length (first_numbers bytes n) ≡ n
unfolding first_numbers
length_numbers bytes zero = refl
length_numbers bytes (suc n) = length-append (first_numbers bytes n) _ ∙ add-one _ ∙ ap suc (length_numbers bytes n)
