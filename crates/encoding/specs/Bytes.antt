-- Lists as bytes (document 01, "The scene taken in": "lists as bytes, eight to a number, lowest first"). Signed numbers are in two's
-- complement.
--     little_endian       the number that bytes make, the lowest first
--     signed             a number of 64 bits, read as a signed one
--     numbers            the whole numbers of a list of bytes; an odd tail is not read
--     words              the same, without their signs
--     bytes_of            the bytes of a list of numbers
-- Assumes nothing: these are definitions.
use Rattle.std.specs.Prelude.{ℕ, zero, suc, ◌+◌, ◌*◌, ◌/◌, ◌%◌, ◌^◌, cond, List, [], ◌∷◌, ◌++◌, ltb, length, take, drop, ℤ, pos, ◌-ℤ◌}
use Rattle.lists.specs.First.{tabulate}

-- eight bytes to a number
abbrev pub number_bytes : ℕ
number_bytes = 8

-- ---- read

unfoldable pub little_endian : List ℕ → ℕ
little_endian [] = 0
little_endian (b ∷ bs) = b + 256 * little_endian bs

-- from 2 ^ 63 on, the number less 2 ^ 64
unfoldable pub signed : ℕ → ℤ
signed n = cond (ltb n (2 ^ 63)) (pos n) (pos n -ℤ pos (2 ^ 64))

-- number k of a list of bytes, from 0, without its sign
abbrev pub word_at : List ℕ → ℕ → ℕ
word_at bytes k = little_endian (take number_bytes (drop (k * number_bytes) bytes))

-- the first n numbers of a list of bytes
unfoldable pub first_numbers : List ℕ → ℕ → List ℤ
first_numbers bytes zero = []
first_numbers bytes (suc k) = first_numbers bytes k ++ (signed (word_at bytes k) ∷ [])

abbrev pub numbers : List ℕ → List ℤ
numbers bytes = first_numbers bytes (length bytes / number_bytes)

abbrev pub words : List ℕ → List ℕ
words bytes = tabulate (word_at bytes) (length bytes / number_bytes)

-- ---- written

-- the k lowest bytes of a number, the lowest first
unfoldable pub low_bytes : ℕ → ℕ → List ℕ
low_bytes zero n = []
low_bytes (suc k) n = n % 256 ∷ low_bytes k (n / 256)

unfoldable pub bytes_of : List ℕ → List ℕ
bytes_of [] = []
bytes_of (n ∷ ns) = low_bytes number_bytes n ++ bytes_of ns
