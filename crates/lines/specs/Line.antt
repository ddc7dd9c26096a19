-- Reading a line (document 01, "The sheet and the program": "Key=value lines, each ended by LF, key order fixed, no leading zero, minus
-- only on a nonzero number, magnitude at most 4,294,967,295"): what is taken off the front of a text, and the text that is left.
-- The bytes: 10 LF, 45 minus, 48 to 57 the digits, 61 the sign `=`.
-- Assumes nothing: these are definitions.
use Rattle.std.specs.Prelude.{ℕ, zero, suc, ◌+◌, ◌-◌, ◌*◌, Bool, false, cond, ◌&&◌, List, [], ◌∷◌, leb, eqb, ℤ, pos, negsuc, length, drop, Option, Some, None}
use Rattle.lines.specs.Decimal.{limit}

-- a value and the text that follows it, or no value
pub data Taken (A : Type 0) : Type 0 where
  taken : A → List ℕ → Taken A
  refused : Taken A

module _ {A : Type 0} where
  abbrev pub Accepted : Taken A → Type 0
  Accepted (taken a s) = Unit {0}
  Accepted refused = ⊥

abbrev pub is_digit : ℕ → Bool
is_digit b = leb 48 b && leb b 57

-- the digits that follow those of v, ended by LF
unfoldable pub read_digits : ℕ → List ℕ → Taken ℕ
read_digits v [] = refused
read_digits v (b ∷ bs) =
    let w = v * 10 + (b - 48) in
    let more = read_digits w bs in
    cond (eqb b 10) (taken v bs) (cond (is_digit b) (cond (leb w limit) more refused) refused)

-- the LF after a single 0
unfoldable pub read_end : List ℕ → Taken ℕ
read_end [] = refused
read_end (b ∷ bs) = cond (eqb b 10) (taken 0 bs) refused

-- a number with no sign and no leading zero, ended by LF
unfoldable pub read_magnitude : List ℕ → Taken ℕ
read_magnitude [] = refused
read_magnitude (b ∷ bs) = cond (eqb b 48) (read_end bs) (cond (is_digit b) (read_digits (b - 48) bs) refused)

abbrev pub positive : Taken ℕ → Taken ℤ
positive (taken n r) = taken (pos n) r
positive refused = refused

-- a minus stands only before a number that is not 0
abbrev pub negative : Taken ℕ → Taken ℤ
negative (taken zero r) = refused
negative (taken (suc n) r) = taken (negsuc n) r
negative refused = refused

unfoldable pub read_number : List ℕ → Taken ℤ
read_number [] = refused
read_number (b ∷ bs) = cond (eqb b 45) (negative (read_magnitude bs)) (positive (read_magnitude (b ∷ bs)))

-- a text begins with the key and then `=`
unfoldable pub has_key : List ℕ → List ℕ → Bool
has_key [] [] = false
has_key [] (b ∷ bs) = eqb b 61
has_key (k ∷ ks) [] = false
has_key (k ∷ ks) (b ∷ bs) = eqb b k && has_key ks bs

-- the line of a key
unfoldable pub read_line : List ℕ → List ℕ → Taken ℤ
read_line key s = cond (has_key key s) (read_number (drop (length key + 1) s)) refused

-- a count is not negative
abbrev pub natural : Taken ℤ → Taken ℕ
natural (taken (pos n) s) = taken n s
natural (taken (negsuc n) s) = refused
natural refused = refused

-- the code's answers. The text that is left is told by the position where it starts in a text of n bytes
module _ {A : Type 0} where
  abbrev pub taken_in : ℕ → Taken A → Option (A × ℕ)
  taken_in n (taken v r) = Some (v, n - length r)
  taken_in n refused = None

-- the position after the `=` of a key that stands at a position of the text
abbrev pub after_key : List ℕ → ℕ → List ℕ → Option ℕ
after_key text at key = cond (has_key key (drop at text)) (Some (at + length key + 1)) None
