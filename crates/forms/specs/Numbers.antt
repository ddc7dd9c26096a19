-- A number read off the front of a text up to an ending byte e that is not part of it: no leading zero, minus only on a nonzero number,
-- magnitude at most 4,294,967,295 (document 01, "The sheet and the program"). At e = LF these are `read_digits` to `read_number` of `lines`
-- (theorem `number_line`).
-- The bytes: 45 minus, 48 to 57 the digits.
-- Assumes nothing: these are definitions.
use Rattle.std.specs.Prelude.{ℕ, ◌+◌, ◌-◌, ◌*◌, ◌≡◌, false, cond, List, [], ◌∷◌, leb, eqb, ℤ}
use Rattle.lines.specs.Decimal.{limit}
use Rattle.lines.specs.Line.{Taken, taken, refused, is_digit, positive, negative}

-- the digits that follow those of v, ended by e
unfoldable pub digits_until : ℕ → ℕ → List ℕ → Taken ℕ
digits_until e v [] = refused
digits_until e v (b ∷ bs) =
    let w = v * 10 + (b - 48) in
    let more = digits_until e w bs in
    cond (eqb b e) (taken v bs) (cond (is_digit b) (cond (leb w limit) more refused) refused)

-- the ending after a single 0
unfoldable pub zero_until : ℕ → List ℕ → Taken ℕ
zero_until e [] = refused
zero_until e (b ∷ bs) = cond (eqb b e) (taken 0 bs) refused

-- a number with no sign and no leading zero
unfoldable pub magnitude_until : ℕ → List ℕ → Taken ℕ
magnitude_until e [] = refused
magnitude_until e (b ∷ bs) = cond (eqb b 48) (zero_until e bs) (cond (is_digit b) (digits_until e (b - 48) bs) refused)

-- a number with its sign
unfoldable pub number_until : ℕ → List ℕ → Taken ℤ
number_until e [] = refused
number_until e (b ∷ bs) = cond (eqb b 45) (negative (magnitude_until e bs)) (positive (magnitude_until e (b ∷ bs)))

-- what an ending byte must be: no digit
abbrev pub Ends : ℕ → Type 0
Ends e = is_digit e ≡ false
