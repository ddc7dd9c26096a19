-- The grammar on a few lines, as antt computes it. The key is `x`.
-- Assumes nothing.
use mathlib.Core.Path.{◌≡◌, refl}
use mathlib.Core.List.{[]}
use lib.IntN.{pos, negsuc}
use Rattle.lines.specs.Text.{ascii}
use Rattle.lines.specs.Decimal.{digits_then, line_of}
use Rattle.lines.specs.Line.{taken, refused, read_digits, read_end, read_magnitude, read_number, has_key, read_line, after_key}
use Rattle.std.specs.Prelude.{Some, None}

-- ---- accepted, each before another text

minus_twelve : read_line (ascii "x") (ascii "x=-12\ny") ≡ taken (negsuc 11) (ascii "y")
unfolding read_line has_key read_number read_magnitude read_digits
minus_twelve = refl

zero_alone : read_line (ascii "x") (ascii "x=0\n") ≡ taken (pos 0) []
unfolding read_line has_key read_number read_magnitude read_end
zero_alone = refl

largest : read_line (ascii "x") (ascii "x=4294967295\ny") ≡ taken (pos 4294967295) (ascii "y")
unfolding read_line has_key read_number read_magnitude read_digits
largest = refl

-- ---- refused

too_large : read_line (ascii "x") (ascii "x=4294967296\n") ≡ refused
unfolding read_line has_key read_number read_magnitude read_digits
too_large = refl

minus_zero : read_line (ascii "x") (ascii "x=-0\n") ≡ refused
unfolding read_line has_key read_number read_magnitude read_end
minus_zero = refl

plus : read_line (ascii "x") (ascii "x=+7\n") ≡ refused
unfolding read_line has_key read_number read_magnitude
plus = refl

leading_zero : read_line (ascii "x") (ascii "x=07\n") ≡ refused
unfolding read_line has_key read_number read_magnitude read_end
leading_zero = refl

no_number : read_line (ascii "x") (ascii "x=\n") ≡ refused
unfolding read_line has_key read_number read_magnitude
no_number = refl

no_end : read_line (ascii "x") (ascii "x=7") ≡ refused
unfolding read_line has_key read_number read_magnitude read_digits
no_end = refl

return_before_end : read_line (ascii "x") (ascii "x=7\r\n") ≡ refused
unfolding read_line has_key read_number read_magnitude read_digits
return_before_end = refl

other_key : read_line (ascii "x") (ascii "y=7\n") ≡ refused
unfolding read_line has_key
other_key = refl

-- ---- the key of a line, whether or not a number follows

key_alone : after_key (ascii "y=1\nx=-0\n") 4 (ascii "x") ≡ Some 6
unfolding has_key
key_alone = refl

longer_key : after_key (ascii "xy=7\n") 0 (ascii "x") ≡ None
unfolding has_key
longer_key = refl

-- ---- written

written : line_of (ascii "item") (negsuc 1023) ≡ ascii "item=-1024\n"
unfolding digits_then
written = refl
