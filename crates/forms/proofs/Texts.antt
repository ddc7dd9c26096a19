-- A whole sheet, head and lists one behind the other.
--     head_none, head_rules, head_both     the head of each form
--     rules_most                           its lines are short
--     sheet_parts, sheet_rooms             the sheet in the order in which it is written, and its room
--     sheet_measured                       its measure
-- Assumes nothing.
use Prim.Native.Nat.{ℕ, ◌+◌, ◌≤◌, min}
use native.Mathlib.Omega.{arith}
use mathlib.Core.Path.{◌≡◌, refl}
use mathlib.Core.List.{List, [], ◌++◌, append_assoc}
use lib.IntN.{ℤ, pos}
use lib.ListN.{length, length-append}
use borrow.Author.Tests.{ne_eqb}
use Rattle.lines.specs.Text.{ascii}
use Rattle.lines.specs.Decimal.{line_of}
use Rattle.lines.proofs.Writing.{line_size}
use Rattle.lists.specs.declared.Section.TheVariants.{Components, Connections, Frontiers}
use Rattle.forms.specs.declared.Style.{Style}
use Rattle.forms.specs.declared.Style.TheVariants.{Old, Short}
use Rattle.forms.specs.Writing.{rules_line, head_text, list_text, lists_text, sheet_text}
use Rattle.forms.specs.Places.{greatest}
use Rattle.forms.proofs.Most.{number_most}

module _ {style : Style} (rules : ℕ) where
  pub head_none : style ≡ Old → rules ≡ 1 → head_text style rules ≡ []
  unfolding head_text
  head_none e h = rw (e, h) refl

  pub head_rules : style ≡ Old → (rules ≡ 1 → ⊥) → head_text style rules ≡ rules_line rules
  unfolding head_text
  head_rules e n = rw (e, ne_eqb rules 1 n) refl

  pub head_both : style ≡ Short → head_text style rules ≡ line_of (ascii "sheet") (pos 2) ++ rules_line rules
  unfolding head_text
  head_both e = rw e refl

pub rules_most : (rules : ℕ) → length (rules_line rules) ≤ 28
rules_most rules = omega (arith, line_size (ascii "rules") (pos rules), number_most (pos rules))

pub form_most : length (line_of (ascii "sheet") (pos 2)) ≤ 28
form_most = omega (arith, line_size (ascii "sheet") (pos 2), number_most (pos 2))

-- ---- four texts, one behind the other

four_parts : (a b c d : List ℕ) → ((a ++ b) ++ c) ++ d ≡ a ++ (b ++ (c ++ d))
four_parts a b c d = simp append_assoc

four_sizes : (a b c d : List ℕ) → length (a ++ (b ++ (c ++ d))) ≡ length a + length b + length c + length d
four_sizes a b c d = omega (arith, length-append a (b ++ (c ++ d)), length-append b (c ++ d), length-append c d)

-- where all have room, so have those in front
pub record Rooms (a b c d : List ℕ) (n : ℕ) : Type 0 where
  pub two : length (a ++ b) ≤ n
  pub three : length ((a ++ b) ++ c) ≤ n
  pub four : length (((a ++ b) ++ c) ++ d) ≤ n

rooms : (a b c d : List ℕ) (n : ℕ) → length (a ++ (b ++ (c ++ d))) ≤ n → Rooms a b c d n
rooms a b c d n h =
    let all = four_sizes a b c d in
    let two = length-append a b in
    let three = length-append (a ++ b) c in
    record { two = omega arith; three = omega arith; four = omega (arith, length-append ((a ++ b) ++ c) d) }

four_measured : (a b c d : List ℕ) {i j k x y z r : ℕ} → i ≡ length a → x ≡ min (length b) greatest → j ≡ min (i + x) greatest
    → y ≡ min (length c) greatest → k ≡ min (j + y) greatest → z ≡ min (length d) greatest → r ≡ min (k + z) greatest
    → r ≡ min (length (a ++ (b ++ (c ++ d)))) greatest
four_measured a b c d e f g h l m n = rw (four_sizes a b c d) (omega arith)

-- ---- the sheet

module _ (style : Style) (rules : ℕ) (cs ps fs : List ℤ) where
  abbrev a : List ℕ
  a = head_text style rules

  abbrev b : List ℕ
  b = list_text style Components cs

  abbrev c : List ℕ
  c = list_text style Connections ps

  abbrev d : List ℕ
  d = list_text style Frontiers fs

  pub sheet_parts : ((a ++ b) ++ c) ++ d ≡ sheet_text style rules cs ps fs
  unfolding lists_text
  sheet_parts = four_parts a b c d

  pub sheet_rooms : (n : ℕ) → length (sheet_text style rules cs ps fs) ≤ n → Rooms a b c d n
  unfolding lists_text
  sheet_rooms n h = rooms a b c d n h

  -- each list is measured at most as the greatest number, and so is the whole
  pub sheet_measured : {i j k x y z r : ℕ} → i ≡ length a → x ≡ min (length b) greatest → j ≡ min (i + x) greatest
      → y ≡ min (length c) greatest → k ≡ min (j + y) greatest → z ≡ min (length d) greatest → r ≡ min (k + z) greatest
      → r ≡ min (length (sheet_text style rules cs ps fs)) greatest
  unfolding lists_text
  sheet_measured e f g h l m n = four_measured a b c d e f g h l m n
