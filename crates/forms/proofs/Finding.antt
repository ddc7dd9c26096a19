-- The line of a list's count, and the list behind it, by what the count is. Assumes nothing.
use Prim.Native.Nat.{ℕ, ◌+◌, ◌*◌, ◌≤◌, ◌<◌}
use native.Mathlib.Nat.{mul-le-mul_right}
use native.Mathlib.Omega.{arith}
use mathlib.Core.Path.{◌≡◌}
use mathlib.Core.List.{List}
use borrow.Author.Tests.{le-leb, lt-leb}
use Rattle.lines.specs.Line.{taken, refused, read_line, natural}
use Rattle.lists.specs.declared.Section.{Section}
use Rattle.lists.specs.declared.Section.TheVariants.{Components, Connections, Frontiers}
use Rattle.forms.specs.Form.{lines_of, read_records}
use Rattle.forms.specs.declared.Style.{Style}
use Rattle.forms.specs.Tables.{form_of, count_key, width_of}
use Rattle.forms.specs.Sheet.{fault, bad_line, over_limit, records_to, read_list}
use Rattle.forms.proofs.Tables.{same_width}
use Rattle.forms.proofs.Steps.{lines_most}

module _ (style : Style) (list : Section) (limit line : ℕ) (s : List ℕ) where
  pub list_records : (n : ℕ) (r : List ℕ) → natural (read_line (count_key list) s) ≡ taken n r → n ≤ limit
      → read_list style list limit line s ≡ records_to (line + 1 + n * lines_of (form_of style list)) (read_records (form_of style list) n (line + 1) r)
  unfolding read_list
  list_records n r e h = rw (e, le-leb n limit h)

  pub list_over : (n : ℕ) (r : List ℕ) → natural (read_line (count_key list) s) ≡ taken n r → limit < n → read_list style list limit line s ≡ fault (over_limit list limit)
  unfolding read_list
  list_over n r e h = rw (e, lt-leb n limit h)

  pub list_bad : natural (read_line (count_key list) s) ≡ refused → read_list style list limit line s ≡ fault (bad_line line)
  unfolding read_list
  list_bad e = rw e

-- ---- how many fields and lines a record has

pub width_few : (list : Section) → width_of list ≤ 8
width_few Components = omega arith
width_few Connections = omega arith
width_few Frontiers = omega arith

pub few_lines : (style : Style) (list : Section) → lines_of (form_of style list) ≤ 8
few_lines style list = omega (arith, lines_most (form_of style list), same_width style list, width_few list)

-- so many records have few lines
pub few_in_all : (count limit most lines : ℕ) → count ≤ limit → limit ≤ most → lines ≤ 8 → count * lines ≤ most * 8
few_in_all count limit most lines h l f =
    let a : count * lines ≤ most * lines = mul-le-mul_right lines (let i : count ≤ most = omega arith in i) in
    let b : lines * most ≤ 8 * most = mul-le-mul_right most f in
    omega arith
