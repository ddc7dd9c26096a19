-- What the ports entry answers (document 01, after the table of refusals): number, list and item of a refusal, which changes no slice; or
-- number 0 and how many port connections are kept, and these as rows in the lent slice, six numbers each, the slope last.
-- Assumes nothing: these are definitions.
use Rattle.std.specs.Prelude.{Option, Some, None, Result, Ok, Err}
use Rattle.lists.specs.declared.Refusal.{Refusal}
use Rattle.std.specs.Prelude.{ℕ, ◌+◌, ◌*◌, ◌≡◌, List, [], ◌∷◌, ◌++◌, map, length, take, drop, ℤ, pos}
use Rattle.lists.specs.Limits.{kept_width}
use Rattle.checks.specs.Refusals.{ports_refusal, refusal_numbers, numbers_by}
use Rattle.lists.specs.Slices.{laid, left_of}
use Rattle.faces.specs.Codes.{slope_code}
use Rattle.scene.specs.Kept.{sloped_rows, kept_count}
use Rattle.scene.specs.declared.connections.Link.{Link}
use Rattle.scene.specs.declared.reasons.Reason.{Reason}

-- ---- what the code hands on and writes on the way

-- the ports of a connection that has them
abbrev pub ports_by : Result Link Reason → Option (ℕ × ℕ)
ports_by (Ok link) = Some (link.source_port, link.sink_port)
ports_by (Err reason) = None

-- and its slope
abbrev pub SlopeIs : Result Link Reason → ℕ → Type 0
SlopeIs (Ok link) slope = slope_code link.slope ≡ slope
SlopeIs (Err reason) slope = Unit

-- the row stands at a place of the slice, and the rest is as it was
pub record Put (row : List ℤ) (at : ℕ) (out out' : List ℤ) : Type 0 where
  pub wrote : out' ≡ take at out ++ row ++ drop (at + length row) out

-- the rows stand after those before, and there are r then
pub record Filled (rows : List ℤ) (before : ℕ) (out out' : List ℤ) (r : ℕ) : Type 0 where
  pub put : Put rows (before * kept_width) out out'
  pub count : r * kept_width ≡ before * kept_width + length rows

-- all that is kept stands at the front, and r says how many rows these are
pub record AllKept (rules : ℕ) (cs ps out out' : List ℤ) (r : ℕ) : Type 0 where
  pub rows : out' ≡ laid (map pos (sloped_rows rules cs ps)) out
  pub count : r ≡ kept_count rules cs ps

-- ---- what the entry answers

-- the numbers of each case: 0 and the count, or those of the refusal
abbrev pub answer_of : Result ℕ Refusal → List ℕ
answer_of (Ok count) = 0 ∷ count ∷ []
answer_of (Err r) = refusal_numbers r

-- the answer for a rules number, these lists and a lent slice of n numbers
abbrev pub ports_answer : ℕ → List ℤ → List ℤ → ℕ → List ℕ
ports_answer rules cs ps n = numbers_by (ports_refusal rules cs ps n) (kept_count rules cs ps ∷ [])

pub record Answered (rules : ℕ) (cs ps out out' : List ℤ) (r : Result ℕ Refusal) : Type 0 where
  pub answer : answer_of r ≡ ports_answer rules cs ps (length out)
  pub left : out' ≡ left_of (ports_refusal rules cs ps (length out)) (map pos (sloped_rows rules cs ps)) out
