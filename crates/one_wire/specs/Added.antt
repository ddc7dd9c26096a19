-- "one .. connection is added" (document 02, R-14): a list of records, and the same with one record put in.
-- Assumes nothing: these are definitions.
use Rattle.std.specs.Prelude.{ℕ, ◌*◌, ◌≡◌, List, ◌++◌, length, ℤ}

-- `new` is `old` with one record of so many numbers put in, which is record i of `new`: what stands before it and after it is all of `old`
pub record Added (width : ℕ) (old : List ℤ) (i : ℕ) (new : List ℤ) : Type 0 where
  pub before : List ℤ
  pub one : List ℤ
  pub after : List ℤ
  pub place : length before ≡ i * width
  pub long : length one ≡ width
  pub old_is : old ≡ before ++ after
  pub new_is : new ≡ before ++ (one ++ after)
