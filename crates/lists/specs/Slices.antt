-- What an entry leaves in the slices that it was lent (document 01, after the table of refusals): an accepted call writes only its rows
-- and leaves work slices zero; a refusal changes no slice.
-- Assumes nothing: these are definitions.
use Rattle.std.specs.Prelude.{⊤, Result, Ok, Err}
use Rattle.lists.specs.declared.Refusal.{Refusal}
use Rattle.std.specs.Prelude.{List, ◌++◌, ℕ, length, drop, replicate}

-- the rows stand at the front of the slice, and the rest is as it was
abbrev pub laid : {A : Type 0} → List A → List A → List A
laid rows old = rows ++ drop (length rows) old

-- a work slice of the same length, all zero
abbrev pub cleared : List ℕ → List ℕ
cleared old = replicate (length old) 0

-- ---- by what the checks say

-- an output slice: the rows of an accepted call, or what it held
abbrev pub left_of : {A : Type 0} → Result ⊤ Refusal → List A → List A → List A
left_of (Ok tt) rows old = laid rows old
left_of (Err refusal) rows old = old

-- a work slice: all zero after an accepted call, or what it held
abbrev pub work_of : Result ⊤ Refusal → List ℕ → List ℕ
work_of (Ok tt) old = cleared old
work_of (Err refusal) old = old
