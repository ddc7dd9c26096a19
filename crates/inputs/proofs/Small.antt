-- The refusal of the input query has room in its digits.
-- Assumes nothing.
use Rattle.lists.specs.declared.Fault.{Fault}
use Rattle.std.specs.Prelude.{None}
use Rattle.std.specs.Prelude.{⊤, Result, Ok, Err}
use Rattle.lists.specs.declared.Refusal.{Refusal}
use mathlib.Core.Bool.{Bool, true, false}
use mathlib.Core.List.{List}
use Prim.Native.Nat.{ℕ}
use native.Mathlib.Omega.{arith}
use lib.IntN.{ℤ}
use Rattle.lists.specs.Records.{component_count}
use Rattle.lists.specs.First.{is_found}
use Rattle.checks.specs.Refusals.{refuse, too_short, room_for, ◌or_else◌, query_refusal, Small}
use Rattle.checks.proofs.Small.{liveness_small}
use Rattle.inputs.specs.Query.{input_refusal, row_place}

pub or_small : (a b : Result ⊤ Refusal) → Small a → Small b → Small (a or_else b)
or_small (Ok tt) b p q = q
or_small (Err r) b p q = p

pub row_small : (found : Bool) → Small (refuse Fault.NoVerdictRow None (too_short found))
row_small true = tt
row_small false = omega arith

pub input_small : (rules : ℕ) (cs ps fs : List ℤ) (id port stack : ℕ) → Small (input_refusal rules cs ps fs id port stack)
input_small rules cs ps fs id port stack =
    or_small (query_refusal rules cs ps fs stack) (refuse Fault.NoVerdictRow None (too_short (is_found (row_place rules cs id port))))
    (liveness_small rules cs ps fs (room_for (component_count cs) 2 stack)) (row_small (is_found (row_place rules cs id port)))
