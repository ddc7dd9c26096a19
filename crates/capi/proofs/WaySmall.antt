-- The refusals of the finder and of the check of a trail have room in their digits, and so has the finder's count.
-- Assumes nothing.
use Rattle.lists.specs.declared.Fault.{Fault}
use Rattle.std.specs.Prelude.{None, Ok}
use mathlib.Core.Path.{sym}
use mathlib.Core.Bool.{Bool, true, false}
use mathlib.Core.List.{List}
use Prim.Native.Nat.{ℕ, ◌≤◌}
use native.Mathlib.Omega.{arith}
use lib.ListN.{length}
use lib.IntN.{ℤ}
use Rattle.lists.specs.Limits.{component_limit}
use Rattle.lists.specs.Records.{component_count}
use Rattle.lists.specs.First.{is_found}
use Rattle.checks.specs.Refusals.{refuse, too_short, room_for, liveness_lists, Small}
use Rattle.checks.proofs.Chain.{both_accept}
use Rattle.checks.proofs.Accepted.{liveness_accept}
use Rattle.checks.proofs.Small.{liveness_small}
use Rattle.inputs.specs.Query.{row_place}
use Rattle.inputs.proofs.Small.{or_small, row_small}
use Rattle.liveness.proofs.Answers.{scene_of_lem}
use Rattle.trail.specs.Entries.{row_refusal, status_zero, status_refusal, port_refusal, finder_refusal, check_refusal, Finding}

status_small : (zero : Bool) → Small (refuse Fault.NotDriven None (too_short zero))
status_small true = tt
status_small false = omega arith

pub finder_small : (rules : ℕ) (cs ps fs : List ℤ) (id port places : ℕ) → Small (finder_refusal rules cs ps fs id port places)
finder_small rules cs ps fs id port places =
    let place = row_place rules cs id port in
    let room = room_for (component_count cs) 1 places in
    or_small (liveness_lists rules cs ps fs room) (port_refusal rules cs ps fs port place) (liveness_small rules cs ps fs room)
    (or_small (row_refusal place) (status_refusal rules cs ps fs port place) (row_small (is_found place)) (status_small (status_zero rules cs ps fs port place)))

pub check_small : (rules : ℕ) (cs ps fs : List ℤ) (id port : ℕ) → Small (check_refusal rules cs ps fs id port)
check_small rules cs ps fs id port =
    let place = row_place rules cs id port in
    or_small (liveness_lists rules cs ps fs true) (row_refusal place) (liveness_small rules cs ps fs true) (row_small (is_found place))

-- no trail has more ids than a plot has components
pub count_few : {rules : ℕ} {cs ps fs : List ℤ} {id port : ℕ} {trail trail' : List ℕ} {count : ℕ}
    → Finding rules cs ps fs id port trail trail' (Ok count) → count ≤ component_limit
count_few {rules} {cs} {ps} {fs} {id} {port} {trail} f =
    let room = room_for (component_count cs) 1 (length trail) in
    let lists = (both_accept (liveness_lists rules cs ps fs room) (port_refusal rules cs ps fs port (row_place rules cs id port)) (sym f.by.answer)).0 in
    omega (arith, f.by.found.few, f.by.found.count_is, (scene_of_lem (liveness_accept rules cs ps fs room lists)).components.few)
