-- What is proved of the two entries (specs/Theorems.antt). `trail_laws`, of any tests, is in Shortest.
--     trail_exists       a trail exists exactly if the status is 0
--     finding_laws       an accepted call of the finder: status 0, the trail, and what the check says of it and of others
--     found_exactly      it accepts exactly if the analysis has the row with status 0
--     checking_laws      an accepted call of the check
-- Assumes nothing.
use Rattle.std.specs.Prelude.{⊤, Option, Some, None, Result, Ok, Err}
use Prim.Native.Nat.{ℕ, ◌<◌}
use mathlib.Core.Path.{◌≡◌, refl, sym, ap, ◌∙◌, subst}
use mathlib.Core.Bool.{Bool, true, false, false≢true}
use mathlib.Core.List.{List, [], ◌∷◌, map}
use mathlib.Core.Logic.{◌↔◌}
use native.Mathlib.Omega.{arith}
use borrow.Author.Tests.{eqb-true}
use lib.Dec.{eqb}
use lib.ListN.{length}
use lib.IntN.{ℤ}
use Rattle.tables.specs.Laws.{all_at}
use Rattle.lists.specs.declared.Fault.{Fault}
use Rattle.lists.specs.declared.Refusal.{Refusal}
use Rattle.lists.specs.Records.{component_count}
use Rattle.lists.specs.Ids.{has_component, smaller_ids}
use Rattle.checks.specs.Refusals.{refuse, too_short, room_for, ◌or_else◌, liveness_lists}
use Rattle.checks.proofs.Chain.{both_accept, refused_not}
use Rattle.checks.proofs.Accepted.{liveness_accept}
use Rattle.assessment.specs.Verdicts.{status_of, input_rows}
use Rattle.liveness.specs.Scene.{Scene}
use Rattle.liveness.specs.Sets.{checked}
use Rattle.liveness.proofs.Answers.{scene_of_lem}
use Rattle.inputs.specs.Query.{row_place}
use Rattle.inputs.specs.Port.{HasRow}
use Rattle.inputs.proofs.Inputs.{row_found}
use Rattle.inputs.proofs.Reported.{row_there, row_status}
use Rattle.trail.specs.Trail.{trail}
use Rattle.trail.specs.Port.{is_drive_id, feeds_next, feeds_into, port_trail}
use Rattle.trail.specs.Entries.{row_refusal, status_refusal, port_refusal, finder_lists, finder_refusal, check_refusal, BestLaid, Finding, Checking}
use Rattle.trail.specs.Theorems.{TrailExists, FindingLaws, CheckingLaws}
use Rattle.trail.proofs.Shortest.{trail_laws}
use Rattle.trail.proofs.Renamed.{trail_found, trail_to}
use Rattle.trail.proofs.Named.{trail_present, finding, naming, first_name, first_names}
use Rattle.trail.proofs.Status.{status_trail}
use Rattle.trail.proofs.Written.{status_some}

-- ---- what an accepted call says of the port

-- 10 is not given where the status is 0
zero_status : (b : Bool) → refuse Fault.NotDriven None (too_short b) ≡ Ok tt → b ≡ true
zero_status true e = refl
zero_status false e = absurd (refused_not e)

-- the port has a row, where 8 is not given
row_at : (place : Option ℕ) → row_refusal place ≡ Ok tt → (p : ℕ) × (place ≡ Some p)
row_at (Some p) e = (p, refl)
row_at None e = absurd (refused_not e)

status_at : (rules : ℕ) (cs ps fs : List ℤ) (port p : ℕ) → status_refusal rules cs ps fs port (Some p) ≡ Ok tt → status_of rules cs ps fs p port ≡ 0
status_at rules cs ps fs port p e = eqb-true (status_of rules cs ps fs p port) 0 (zero_status (eqb (status_of rules cs ps fs p port) 0) e)

-- a trail is not empty
some_trail : (cs ps fs : List ℤ) (id port : ℕ) (l : List ℕ) → port_trail cs ps fs id port l ≡ true → 0 < length l
unfolding trail
some_trail cs ps fs id port [] e = absurd (false≢true e)
some_trail cs ps fs id port (x ∷ l) e = omega arith

-- ---- where there is a trail

module _ (rules : ℕ) (cs ps fs : List ℤ) (scene : Scene cs ps) (id port p : ℕ) (row : row_place rules cs id port ≡ Some p) where
  trail_zero : (by : ℕ) (l : List ℕ) → port_trail cs ps fs id port l ≡ true → status_of by cs ps fs p port ≡ 0
  trail_zero by l e =
      let is = (row_found rules cs id port row).id_is in
      (status_trail cs ps fs scene p port by).1 (map (smaller_ids cs) l, trail_found (finding cs ps fs scene p port id is) l e)

  zero_trail : (by : ℕ) → status_of by cs ps fs p port ≡ 0 → (l : List ℕ) × (port_trail cs ps fs id port l ≡ true)
  zero_trail by e =
      let is = (row_found rules cs id port row).id_is in
      let t = (status_trail cs ps fs scene p port by).0 e in
      (map (first_name cs) t.0, trail_to (naming cs ps fs scene (first_name cs) (first_names cs scene.distinct) p port id is) t.0 t.1)

  exists : TrailExists cs ps fs id port p
  exists = record {
    status = λ by. (λ t. trail_zero by t.0 t.1, zero_trail by);
    reported = λ by there. (
      λ t. subst (λ (s : ℕ). HasRow id port s (input_rows by cs ps fs)) (trail_zero by t.0 t.1) (row_there by cs ps fs id port p there),
      λ h. zero_trail by (row_status by cs ps fs id port p there scene.distinct 0 h),
    );
  }

pub trail_exists : (rules : ℕ) (cs ps fs : List ℤ) (id port p : ℕ) → liveness_lists rules cs ps fs true ≡ Ok tt → row_place rules cs id port ≡ Some p → TrailExists cs ps fs id port p
trail_exists rules cs ps fs id port p lists row = exists rules cs ps fs (scene_of_lem (liveness_accept rules cs ps fs true lists)) id port p row

-- ---- the check

-- by what its checks say
checking_is : {rules : ℕ} {cs ps fs : List ℤ} {id port : ℕ} {l : List ℕ} → check_refusal rules cs ps fs id port ≡ Ok tt → (r : Result Bool Refusal)
    → Checking rules cs ps fs id port l r → r ≡ Ok (port_trail cs ps fs id port l)
checking_is accepts (Ok b) c = ap Ok c.by.accepts
checking_is accepts (Err refusal) c = absurd (let e = c.by.answer ∙ accepts in refused_not e)

pub checking_laws : {rules : ℕ} {cs ps fs : List ℤ} {id port : ℕ} {l : List ℕ} {b : Bool} → Checking rules cs ps fs id port l (Ok b) → CheckingLaws rules cs ps fs id port l b
checking_laws {rules} {cs} {ps} {fs} {id} {port} {l} c = record {
  all_trails = c.by.accepts;
  is_trail = λ a. sym c.by.accepts ∙ a;
  status = λ a. (row.0, row.1, trail_zero rules cs ps fs scene id port row.0 row.1 rules l (sym c.by.accepts ∙ a));
  present = λ a. all_at (λ y. has_component cs y ≡ true) l (trail_present cs ps fs scene (feeds_into ps id port) l (sym c.by.accepts ∙ a));
}
  where
    parts : (liveness_lists rules cs ps fs true ≡ Ok tt) × (row_refusal (row_place rules cs id port) ≡ Ok tt)
    parts = both_accept (liveness_lists rules cs ps fs true) (row_refusal (row_place rules cs id port)) (sym c.by.answer)

    row : (p : ℕ) × (row_place rules cs id port ≡ Some p)
    row = row_at (row_place rules cs id port) parts.1

    scene : Scene cs ps
    scene = scene_of_lem (liveness_accept rules cs ps fs true parts.0)

-- ---- the finder

module _ {rules : ℕ} {cs ps fs : List ℤ} {id port : ℕ} {trail₀ trail' : List ℕ} {count : ℕ} (f : Finding rules cs ps fs id port trail₀ trail' (Ok count)) where
  abbrev enough : Bool
  enough = room_for (component_count cs) 1 (length trail₀)

  parts : (liveness_lists rules cs ps fs enough ≡ Ok tt) × (port_refusal rules cs ps fs port (row_place rules cs id port) ≡ Ok tt)
  parts = both_accept (liveness_lists rules cs ps fs enough) (port_refusal rules cs ps fs port (row_place rules cs id port)) (sym f.by.answer)

  port_parts : (row_refusal (row_place rules cs id port) ≡ Ok tt) × (status_refusal rules cs ps fs port (row_place rules cs id port) ≡ Ok tt)
  port_parts = both_accept (row_refusal (row_place rules cs id port)) (status_refusal rules cs ps fs port (row_place rules cs id port)) parts.1

  -- the check's refusals accept too
  check_accepts : check_refusal rules cs ps fs id port ≡ Ok tt
  check_accepts =
      let room = (liveness_accept rules cs ps fs enough parts.0).scene.lengths.room in
      let lists : liveness_lists rules cs ps fs true ≡ Ok tt = ap (liveness_lists rules cs ps fs) (sym room) ∙ parts.0 in
      ap (λ (c : Result ⊤ Refusal). c or_else row_refusal (row_place rules cs id port)) lists ∙ port_parts.0

  laid_is : BestLaid cs ps fs id port trail₀ trail' count
  laid_is = f.by.found

  pub finding_laws : FindingLaws rules cs ps fs id port trail₀ trail' count
  finding_laws =
      let row = row_at (row_place rules cs id port) port_parts.0 in
      let zero : status_of rules cs ps fs row.0 port ≡ 0 =
      status_at rules cs ps fs port row.0 (subst (λ (w : Option ℕ). status_refusal rules cs ps fs port w ≡ Ok tt) row.1 port_parts.1) in
      let l = laid_is in
      let laws = trail_laws (is_drive_id cs fs) (feeds_next ps) (feeds_into ps id port) l.best in
      record {
        place = row.0;
        row = row.1;
        status = zero;
        reported = subst (λ (s : ℕ). HasRow id port s (input_rows rules cs ps fs)) zero (row_there rules cs ps fs id port row.0 row.1);
        found = l.found;
        trail_left = l.trail_left;
        count_is = l.count_is;
        best = l.best;
        some = omega (arith, l.count_is, some_trail cs ps fs id port l.found l.best.accepted);
        few = omega (arith, l.count_is, l.few);
        present = all_at (λ y. has_component cs y ≡ true) l.found
            (trail_present cs ps fs (scene_of_lem (liveness_accept rules cs ps fs enough parts.0)) (feeds_into ps id port) l.found l.best.accepted);
        one_drive = laws.one_drive;
        distinct = laws.distinct;
        accepted = λ r c. checking_is check_accepts r c ∙ ap Ok l.best.accepted;
        shortest = λ m c. l.best.shortest m (sym c.by.accepts);
        least = λ m c e. l.best.least m (sym c.by.accepts) e;
      }

-- where the lists are accepted and the port has a row, the finder answers exactly if the analysis has that row with status 0
pub found_exactly : {rules : ℕ} {cs ps fs : List ℤ} {id port : ℕ} {trail₀ trail' : List ℕ} {r : Result ℕ Refusal} → Finding rules cs ps fs id port trail₀ trail' r
    → finder_lists rules cs ps fs (length trail₀) ≡ Ok tt → (p : ℕ) → row_place rules cs id port ≡ Some p
    → (checked r ≡ Ok tt) ↔ HasRow id port 0 (input_rows rules cs ps fs)
found_exactly {rules} {cs} {ps} {fs} {id} {port} {trail₀} {trail'} {r} f lists p row = (go r f, λ has. f.by.answer ∙ accepted has)
  where
    go : (r : Result ℕ Refusal) → Finding rules cs ps fs id port trail₀ trail' r → checked r ≡ Ok tt → HasRow id port 0 (input_rows rules cs ps fs)
    go (Ok count) f e = (finding_laws f).reported
    go (Err refusal) f e = absurd (refused_not e)

    accepted : HasRow id port 0 (input_rows rules cs ps fs) → finder_refusal rules cs ps fs id port (length trail₀) ≡ Ok tt
    accepted has =
        let scene = scene_of_lem (liveness_accept rules cs ps fs (room_for (component_count cs) 1 (length trail₀)) lists) in
        ap (λ (c : Result ⊤ Refusal). c or_else port_refusal rules cs ps fs port (row_place rules cs id port)) lists
        ∙ ap (port_refusal rules cs ps fs port) row
        ∙ status_some rules cs ps fs p port (row_status rules cs ps fs id port p row scene.distinct 0 has)
