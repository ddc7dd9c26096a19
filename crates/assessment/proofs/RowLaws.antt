-- The rows that are written are those of `Verdicts`.
--     verdicts_are         the verdict rows
--     no_rows              there are none where no component has a required port
--     members_within       the members by list place are indices
--     sources_are          the source rows
--     inferred_alone       an inferred component is on no frontier
-- Assumes nothing.
use Rattle.std.specs.Prelude.{None}
use mathlib.Core.Path.{◌≡◌, refl, sym, ap, ◌∙◌}
use mathlib.Core.Bool.{Bool, true, false, not, ◌&&◌}
use mathlib.Core.List.{List, [], ◌++◌}
use Prim.Native.Nat.{ℕ, zero, suc, ◌+◌, ◌≤◌, ◌<◌}
use native.Mathlib.Omega.{arith}
use lib.Dec.{eqb, leb}
use lib.ListN.{length, get_or}
use lib.IntN.{ℤ}
use borrow.Author.Tests.{eq-eqb, not-true}
use Rattle.lists.specs.Limits.{component_limit}
use Rattle.lists.specs.Records.{component, component_count, port_count}
use Rattle.lists.specs.Ids.{member_of, first_end_missing}
use Rattle.lists.specs.Ends.{Settled}
use Rattle.lists.specs.First.{is_found}
use Rattle.lists.proofs.Members.{member_below}
use Rattle.lists.proofs.Search.{never, both, or_true}
use Rattle.regions.specs.Graph.{marked}
use Rattle.signals.specs.Flags.{Flags, Numbers, Indices}
use Rattle.signals.specs.Sources.{source_kind, is_on_frontier, is_drive}
use Rattle.signals.specs.Regions.{wire, is_inferred, holds_drive, region_of_place, neighbours, fed_from_outside}
use Rattle.assessment.specs.Verdicts.{status_of, verdict_rows, input_rows, sources_at, source_rows_below}
use Rattle.assessment.specs.Rows.{device_rows, first_required, required_count, NoneRequired, rows_below, sources_below, InferredAlone}
use Rattle.assessment.specs.declared.slots.Slot.{Slot}
use Rattle.assessment.specs.Places.{places, slot_of, slot_count, SlotFlags, LiveMarks, status_at}
use Rattle.lists.proofs.Some.{some_at, and_true}
use Rattle.assessment.proofs.Devices.{count_most, first_most}
use Rattle.assessment.proofs.Statuses.{status_is}
use Rattle.assessment.proofs.Required.{port_rows_lem}

-- ---- source rows

module _ (rules : ℕ) (cs ps fs : List ℤ) {frontier inferred : List Bool} (f : Flags (component_count cs) (is_on_frontier cs fs) frontier)
    (g : Flags (component_count cs) (is_inferred rules cs ps fs) inferred) where
  pub sources_are : (n : ℕ) → n ≤ component_count cs → sources_below cs frontier inferred n ≡ source_rows_below rules cs ps fs n
  unfolding sources_below source_rows_below sources_at
  sources_are zero h = refl
  sources_are (suc p) h = rw (sources_are p (omega arith), f.at p (omega arith), g.at p (omega arith))

  alone : (p : ℕ) → p < component_count cs → (t : Bool) → is_on_frontier cs fs p ≡ t → is_inferred rules cs ps fs p ≡ true → marked frontier p ≡ false
  unfolding is_inferred holds_drive
  alone p h false q e = f.at p h ∙ q
  alone p h true q e =
      let r = region_of_place cs ps p in
      let few = leb (neighbours cs ps (member_of cs p)) 1 in
      let cold = not (holds_drive cs ps fs r) in
      let inner = not (fed_from_outside rules cs ps r) in
      let undriven = (both cold inner (both few (cold && inner) (both (eqb (component cs p).kind wire) (few && (cold && inner)) e).1).1).0 in
      let driven = some_at (λ j. is_drive cs fs j && eqb (region_of_place cs ps j) r) (component_count cs) p h
      (and_true (is_drive cs fs p) (eqb r r) (rw q (sym (or_true (is_found (source_kind (component cs p).kind))))) (eq-eqb r r refl)) in
      never (sym (not-true (holds_drive cs ps fs r) undriven) ∙ driven)

  pub inferred_alone : InferredAlone cs frontier inferred
  inferred_alone = record { at = λ p h e. alone p h (is_on_frontier cs fs p) refl (sym (g.at p h) ∙ e) }

-- ---- verdict rows

pub members_within : (cs : List ℤ) {members : List ℕ} → component_count cs ≤ component_limit → Numbers (component_count cs) (member_of cs) members
    → Indices (component_count cs) component_limit members
members_within cs few numbers = record { long = numbers.long; below = λ p h. omega (arith, numbers.at p h, member_below cs p h) }

pub no_rows : (rules : ℕ) (cs ps fs : List ℤ) → NoneRequired rules cs → (n : ℕ) → n ≤ component_count cs → verdict_rows rules cs ps fs n ≡ []
unfolding verdict_rows device_rows
no_rows rules cs ps fs none zero h = refl
no_rows rules cs ps fs none (suc p) h = rw (no_rows rules cs ps fs none p (omega arith), port_rows_lem rules cs ps fs p, none.at p (omega arith))

-- rows by statuses that are the same at the ports that count
rows_cong : (id first : ℕ) (P Q : ℕ → ℕ) (n : ℕ) → ((j : ℕ) → j < n → P (first + j) ≡ Q (first + j)) → device_rows id first P n ≡ device_rows id first Q n
unfolding device_rows
rows_cong id first P Q zero h = refl
rows_cong id first P Q (suc n) h = rw (rows_cong id first P Q n (λ j l. h j (omega arith)), h n (omega arith))

module _ (rules : ℕ) (cs ps fs : List ℤ) (status : ℕ → ℕ → ℕ) (same : (p port : ℕ) → p < component_count cs → port < places → status p port ≡ status_of rules cs ps fs p port) where
  by_status : (n : ℕ) → n ≤ component_count cs → rows_below rules cs status n ≡ verdict_rows rules cs ps fs n
  unfolding rows_below verdict_rows
  by_status zero h = refl
  by_status (suc p) h =
      let kind = (component cs p).kind in
      let facing = (component cs p).facing in
      rw (by_status p (omega arith), port_rows_lem rules cs ps fs p)
      (ap (λ (r : List ℕ). verdict_rows rules cs ps fs p ++ r)
      (rows_cong (component cs p).id (first_required kind) (status p) (status_of rules cs ps fs p) (required_count rules kind facing)
      (λ j l. same p (first_required kind + j) (omega arith) (omega (arith, count_most rules kind facing, first_most kind)))))

module _ {cs ps : List ℤ} {sources sinks members : List ℕ} {drive potential : List Bool} {slots : List Slot} (few : component_count cs ≤ component_limit)
    (s : Settled cs ps 0 sources) (t : Settled cs ps 2 sinks) (ends : first_end_missing cs ps ≡ None) (numbers : Numbers (component_count cs) (member_of cs) members)
    (f : SlotFlags (port_count ps) ps sources sinks drive potential slots) (room : length slots ≡ slot_count) where
  pub verdicts_are : (rules : ℕ) (fs : List ℤ) → LiveMarks rules cs ps fs drive potential
      → rows_below rules cs (λ p port. status_at slots (slot_of (get_or members p 0) port)) (component_count cs) ≡ input_rows rules cs ps fs
  verdicts_are rules fs live =
      by_status rules cs ps fs (λ p port. status_at slots (slot_of (get_or members p 0) port))
      (λ p port h l. ap (λ (m : ℕ). status_at slots (slot_of m port)) (numbers.at p h) ∙ status_is few s t ends p port h l f room rules fs live)
      (component_count cs) (omega arith)
