-- What follows for callers, from the contracts alone.
--     seven_cleared       where the liveness entry refuses with 7, it accepts the cleared list with the same lent slices
--     seven_first         and its item is the first dropped one
--     liveness_accepts    what the liveness entry answers on the rows that a call left
--     regions_follow      so demand 3 holds of what follows
--     first_item          where it refuses the given list with 7, its item is the first number of the dropped list
--     no_fault_back       a scene with no fault comes back whole with an empty list
--     Again, again        a second call on these rows drops nothing and leaves the same rows
-- Assumes nothing.
use Rattle.std.specs.Prelude.{None, Result, Ok, Err}
use mathlib.Core.Path.{◌≡◌, refl, sym, ap, ◌∙◌}
use mathlib.Core.Bool.{Bool, true}
use mathlib.Core.List.{List, ◌∷◌}
use Prim.Native.Nat.{ℕ, ◌*◌}
use native.Mathlib.Omega.{arith}
use lib.ListN.{length, take, get_or}
use lib.IntN.{ℤ}
use Rattle.std.specs.List.{flat_map}
use Rattle.lists.specs.declared.Fault.{Fault}
use Rattle.lists.specs.declared.Refusal.{Refusal}
use Rattle.lists.specs.Limits.{port_width}
use Rattle.lists.specs.Refusal.{fault_number}
use Rattle.lists.specs.Ranges.{first_out_of_range, port_low, port_high}
use Rattle.lists.specs.Slices.{laid}
use Rattle.checks.specs.Refusals.{refuse, too_short, liveness_lists, liveness_room}
use Rattle.checks.proofs.Accepts.{scene_accept}
use Rattle.checks.proofs.Accepted.{liveness_accept}
use Rattle.checks.proofs.Chain.{refused_not}
use Rattle.liveness.specs.Sets.{checked}
use Rattle.liveness.specs.Demand.{RegionsOfScene}
use Rattle.liveness.specs.Entry.{Analyzed}
use Rattle.liveness.specs.declared.Analysis.{Analysis}
use Rattle.clearing.specs.Parts.{dropped_row, dropped_items, kept_rows}
use Rattle.clearing.specs.Entry.{except_missing, clearing_room, ClearsBy, Clears}
use Rattle.clearing.specs.declared.Cleared.{Cleared}
use Rattle.clearing.proofs.Numbers.{seven_means}
use Rattle.clearing.proofs.Kept.{kept_long}
use Rattle.clearing.proofs.Promises.{none_dropped, whole_back, cleared_scene, front_is, first_dropped}

-- ---- where the liveness entry refuses with 7

module _ (rules : ℕ) (cs ps fs : List ℤ) (enough : Bool) (r : Refusal) (e : liveness_lists rules cs ps fs enough ≡ Err r) (seven : fault_number r.fault ≡ 7) where
  pub seven_cleared : liveness_lists rules cs (kept_rows cs ps) fs enough ≡ Ok tt
  seven_cleared =
      let s = scene_accept rules cs port_width (length ps) (first_out_of_range port_low port_high ps) fs enough (seven_means rules cs ps fs enough r e seven).0 in
      (cleared_scene rules cs ps fs enough s).accepted enough ∙ ap (λ (t : Bool). refuse Fault.ShortSlice None (too_short t)) s.lengths.room

  pub seven_first : (rest : List ℕ) × (dropped_items cs ps ≡ r.item ∷ rest)
  seven_first = first_dropped cs ps r.item (seven_means rules cs ps fs enough r e seven).1

-- ---- what an accepted call left

-- the port connections at the front of a slice
abbrev pub kept_front : Cleared → List ℤ → List ℤ
kept_front c kept = take (c.kept * port_width) kept

-- an answer that no check refuses
accepts : {A : Type 0} (r : Result A Refusal) → checked r ≡ Ok tt → (a : A) × (r ≡ Ok a)
accepts (Ok a) e = (a, refl)
accepts (Err r) e = absurd (refused_not e)

module _ {rules : ℕ} {cs ps fs kept kept' : List ℤ} {dropped dropped' : List ℕ} {c : Cleared} (call : Clears rules cs ps fs kept kept' dropped dropped' (Ok c)) where
  -- the parts of the answer, of a scene that is taken
  taken : ClearsBy (Ok tt) cs ps kept kept' dropped dropped' (Ok c)
  taken = rw (sym call.by.answer) at call.by

  pub kept_are : kept_front c kept' ≡ kept_rows cs ps
  kept_are = front_is cs ps kept kept' c.kept taken.kept_left taken.counts.kept_count

  pub kept_places : length (kept_rows cs ps) ≡ c.kept * port_width
  kept_places = omega (arith, kept_long cs ps, taken.counts.kept_count)

  -- the liveness entry takes these rows, given room
  module _ {regions regions' sources sources' inputs inputs' stack stack' : List ℕ} {r : Result Analysis Refusal}
      (a : Analyzed rules cs (kept_front c kept') fs regions regions' sources sources' inputs inputs' stack stack' r)
      (room : liveness_room cs (length regions) (length sources) (length inputs) (length stack) ≡ true) where
    pub liveness_accepts : checked r ≡ Ok tt
    liveness_accepts = a.by.answer ∙ (call.promise.accepted _ ∙ ap (λ (t : Bool). refuse Fault.ShortSlice None (too_short t)) room)

    pub regions_follow : (found : Analysis) × (r ≡ Ok found) × RegionsOfScene cs (kept_rows cs ps) regions' found.regions
    regions_follow =
        let (found, e) = accepts r liveness_accepts in
        (found, e, rw kept_are at (rw e at a.demand))

  -- and where it refuses the given list with 7, the first number of the dropped list is its item
  pub first_item : {regions regions' sources sources' inputs inputs' stack stack' : List ℕ} {r : Refusal}
      → Analyzed rules cs ps fs regions regions' sources sources' inputs inputs' stack stack' (Err r) → fault_number r.fault ≡ 7
      → get_or dropped' 0 0 ≡ r.item
  first_item {r = r} a seven =
      let (rest, e) = seven_first rules cs ps fs _ r (sym a.by.answer) seven in
      ap (λ (l : List ℕ). get_or l 0 0) (taken.dropped_left ∙ ap (λ (items : List ℕ). laid (flat_map (dropped_row cs ps) items) dropped) e)

  -- a scene with no fault
  pub no_fault_back : liveness_lists rules cs ps fs (clearing_room ps (length kept) (length dropped)) ≡ Ok tt
      → (kept_front c kept' ≡ ps) × (c.dropped ≡ 0) × (dropped' ≡ dropped)
  no_fault_back e =
      let s = liveness_accept rules cs ps fs _ e in
      let none = none_dropped cs ps s.ends in (
        kept_are ∙ whole_back cs ps s.ends s.scene.lengths.connections_whole,
        taken.counts.dropped_count ∙ ap length none,
        taken.dropped_left ∙ ap (λ (items : List ℕ). laid (flat_map (dropped_row cs ps) items) dropped) none,
      )

-- ---- a second call on these rows, given room

-- it is taken, drops nothing and leaves the same rows
pub record Again (kept' : List ℤ) (c : Cleared) (kept₂' : List ℤ) (dropped₂ dropped₂' : List ℕ) (r₂ : Result Cleared Refusal) : Type 0 where
  pub counts : Cleared
  pub answer : r₂ ≡ Ok counts
  pub kept_same : counts.kept ≡ c.kept
  pub none_dropped : counts.dropped ≡ 0
  pub rows_same : kept_front counts kept₂' ≡ kept_front c kept'
  pub dropped_same : dropped₂' ≡ dropped₂

module _ {rules : ℕ} {cs ps fs kept kept' : List ℤ} {dropped dropped' : List ℕ} {c : Cleared} (call : Clears rules cs ps fs kept kept' dropped dropped' (Ok c))
    {kept₂ kept₂' : List ℤ} {dropped₂ dropped₂' : List ℕ} {r₂ : Result Cleared Refusal} (call₂ : Clears rules cs (kept_front c kept') fs kept₂ kept₂' dropped₂ dropped₂' r₂)
    (room : clearing_room (kept_front c kept') (length kept₂) (length dropped₂) ≡ true) where
  again_accepts : liveness_lists rules cs (kept_front c kept') fs (clearing_room (kept_front c kept') (length kept₂) (length dropped₂)) ≡ Ok tt
  again_accepts = call.promise.accepted _ ∙ ap (λ (t : Bool). refuse Fault.ShortSlice None (too_short t)) room

  pub again : Again kept' c kept₂' dropped₂ dropped₂' r₂
  again =
      let (counts, e) = accepts r₂ (call₂.by.answer ∙ ap except_missing again_accepts) in
      let second : Clears rules cs (kept_front c kept') fs kept₂ kept₂' dropped₂ dropped₂' (Ok counts) = rw e at call₂ in
      let (rows, none, same) = no_fault_back second again_accepts in
      record {
        counts = counts;
        answer = e;
        kept_same =
            let list : kept_rows cs (kept_front c kept') ≡ kept_rows cs ps = call.promise.again_kept ∙ kept_are call in
            omega (arith, ap length list, kept_places second, kept_places call);
        none_dropped = none;
        rows_same = rows;
        dropped_same = same;
      }
