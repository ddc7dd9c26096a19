-- Flags of slots, a port connection at a time.
--     flag_at                               a slot's flag in the list of that flag
--     slots_none, slots_same, slots_more    `SlotFlags`: one port connection more
-- Assumes nothing.
use mathlib.Core.Path.{◌≡◌, refl, sym, ap, subst, ◌∙◌}
use mathlib.Core.Bool.{Bool, true, false, ◌&&◌, ◌||◌}
use mathlib.Core.List.{List, map}
use Prim.Native.Nat.{ℕ, ◌+◌, ◌≤◌, ◌<◌}
use native.Mathlib.Omega.{arith}
use lib.Dec.{eqb}
use borrow.Author.Tests.{ne_eqb}
use Rattle.std.specs.Prelude.{Some, None}
use Rattle.lists.specs.First.{some, first_from}
use Rattle.assessment.proofs.Required.{and_none}
use lib.ListN.{length, get_or, set, replicate, length-map, get_or-map, length-replicate, get_or-replicate}
use lib.Seq.{map-set}
use lib.IntN.{ℤ}
use Rattle.regions.specs.Graph.{marked}
use Rattle.signals.specs.Flags.{GatheredBy}
use Rattle.assessment.specs.declared.slots.Slot.{Slot}
use Rattle.assessment.specs.Places.{slot_count, slot_at, slot_number, unfed, SlotFlags}
use Rattle.lists.proofs.Search.{or_true, or_false, some_more}
use Rattle.signals.proofs.Marks.{by_more}

-- an index past the flags sets none
past : (index : ℕ → ℕ) (test : ℕ → Bool) (k : ℕ) {out : List Bool} → GatheredBy k index test out → length out ≤ index k → GatheredBy (k + 1) index test out
past index test k {out} g h = record {
  at = λ j l.
      let other : eqb (index k) j ≡ false = ne_eqb (index k) j (λ e. omega arith) in
      g.at j l ∙ or_false _ ∙ sym (ap (λ (t : Bool). some (λ q. test q && eqb (index q) j) k || t) (rw other (and_none (test k))))
      ∙ sym (some_more (λ q. test q && eqb (index q) j) k);
}

module _ (flag : Slot → Bool) (off : flag unfed ≡ false) where
  pub flag_at : (slots : List Slot) (j : ℕ) → marked (map flag slots) j ≡ flag (get_or slots j unfed)
  flag_at slots j = subst (λ (d : Bool). get_or (map flag slots) j d ≡ flag (get_or slots j unfed)) off (get_or-map flag slots j unfed)

  -- no slot is flagged
  none : (index : ℕ → ℕ) (test : ℕ → Bool) → GatheredBy 0 index test (map flag (replicate slot_count unfed))
  unfolding first_from
  none index test = record {
    at = λ j h. flag_at (replicate slot_count unfed) j ∙ ap flag (get_or-replicate slot_count j unfed unfed (rw (length-map, length-replicate) at h)) ∙ off;
  }

  -- a slot's flag takes one test more
  more : (index : ℕ → ℕ) (test : ℕ → Bool) (k : ℕ) (slots : List Slot) → GatheredBy k index test (map flag slots) → (j : ℕ) → j ≡ index k → j < length slots
      → (s : Slot) (v : Bool) → flag s ≡ (flag (get_or slots j unfed) || v) → v ≡ test k → GatheredBy (k + 1) index test (map flag (set slots j s))
  more index test k slots g j e h s v is t =
      subst (GatheredBy (k + 1) index test)
      (ap (λ (b : Bool). set (map flag slots) j (b || v)) (flag_at slots j) ∙ ap (set (map flag slots) j) (sym is) ∙ sym (map-set flag slots j s))
      (by_more index test k g j v e t (omega (arith, h, length-map slots flag)))

module _ (ps : List ℤ) (sources sinks : List ℕ) (drive potential : List Bool) where
  abbrev here : ℕ → ℕ
  here k = slot_number (slot_at ps k (get_or sinks k 0))

  pub slots_none : SlotFlags 0 ps sources sinks drive potential (replicate slot_count unfed)
  slots_none = record { fed_flags = none (λ s. s.fed) refl _ _; driven_flags = none (λ s. s.driven) refl _ _; possible_flags = none (λ s. s.possible) refl _ _ }

  module _ (k : ℕ) {slots : List Slot} (f : SlotFlags k ps sources sinks drive potential slots) (room : length slots ≡ slot_count) where
    -- the connection feeds no slot
    pub slots_same : slot_at ps k (get_or sinks k 0) ≡ None → SlotFlags (k + 1) ps sources sinks drive potential slots
    slots_same e =
        let is : here k ≡ slot_count = ap slot_number e in
        record {
          fed_flags = past _ _ k f.fed_flags (omega (arith, is, room, length-map slots (λ s. s.fed)));
          driven_flags = past _ _ k f.driven_flags (omega (arith, is, room, length-map slots (λ s. s.driven)));
          possible_flags = past _ _ k f.possible_flags (omega (arith, is, room, length-map slots (λ s. s.possible)));
        }

    pub slots_more : (j : ℕ) → Some j ≡ slot_at ps k (get_or sinks k 0) → j < slot_count → (u v : Bool) → u ≡ marked drive (get_or sources k 0) → v ≡ marked potential (get_or sources k 0)
        → SlotFlags (k + 1) ps sources sinks drive potential
        (set slots j (record { fed = true; driven = (get_or slots j unfed).driven || u; possible = (get_or slots j unfed).possible || v }))
    slots_more j e h u v du pv =
        let at_here : j ≡ here k = ap slot_number e in
        let below : j < length slots = omega (arith, room, h) in
        record {
          fed_flags = more (λ s. s.fed) refl _ _ k slots f.fed_flags j at_here below _ true (or_true (get_or slots j unfed).fed) refl;
          driven_flags = more (λ s. s.driven) refl _ _ k slots f.driven_flags j at_here below _ u refl du;
          possible_flags = more (λ s. s.possible) refl _ _ k slots f.possible_flags j at_here below _ v refl pv;
        }
