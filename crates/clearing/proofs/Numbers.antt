-- The refusals of the clearing tool: those of the liveness entry save number 7, which are 11 and 1 to 5.
--     scene_only       what is left of the liveness entry's checks without number 7
--     as_before        any other fault is refused with the same number, list and item
--     refuses_with     the tool refuses with 11 and 1 to 5 only
--     clear_small      a refusal has room in its digits
--     seven_means      where the liveness entry refuses with 7, checks 11 and 1 to 5 accept, and the item is the first with a missing end
-- Assumes nothing.
use Rattle.std.specs.Prelude.{⊤, Option, Some, None, Result, Ok, Err}
use mathlib.Core.Path.{◌≡◌, refl, sym, ap, subst, ◌∙◌}
use mathlib.Core.Logic.{◌⊎◌, ⊎_elim, inl, inr}
use mathlib.Core.Bool.{Bool, true, false, cond}
use mathlib.Core.List.{List}
use Prim.Native.Nat.{ℕ, ◌≤◌}
use native.Mathlib.Omega.{arith}
use lib.Dec.{eqb, lit≤}
use lib.ListN.{length}
use lib.IntN.{ℤ}
use borrow.Author.Tests.{ne_eqb}
use Rattle.lists.specs.declared.Fault.{Fault}
use Rattle.lists.specs.declared.Section.{Section}
use Rattle.lists.specs.declared.Refusal.{Refusal}
use Rattle.lists.specs.Limits.{component_limit, connection_limit, frontier_limit, component_width, port_width, frontier_width}
use Rattle.lists.specs.Refusal.{fault_number}
use Rattle.lists.specs.Ranges.{first_out_of_range, component_low, component_high, port_low, port_high, frontier_low, frontier_high}
use Rattle.lists.specs.Order.{first_not_ascending, component_order}
use Rattle.lists.specs.Ids.{first_repeated, first_end_missing}
use Rattle.checks.specs.Refusals.{refuse, not_whole, too_short, strange_rules, scene_lists, liveness_lists, Small, ◌or_else◌}
use Rattle.checks.proofs.Accepts.{scene_parts, liveness_parts}
use Rattle.checks.proofs.Small.{liveness_small}
use Rattle.checks.proofs.Chain.{refused_not}
use Rattle.clearing.specs.Entry.{except_missing, clearing_room, clear_refusal}

-- ---- 11, and 1 to 5

-- the numbers of the tool
abbrev Told : ℕ → Type 0
Told n = (n ≡ 11) ⊎ ((1 ≤ n) × (n ≤ 5))

-- what refuses does so with one of them
record Low (checks : Result ⊤ Refusal) : Type 0 where
  number : (r : Refusal) → checks ≡ Err r → Told (fault_number r.fault)

not_seven : {n : ℕ} → Told n → n ≡ 7 → ⊥
not_seven told e = ⊎_elim (λ h. omega (arith, h, e)) (λ h. omega (arith, h, e)) told

refused_same : {q r : Refusal} → ◌≡◌ {A = Result ⊤ Refusal} (Err q) (Err r) → q ≡ r
refused_same e = cc

at : (fault : Fault) → Told (fault_number fault) → (list : Option Section) (f : Option ℕ) → Low (refuse fault list f)
at fault told list f = record { number = go f }
  where
    go : (f : Option ℕ) (r : Refusal) → refuse fault list f ≡ Err r → Told (fault_number r.fault)
    go (Some k) r e =
        let same : fault ≡ r.fault = ap (λ (q : Refusal). q.fault) (refused_same e) in
        subst (λ (g : Fault). Told (fault_number g)) same told
    go None r e = absurd (refused_not (sym e))

then : {a b : Result ⊤ Refusal} → Low a → Low b → Low (a or_else b)
then {a = Ok tt} p q = q
then {a = Err r} p q = p

scene_low : (rules : ℕ) (cs : List ℤ) (width connections : ℕ) (found : Option ℕ) (fs : List ℤ) (enough : Bool)
    → Low (scene_lists rules cs width connections found fs enough)
scene_low rules cs width connections found fs enough =
    let one = at Fault.ListLength (inr (lit≤ tt, lit≤ tt)) in
    let three = at Fault.OutOfRange (inr (lit≤ tt, lit≤ tt)) in
    let parts =
    then
    (then
    (then (at Fault.UnknownRules (inl refl) None (strange_rules rules))
    (then (one (Some Section.Components) (not_whole component_width component_limit (length cs)))
    (then (one (Some Section.Connections) (not_whole width connection_limit connections))
    (then (one (Some Section.Frontiers) (not_whole frontier_width frontier_limit (length fs)))
    (at Fault.ShortSlice (inr (lit≤ tt, lit≤ tt)) None (too_short enough))))))
    (then (three (Some Section.Components) (first_out_of_range component_low component_high cs))
    (then (three (Some Section.Connections) found)
    (three (Some Section.Frontiers) (first_out_of_range frontier_low frontier_high fs)))))
    (then (at Fault.UnsortedComponents (inr (lit≤ tt, lit≤ tt)) (Some Section.Components) (first_not_ascending component_order component_width cs))
    (at Fault.RepeatedId (inr (lit≤ tt, lit≤ tt)) (Some Section.Components) (first_repeated cs))) in
    rw (scene_parts rules cs width connections found fs enough) at parts

-- ---- 7 comes last

abbrev missing : Option ℕ → Result ⊤ Refusal
missing f = refuse Fault.MissingEnd (Some Section.Connections) f

except_last : (a : Result ⊤ Refusal) → Low a → (f : Option ℕ) → except_missing (a or_else missing f) ≡ a
except_last (Ok tt) p (Some k) = refl
except_last (Ok tt) p None = refl
except_last (Err r) p f = rw (ne_eqb (fault_number r.fault) 7 (not_seven (p.number r refl)))

seven_last : (a : Result ⊤ Refusal) → Low a → (f : Option ℕ) (r : Refusal) → a or_else missing f ≡ Err r → fault_number r.fault ≡ 7
    → (a ≡ Ok tt) × (f ≡ Some r.item)
seven_last (Ok tt) p (Some k) r e s = (refl, ap (λ (q : Refusal). Some q.item) (refused_same e))
seven_last (Ok tt) p None r e s = absurd (refused_not (sym e))
seven_last (Err q) p f r e s = absurd (not_seven (p.number r e) s)

module _ (rules : ℕ) (cs ps fs : List ℤ) (enough : Bool) where
  abbrev scene : Result ⊤ Refusal
  scene = scene_lists rules cs port_width (length ps) (first_out_of_range port_low port_high ps) fs enough

  low : Low scene
  low = scene_low rules cs port_width (length ps) (first_out_of_range port_low port_high ps) fs enough

  pub scene_only : except_missing (liveness_lists rules cs ps fs enough) ≡ scene
  scene_only = ap except_missing (sym (liveness_parts rules cs ps fs enough)) ∙ except_last scene low (first_end_missing cs ps)

  pub seven_means : (r : Refusal) → liveness_lists rules cs ps fs enough ≡ Err r → fault_number r.fault ≡ 7
      → (scene ≡ Ok tt) × (first_end_missing cs ps ≡ Some r.item)
  seven_means r e s = seven_last scene low (first_end_missing cs ps) r (liveness_parts rules cs ps fs enough ∙ e) s

-- ---- what the tool refuses

module _ (rules : ℕ) (cs ps fs : List ℤ) (kept dropped : ℕ) (r : Refusal) where
  -- any other fault is refused as before: the same number, list and item
  pub as_before : liveness_lists rules cs ps fs (clearing_room ps kept dropped) ≡ Err r → (fault_number r.fault ≡ 7 → ⊥)
      → clear_refusal rules cs ps fs kept dropped ≡ Err r
  as_before e other = ap except_missing e ∙ rw (ne_eqb (fault_number r.fault) 7 other)

  -- and with 11 or 1 to 5
  pub refuses_with : clear_refusal rules cs ps fs kept dropped ≡ Err r
      → (fault_number r.fault ≡ 11) ⊎ ((1 ≤ fault_number r.fault) × (fault_number r.fault ≤ 5))
  refuses_with e =
      let enough = clearing_room ps kept dropped in
      (low rules cs ps fs enough).number r (sym (scene_only rules cs ps fs enough) ∙ e)

-- ---- as one number

except_small : (a : Result ⊤ Refusal) → Small a → Small (except_missing a)
except_small (Ok tt) s = s
except_small (Err r) s = go (eqb (fault_number r.fault) 7)
  where
    go : (t : Bool) → Small (cond t (Ok tt) (Err r))
    go true = tt
    go false = s

pub clear_small : (rules : ℕ) (cs ps fs : List ℤ) (kept dropped : ℕ) → Small (clear_refusal rules cs ps fs kept dropped)
clear_small rules cs ps fs kept dropped =
    let enough = clearing_room ps kept dropped in
    except_small (liveness_lists rules cs ps fs enough) (liveness_small rules cs ps fs enough)
