-- The components on frontiers, a frontier at a time.
--     first_below                              the first component at a position is one of the list
--     first_flagged                            what it flags, by a position of equal numbers
--     on_first                                  component p is the first at one of the first n frontiers
--     frontier_none, frontier_more             its flags: one frontier more
-- Assumes nothing.
use Rattle.std.specs.Prelude.{Option, Some, None}
use mathlib.Core.Path.{◌≡◌, refl, sym, ap, ◌∙◌}
use mathlib.Core.Bool.{Bool, false, ◌||◌}
use mathlib.Core.List.{List}
use Prim.Native.Nat.{ℕ, ◌+◌, ◌≤◌, ◌<◌}
use native.Mathlib.Omega.{arith}
use lib.ListN.{length, replicate, length-set, length-replicate, get_or-replicate}
use lib.IntN.{ℤ}
use Rattle.lists.specs.First.{first_from, some}
use Rattle.lists.specs.Records.{Position, component, frontier, component_count}
use Rattle.lists.proofs.Search.{or_false, found_at, some_more}
use Rattle.regions.specs.Graph.{marked}
use Rattle.signals.specs.Flags.{Flags, flag_found, FirstFlagged}
use Rattle.signals.specs.Sources.{same_position, first_at, is_at}
use Rattle.signals.proofs.Marks.{set_marked}

pub first_below : (cs : List ℤ) (position : Position) (p : ℕ) → first_at cs position ≡ Some p → p < component_count cs
unfolding first_at
first_below cs position p e = omega (arith, (found_at (λ q. same_position (component cs q) position) 0 (component_count cs) p e).below)

-- ---- flags

pub first_flagged : (cs : List ℤ) (position : Position) {x y z : ℤ} {flags flags' : List Bool} → x ≡ position.x → y ≡ position.y → z ≡ position.z
    → FirstFlagged (first_at cs (record { x = x; y = y; z = z })) flags flags' → FirstFlagged (first_at cs position) flags flags'
first_flagged cs position e f g s = rw (← e, ← f, ← g) s

flag_found_lem : (found : Option ℕ) (flags : List Bool) → ((q : ℕ) → found ≡ Some q → q < length flags) → (p : ℕ) → marked (flag_found found flags) p ≡ (marked flags p || is_at p found)
flag_found_lem (Some q) flags h p = set_marked flags q p (h q refl)
flag_found_lem None flags h p = or_false (marked flags p)

pub flag_length : (found : Option ℕ) (flags : List Bool) → length (flag_found found flags) ≡ length flags
flag_length (Some q) flags = simp length-set
flag_length None flags = refl

abbrev pub on_first : List ℤ → List ℤ → ℕ → ℕ → Bool
on_first cs fs n p = some (λ j. is_at p (first_at cs (frontier fs j))) n

module _ (cs fs : List ℤ) where
  pub frontier_none : (n : ℕ) → component_count cs ≤ n → Flags (component_count cs) (on_first cs fs 0) (replicate n false)
  unfolding first_from
  frontier_none n h = record { long = simp length-replicate h; at = λ p l. get_or-replicate n p false false (omega arith) }

  pub frontier_more : (j : ℕ) {flags flags' : List Bool} → Flags (component_count cs) (on_first cs fs j) flags → FirstFlagged (first_at cs (frontier fs j)) flags flags'
      → Flags (component_count cs) (on_first cs fs (j + 1)) flags'
  frontier_more j {flags} {flags'} f s =
      let found = first_at cs (frontier fs j) in
      rw s.is record {
        long = rw (flag_length found flags) f.long;
        at = λ p h.
            flag_found_lem found flags (λ q e. omega (arith, first_below cs (frontier fs j) q e, f.long)) p
            ∙ ap (λ (t : Bool). t || is_at p found) (f.at p h) ∙ sym (some_more (λ i. is_at p (first_at cs (frontier fs i))) j);
      }
