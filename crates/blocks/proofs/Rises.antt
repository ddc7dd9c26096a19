-- The ids of a set's members rise.
--     ids_rise       strictly, by the table of ids
-- Assumes nothing.
use Rattle.std.specs.Prelude.{None}
use mathlib.Core.Path.{◌≡◌, refl, ap, ◌∙◌}
use mathlib.Core.Bool.{Bool, true, false, cond}
use mathlib.Core.Logic.{⊎_elim}
use mathlib.Core.List.{List, ◌∷◌}
use Prim.Native.Nat.{ℕ, zero, suc, ◌+◌, ◌/◌, ◌≤◌, ◌<◌}
use native.Mathlib.Omega.{arith}
use lib.ListN.{length, get_or}
use lib.IntN.{ℤ}
use Rattle.tables.specs.Order.{StrictlyAscending}
use Rattle.tables.specs.Laws.{order?}
use Rattle.tables.specs.Pairs.{span}
use Rattle.sets.specs.Members.{member_of}
use Rattle.lists.specs.Ids.{IdTable, smaller_ids, first_repeated}
use Rattle.lists.proofs.Table.{table_rising}
use Rattle.lists.proofs.Members.{member_key}
use Rattle.blocks.specs.Blocks.{ids_from}
use Rattle.blocks.specs.Rising.{IdsRise}

-- a number before greater ones
rises_more : (x : ℕ) (xs : List ℕ) → ((i : ℕ) → i < length xs → x < get_or xs i 0) → StrictlyAscending xs → StrictlyAscending (x ∷ xs)
rises_more x xs less rise = record { at = go }
  where
    go : (i j : ℕ) → i < j → j < length (x ∷ xs) → get_or (x ∷ xs) i 0 < get_or (x ∷ xs) j 0
    go i zero l h = absurd (omega arith)
    go zero (suc j) l h = less j (omega arith)
    go (suc i) (suc j) l h = rise.at i j (omega arith) (omega arith)

module _ {cs : List ℤ} {keys : List ℕ} (table : IdTable cs keys) (once : first_repeated cs ≡ None) where
  -- key i of the table has i smaller ids
  smaller_key : (i : ℕ) → i < length keys → smaller_ids cs (get_or keys i 0 / span) ≡ i
  smaller_key i h = let m = member_key table i h in ap (smaller_ids cs) m.id ∙ m.stands.member once

  id_less : (i j : ℕ) → i < j → j < length keys → get_or keys i 0 / span < get_or keys j 0 / span
  id_less i j l h =
      let le = (table_rising table).at i j (omega arith) h in
      ⊎_elim
      (λ (back : get_or keys j 0 / span ≤ get_or keys i 0 / span).
      let same : get_or keys i 0 / span ≡ get_or keys j 0 / span = omega arith in
      absurd (omega (arith, smaller_key i (omega arith), smaller_key j h, ap (smaller_ids cs) same)))
      (λ less. less)
      (order? (get_or keys j 0 / span) (get_or keys i 0 / span))

  -- ids that rise, each that of a key from m on
  record Listed (m : ℕ) (ids : List ℕ) : Type 0 where
    from : (i : ℕ) → i < length ids → (j : ℕ) × (m ≤ j) × (j < length keys) × (get_or ids i 0 ≡ get_or keys j 0 / span)
    rise : StrictlyAscending ids

  listed_more : (t : Bool) (m : ℕ) (ids : List ℕ) → m < length keys → Listed (suc m) ids → Listed m (cond t (get_or keys m 0 / span ∷ ids) ids)
  listed_more true m ids h l = record {
    from = first;
    rise = rises_more (get_or keys m 0 / span) ids
        (λ i k. let (j, le, below, is) = l.from i k in omega (arith, id_less m j (omega arith) below, is)) l.rise;
  }
    where
      first : (i : ℕ) → i < length (get_or keys m 0 / span ∷ ids)
          → (j : ℕ) × (m ≤ j) × (j < length keys) × (get_or (get_or keys m 0 / span ∷ ids) i 0 ≡ get_or keys j 0 / span)
      first zero k = (m, omega arith, h, refl)
      first (suc i) k = let (j, le, below, is) = l.from i (omega arith) in (j, omega arith, below, is)
  listed_more false m ids h l = record {
    from = λ i k. let (j, le, below, is) = l.from i k in (j, omega arith, below, is);
    rise = l.rise;
  }

  listed : (words : List ℕ) (m k : ℕ) → m + k ≡ length keys → Listed m (ids_from keys words m k)
  unfolding ids_from
  listed words m zero e = record { from = λ i h. absurd (omega arith); rise = record { at = λ i j l h. absurd (omega arith) } }
  listed words m (suc k) e = listed_more (member_of words m) m (ids_from keys words (suc m) k) (omega arith) (listed words (suc m) k (omega arith))

pub ids_rise : IdsRise
ids_rise cs keys words table once = (listed table once words 0 (length keys) (omega arith)).rise
