-- What the checks of ranges and lengths leave: each field of each record in its range (`Within`), and natural numbers among them.
-- Assumes nothing.
use Rattle.std.specs.Prelude.{None}
use mathlib.Core.Path.{◌≡◌}
use mathlib.Core.Bool.{not}
use mathlib.Core.List.{List}
use Prim.Native.Nat.{ℕ, ◌+◌, ◌*◌, ◌/◌, ◌≤◌, ◌<◌}
use native.Mathlib.Nat.{add-zero}
use native.Mathlib.Omega.{arith}
use lib.Dec.{T}
use lib.ListN.{length}
use lib.IntN.{ℤ, pos}
use lib.Signed.{non_neg}
use borrow.Author.Tests.{not-false}
use Rattle.lists.specs.Signed.{at, in_range}
use Rattle.lists.specs.Records.{natural_at}
use Rattle.lists.specs.Ranges.{record_in_range, first_out_of_range}
use Rattle.lists.specs.Within.{Within}
use Rattle.lists.proofs.Search.{none_found, all_at}
use Rattle.lists.proofs.Signed.{range_non_neg, range_most}

-- a list in which no record is out of range
pub within : (limit : ℕ) (low high list : List ℤ) → length list / length low ≤ limit → first_out_of_range low high list ≡ None → Within limit low high list
unfolding first_out_of_range record_in_range
within limit low high list few e =
    let each = none_found (λ k. not (record_in_range low high list (k * length low))) 0 (length list / length low) e in
    record {
      few = few;
      field = λ k f h l. all_at (λ g. in_range (at low g) (at high g) (at list (k * length low + g))) 0 (length low)
          (not-false (record_in_range low high list (k * length low)) (each k (omega arith) (omega arith))) f (omega arith) (omega arith);
    }

-- field f of record k, where its range begins at 0
module _ {limit : ℕ} {low high list : List ℤ} (w : Within limit low high list) (k f : ℕ) (h : k < length list / length low) (l : f < length low) where
  pub field_non_neg : at low f ≡ pos 0 → T (non_neg (at list (k * length low + f)))
  field_non_neg e = range_non_neg (at list (k * length low + f)) (at high f) (rw e at (w.field k f h l))

  pub field_most : (m : ℕ) → at low f ≡ pos 0 → at high f ≡ pos m → natural_at list (k * length low + f) ≤ m
  field_most m e g = range_most (at list (k * length low + f)) m (rw (e, g) at (w.field k f h l))

-- and the same of the first field, which stands where the record begins
module _ {limit : ℕ} {low high list : List ℤ} (w : Within limit low high list) (k : ℕ) (h : k < length list / length low) (l : 0 < length low) where
  pub first_non_neg : at low 0 ≡ pos 0 → T (non_neg (at list (k * length low)))
  first_non_neg e = rw add-zero at (field_non_neg w k 0 h l e)

  pub first_most : (m : ℕ) → at low 0 ≡ pos 0 → at high 0 ≡ pos m → natural_at list (k * length low) ≤ m
  first_most m e g = rw add-zero at (field_most w k 0 h l m e g)
