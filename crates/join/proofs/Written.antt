-- The lists of a valid plot can be written, and read back.
--     in_range_small           a range of small numbers has small numbers alone
--     list_small               the numbers of a list within its ranges
--     valid_known, valid_writable, valid_reads     a valid plot
-- Assumes nothing.
use Prim.Native.Nat.{ℕ, suc, ◌%◌, ◌≤◌, ◌<◌}
use native.Mathlib.Omega.{arith}
use mathlib.Core.Path.{◌≡◌, refl, subst}
use mathlib.Core.Bool.{Bool, true, false, ◌&&◌}
use mathlib.Core.List.{List, [], ◌∷◌, ◌++◌, Memᴰ}
use lib.Dec.{leb}
use lib.IntN.{ℤ, pos, negsuc, nat_abs}
use lib.ListN.{length}
use lib.Signed.{le_z}
use borrow.Author.Tests.{leb-true}
use Rattle.lines.specs.Decimal.{InRange, limit}
use Rattle.lists.specs.Limits.{component_limit, connection_limit, frontier_limit}
use Rattle.lists.specs.Rules.{rules_limit}
use Rattle.lists.specs.Signed.{at, in_range}
use Rattle.lists.specs.First.{all_from}
use Rattle.lists.specs.Ranges.{component_low, component_high, connection_low, connection_high, frontier_low, frontier_high}
use Rattle.lists.specs.Within.{Within}
use Rattle.lists.proofs.Search.{never, both, all_at}
use Rattle.forms.specs.Form.{AllInRange}
use Rattle.forms.specs.Sheet.{Sheet}
use Rattle.forms.specs.Writing.{Known, WithinLimits}
use Rattle.forms.specs.declared.Style.TheVariants.{Old}
use Rattle.forms.proofs.Sheets.{parse_write}
use Rattle.joining.specs.Split.{records_of, flat}
use Rattle.joining.specs.Plot.{Plot, Valid}
use Rattle.joining.proofs.Splits.{has_width, flat_records}
use Rattle.joining.proofs.Accepts.{scene, bounds_of}
use Rattle.join.specs.Entry.{parsed_by, plot_text}

pub in_range_small : (low high z : ℤ) → nat_abs low ≤ limit → nat_abs high ≤ limit → in_range low high z ≡ true → InRange z
in_range_small low (pos h) (pos n) a b e = omega (arith, leb-true n h (both (le_z low (pos n)) (leb n h) e).1)
in_range_small low (negsuc h) (pos n) a b e = never (both (le_z low (pos n)) false e).1
in_range_small (pos l) high (negsuc n) a b e = never (both false (le_z (negsuc n) high) e).0
in_range_small (negsuc l) high (negsuc n) a b e = omega (arith, leb-true n l (both (leb n l) (le_z (negsuc n) high) e).0)

each_in_range : (zs : List ℤ) → ((i : ℕ) → i < length zs → InRange (at zs i)) → AllInRange zs
unfolding AllInRange
each_in_range [] f = tt
each_in_range (z ∷ zs) f = (f 0 (omega arith), each_in_range zs (λ i h. f (suc i) (omega arith)))

append_in_range : (a b : List ℤ) → AllInRange a → AllInRange b → AllInRange (a ++ b)
unfolding AllInRange
append_in_range [] b f g = g
append_in_range (z ∷ a) b f g = (f.0, append_in_range a b f.1 g)

flat_in_range : (rs : List (List ℤ)) → ((r : List ℤ) → Memᴰ r rs → AllInRange r) → AllInRange (flat rs)
unfolding flat AllInRange
flat_in_range [] f = tt
flat_in_range (r ∷ rs) f = append_in_range r (flat rs) (f r (Memᴰ.head refl)) (flat_in_range rs (λ s m. f s (Memᴰ.tail m)))

-- the bounds of each field are small
abbrev pub small_bounds : List ℤ → List ℤ → Bool
small_bounds low high = all_from (λ f. leb (nat_abs (at low f)) limit && leb (nat_abs (at high f)) limit) 0 (length low)

pub list_small : {most : ℕ} {low high zs : List ℤ} → small_bounds low high ≡ true → length zs % length low ≡ 0 → Within most low high zs → AllInRange zs
list_small {low = low} {high} {zs} bounds whole w =
    let w' = length low in
    subst AllInRange (flat_records w' zs whole) (flat_in_range (records_of w' zs) (λ r m.
    each_in_range r (λ i h.
    let l : i < length low = omega (arith, has_width w' zs m) in
    let e = both _ _ (all_at (λ f. leb (nat_abs (at low f)) limit && leb (nat_abs (at high f)) limit) 0 (length low) bounds i (omega arith) (omega arith)) in
    in_range_small (at low i) (at high i) (at r i) (leb-true _ _ e.0) (leb-true _ _ e.1) ((bounds_of w m).field i l))))

component_bounds : small_bounds component_low component_high ≡ true
unfolding all_from
component_bounds = refl

connection_bounds : small_bounds connection_low connection_high ≡ true
unfolding all_from
connection_bounds = refl

frontier_bounds : small_bounds frontier_low frontier_high ≡ true
unfolding all_from
frontier_bounds = refl

module _ {rules : ℕ} {p : Plot} (v : Valid rules p) where
  pub valid_known : Known rules_limit rules
  valid_known =
      let k = both (leb 1 rules) (leb rules rules_limit) (scene v).scene.lengths.known in
      record { least = leb-true 1 rules k.0; largest = leb-true rules rules_limit k.1 }

  pub valid_writable : WithinLimits component_limit connection_limit frontier_limit Old p.components p.connections p.frontiers
  valid_writable =
      let s = scene v in
      let l = s.scene.lengths in
      record {
        of_components = record { whole = l.components_whole; few = omega (arith, l.components_few); small = list_small component_bounds l.components_whole s.components };
        of_connections = record { whole = l.connections_whole; few = omega (arith, l.connections_few); small = list_small connection_bounds l.connections_whole s.connections };
        of_frontiers = record { whole = l.frontiers_whole; few = omega (arith, l.frontiers_few); small = list_small frontier_bounds l.frontiers_whole s.frontiers };
      }

  pub valid_reads : parsed_by (plot_text rules p) ≡ Sheet Old rules p.components p.connections p.frontiers
  valid_reads =
      parse_write rules_limit component_limit connection_limit frontier_limit (omega arith) (omega arith) Old rules p.components p.connections p.frontiers valid_known valid_writable
