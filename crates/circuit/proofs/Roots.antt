-- The steps of `number_roots` and of `write_numbers`.
--     roots_hit, roots_miss         one place more: it counts where it is a root
--     length_groups, groups_at      a number for each place
--     groups_whole                  a list that has the group's number at each place
--     groups_laid                   such a list at the front of a slice
-- Assumes nothing.
use Prim.Native.Nat.{ℕ, ◌+◌, ◌<◌}
use native.Mathlib.Numerals.{add-one}
use native.Mathlib.Omega.{arith}
use mathlib.Core.Path.{◌≡◌, sym, ap, ap₂, ◌∙◌}
use mathlib.Core.List.{List, ◌++◌}
use mathlib.Core.Logic.{◌≢◌}
use lib.ListN.{length, get_or, drop, length-map}
use lib.Seq.{ext_get_or}
use borrow.Author.Tests.{eq-eqb, ne_eqb}
use Rattle.lists.specs.Slices.{laid}
use Rattle.circuit.specs.Forest.{Forest, root, range}
use Rattle.circuit.specs.Groups.{roots_below, group_of, groups_of}
use Rattle.circuit.proofs.Lists.{length_range, get_or_map, get_or_range}

pub roots_hit : (f : Forest) (v : ℕ) → root f v ≡ v → roots_below f (v + 1) ≡ roots_below f v + 1
unfolding roots_below
roots_hit f v e = rw (add-one v, eq-eqb (root f v) v e)

pub roots_miss : (f : Forest) (v : ℕ) → root f v ≢ v → roots_below f (v + 1) ≡ roots_below f v
unfolding roots_below
roots_miss f v n = rw (add-one v, ne_eqb (root f v) v n) (omega arith)

pub length_groups : (f : Forest) (n : ℕ) → length (groups_of f n) ≡ n
unfolding groups_of
length_groups f n = length-map (range n) (group_of f) ∙ length_range n

pub groups_at : (f : Forest) (n v : ℕ) → v < n → get_or (groups_of f n) v 0 ≡ group_of f v
unfolding groups_of
groups_at f n v h = get_or_map (group_of f) (range n) v (rw (length_range n) h) ∙ ap (group_of f) (get_or_range n v h)

-- a list of the groups' numbers
pub groups_whole : (f : Forest) (out : List ℕ) → ((v : ℕ) → v < length out → get_or out v 0 ≡ group_of f v) → out ≡ groups_of f (length out)
groups_whole f out at = ext_get_or 0 out (groups_of f (length out)) (sym (length_groups f (length out))) (λ v h. at v h ∙ sym (groups_at f (length out) v h))

pub groups_laid : (f g : Forest) (n : ℕ) (out old : List ℕ) → f ≡ g → length out ≡ n → out ≡ groups_of f (length out) → out ++ drop n old ≡ laid (groups_of g n) old
groups_laid f g n out old e long written =
    rw (length_groups g n) (ap (λ (l : List ℕ). l ++ drop n old) (written ∙ ap₂ groups_of e long))
