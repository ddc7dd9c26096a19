-- Answers for the goals that the search leaves.
use mathlib.Core.Path.{◌≡◌, sym, ◌∙◌, ap₂}
use Rattle.std.proofs.Common.{rules}
use Prim.Native.Nat.{ℕ, ◌+◌}
use mathlib.Core.List.{List}
use lib.IntN.{ℤ, pos}
use lib.ListN.{length, get_or}
use native.Mathlib.Nat.{sub-zero}
use native.Mathlib.Omega.{arith}
use Rattle.std.proofs.Math.ListN.{get_or-map}
use Rattle.std.proofs.lemmas.List.{length-map}
use Rattle.lists.specs.declared.ranges.Bounds.{Bounds}
use Rattle.lists.specs.Signed.{at, in_range}
use Rattle.lists.specs.Ranges.{record_in_range, lows_of, highs_of}
use Rattle.lists.proofs.Search.{all_fails, all_later, all_done}
use Rattle.lists.proofs.ranges.Ranges.hold.Goals as goal
use Rattle.lists.proofs.ranges.Ranges.hold.Goals.{After-hold}

-- what stands past the end of a table
abbrev none : Bounds
none = record { low = pos 0; high = pos 0 }

-- the range of field f of a table is that of its two lists
of_field : (fields : List Bounds) (f : ℕ) (v : ℤ)
    → in_range (at (lows_of fields) f) (at (highs_of fields) f) v ≡ in_range (get_or fields f none).low (get_or fields f none).high v
of_field fields f v =
    ap₂ (λ low high. in_range low high v) (get_or-map (λ (r : Bounds). r.low) fields f none) (get_or-map (λ (r : Bounds). r.high) fields f none)

pub loop-f-init : goal.loop-f-init
unfolding record_in_range
loop-f-init g c =
    let long : length (lows_of c.args.self.now.fields) ≡ g.row.WIDTH = simp length-map (omega arith) in
    (omega arith, rw (sub-zero, long))

pub returns-then-not-hold : goal.returns-then-not-hold
returns-then-not-hold g c =
    let a = c.args in
    sym (all_fails _ _ _ c.loop-f-test.true (of_field a.self.now.fields c.loop-f.f (at a.list.now (a.i + c.loop-f.f)) ∙ search rules ∙ c.if-not-hold.true))
    ∙ c.loop-f.invariant.1

pub loop-f-preserved : goal.loop-f-preserved
loop-f-preserved g c =
    let a = c.args in (
      omega arith,
      sym (all_later _ _ _ c.loop-f-test.true (of_field a.self.now.fields c.loop-f.f (at a.list.now (a.i + c.loop-f.f)) ∙ search rules ∙ c.if-not-hold.false))
          ∙ c.loop-f.invariant.1,
    )

pub returns : goal.returns
returns g c = sym (all_done _ _ _ c.loop-f-test.false) ∙ c.loop-f.invariant.1
