-- Answers for the goals that the search leaves.
use mathlib.Core.Path.{◌≡◌, refl, sym, ap, ◌∙◌}
use mathlib.Core.Bool.{not}
use native.Mathlib.Nat.{sub-zero, div-zero}
use native.Mathlib.Omega.{arith}
use lib.ListN.{length}
use Rattle.std.proofs.lemmas.List.{length-map}
use Rattle.lists.specs.First.{first_from}
use Rattle.lists.specs.Ranges.{first_out_of_range, lows_of}
use Rattle.lists.proofs.Search.{first_here, first_later, first_none, record_within}
use Rattle.lists.proofs.ranges.Ranges.first_outside.Goals as goal
use Rattle.lists.proofs.ranges.Ranges.first_outside.Goals.{In-loop-k}

pub loop-k-init : goal.loop-k-init
unfolding first_out_of_range
loop-k-init g c = let long : length (lows_of c.args.self.now.fields) ≡ g.row.WIDTH = simp length-map (omega arith) in rw (sub-zero, long) refl

pub returns-then-this-eq0 : goal.returns-then-this-eq0
unfolding first_out_of_range first_from
returns-then-this-eq0 g c =
    let none : length (lows_of c.args.self.now.fields) ≡ 0 = simp length-map (omega arith) in
    rw (none, div-zero) refl

pub hold-requires : goal.hold-requires
hold-requires g c = omega (arith, record_within _ _ _ c.loop-k-test.true)

pub returns-then-not-hold : goal.returns-then-not-hold
returns-then-not-hold g c =
    sym (first_here _ _ _ c.loop-k-test.true (ap not (sym c.hold.ensures ∙ c.if-not-hold.true)))
    ∙ c.loop-k.invariant

pub loop-k-preserved : goal.loop-k-preserved
loop-k-preserved g c =
    sym (first_later _ _ _ c.loop-k-test.true (ap not (sym c.hold.ensures ∙ c.if-not-hold.false)))
    ∙ c.loop-k.invariant

pub returns : goal.returns
returns g c = sym (first_none _ _ _ c.loop-k-test.false) ∙ c.loop-k.invariant
