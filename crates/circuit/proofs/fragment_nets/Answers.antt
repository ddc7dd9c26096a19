-- Answers for the goals that the search leaves.
use mathlib.Core.Path.{◌≡◌, sym, ap, ◌∙◌}
use mathlib.Core.Bool.{Bool, ◌&&◌, ◌||◌}
use Prim.Native.Nat.{ℕ, min}
use native.Mathlib.Omega.{arith}
use lib.Dec.{eqb}
use lib.ListN.{length, get_or}
use Rattle.lists.specs.First.{first_from}
use Rattle.lists.proofs.Search.{some_more}
use Rattle.circuit.specs.Topology.{shares_member}
use Rattle.circuit.proofs.fragment_nets.Goals as goal

pub loop-v-init : goal.loop-v-init
unfolding first_from
loop-v-init c = λ net h. c.empty-found.ensures net

pub loop-v-preserved : goal.loop-v-preserved
loop-v-preserved c net h =
    let l = c.loop-v in
    let a = c.args in
    let test : ℕ → Bool = λ j. eqb (get_or a.fragments.now j 0) a.fragment && eqb (get_or a.nets.now j 0) net in
    c.insert_if-found.ensures net h ∙ ap (λ (t : Bool). t || test l.v) (l.invariant net h) ∙ sym (some_more test l.v)

pub returns : goal.returns
unfolding shares_member
returns c net h =
    let a = c.args in
    let all : c.loop-v.v ≡ min (length a.nets.now) (length a.fragments.now) = omega arith in
    rw all at (c.loop-v.invariant net h)
