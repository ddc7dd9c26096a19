-- `circuit::settle::join_all` meets its contract: one connection more in both forests.
-- Assumes nothing.
use mathlib.Core.Path.{sym, ◌∙◌}
use mathlib.Core.List.{List}
use native.Mathlib.Numerals.{add-one}
use native.Mathlib.Omega.{arith}
use Prim.Native.Nat.{◌≤◌, ◌<◌}
use Rattle.lists.specs.Limits.{component_limit}
use lib.IntN.{ℤ}
use Rattle.lists.specs.Records.{component_count}
use Rattle.lists.proofs.Table.{place_below_lem}
use Rattle.circuit.specs.Forest.{unite_all}
use Rattle.circuit.specs.Topology.{joins}
use Rattle.circuit.proofs.Settling.{unite_then, nets_shared}
use Rattle.circuit.proofs.settle.join_all.Goals as goal

pub loop-k-init : goal.loop-k-init
unfolding joins unite_all
loop-k-init c = record { nets = λ cs p. c.requires.start.0; fragments = λ cs p. c.requires.start.1 }

pub join_both-requires-clause-source : goal.join_both-requires-clause-source
join_both-requires-clause-source c p e =
    let cs : List ℤ = c.requires.places.0.0 in
    let below : p < component_count cs = place_below_lem cs _ p (sym (c.end_place-source.ensures cs c.requires.places.0.1) ∙ e) in
    omega (arith, below, c.requires.places.0.1.long, c.requires.places.1)

pub join_both-requires-clause-sink : goal.join_both-requires-clause-sink
join_both-requires-clause-sink c p e =
    let cs : List ℤ = c.requires.places.0.0 in
    let below : p < component_count cs = place_below_lem cs _ p (sym (c.end_place-sink.ensures cs c.requires.places.0.1) ∙ e) in
    omega (arith, below, c.requires.places.0.1.long, c.requires.places.1)

pub join_both-requires-clause-shared : goal.join_both-requires-clause-shared
join_both-requires-clause-shared c =
    let (cs, p) = c.requires.places.0 in
    let few : component_count cs ≤ component_limit = omega (arith, p.long, c.requires.places.1) in
    rw (c.loop-k.invariant.nets cs p, c.loop-k.invariant.fragments cs p) (nets_shared cs c.args.connections.numbers.now few c.loop-k.k)

pub loop-k-preserved : goal.loop-k-preserved
unfolding joins
loop-k-preserved c = record {
  nets = λ cs p. rw (add-one, unite_then, ← c.loop-k.invariant.nets cs p) (rw (c.kind.ensures, c.end_place-source.ensures cs p, c.source.ensures.0, c.end_place-sink.ensures cs p, c.sink.ensures.0) at c.join_both.ensures.nets);
  fragments = λ cs p. rw (add-one, unite_then, ← c.loop-k.invariant.fragments cs p) (rw (c.kind.ensures, c.end_place-source.ensures cs p, c.source.ensures.0, c.end_place-sink.ensures cs p, c.sink.ensures.0) at c.join_both.ensures.fragments);
}
