-- Answers for the goals that the search leaves.
use mathlib.Core.Path.{refl}
use mathlib.Core.List.{[]}
use Prim.Native.Nat.{ℕ}
use native.Mathlib.Omega.{arith}
use Rattle.lists.specs.Records.{component}
use Rattle.regions.specs.Graph.{marked}
use Rattle.signals.specs.Sources.{source_kind}
use Rattle.assessment.specs.Rows.{sources_of, sources_below}
use Rattle.assessment.proofs.Devices.{sources_few, sources_read, below_none, below_more}
use Rattle.assessment.proofs.verdicts.put_sources.Goals as goal

pub loop-p-init : goal.loop-p-init
unfolding sources_below
loop-p-init c = below_none _ (λ p. []) 2 4 _ _ refl

pub loop-p-preserved : goal.loop-p-preserved
unfolding sources_below
loop-p-preserved c =
    let a = c.args in
    let cs = a.components.numbers.now in
    let row = λ (p : ℕ). sources_of (component cs p).id (source_kind (component cs p).kind) (marked a.on_frontier.now p) (marked a.inferred.now p) in
    below_more _ row 2 4 _ _ (λ k. refl) c.loop-p-test.true c.loop-p.invariant
    (sources_few _ _ _ _ (c.requires.inferred_alone.0.at c.loop-p.p (omega (arith, c.loop-p-test.true, c.count-p-end.ensures.0))))
    (sources_read _ _ _ _ _ _ c.id-id.ensures.0 c.kind-kind.ensures c.put_component-at.ensures) c.put_component-at.auto.out
