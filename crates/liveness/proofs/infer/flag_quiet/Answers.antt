-- Answers for the goals that the search leaves.
use Rattle.std.proofs.Common.{◌≡◌, ◌<◌, Bool, false, not, ◌&&◌, List, ℕ, ℤ, get_or, refl, ap, ◌∙◌, arith}
use lib.Dec.{eqb}
use Rattle.lists.specs.Limits.{component_limit}
use Rattle.lists.specs.Records.{component, component_count}
use Rattle.regions.specs.Graph.{Edges, marked}
use Rattle.signals.specs.Signals.{signals}
use Rattle.signals.specs.Regions.{wire}
use Rattle.signals.specs.Stages.{inferred_by}
use Rattle.signals.specs.Seen.{few_near}
use Rattle.signals.proofs.Stores.{stored}
use Rattle.liveness.proofs.Inferring.{labels_long, ends_long, graph, turned, regions_small, members_small}
use Rattle.liveness.proofs.infer.flag_quiet.Goals as goal
use Rattle.liveness.proofs.infer.flag_quiet.Goals.{In-loop-p}

here : (c : In-loop-p) → c.loop-p.p < component_count c.args.plot.now.plot.components.now
here c = omega (arith, c.loop-p-test.true, c.count-p-end.ensures.0, ap component_count c.component_list-components.ensures)

region_below : (c : In-loop-p) → get_or c.args.plot.now.region_at.now c.loop-p.p 0 < component_limit
region_below c =
    let p = c.args.plot.now in
    let small = regions_small p.plot.accepted.scene p.prepared component_limit p.plot.accepted.scene.components.few in
    small.below c.loop-p.p (omega (arith, here c, p.prepared.regions_long))

pub bounds-has_drive-region : goal.bounds-has_drive-region
bounds-has_drive-region c = omega (arith, c.from-region.ensures, region_below (goal.at.bounds-has_drive-region c).In-loop-p, c.requires.regions.0)

pub bounds-fed-region : goal.bounds-fed-region
bounds-fed-region c = omega (arith, c.from-region.ensures, region_below (goal.at.bounds-fed-region c).In-loop-p, c.requires.regions.1)

pub invariant_of-network : goal.invariant_of-network
invariant_of-network c =
    let p = c.args.plot.now in
    record { nodes = ends_long p.plot.accepted.scene p.prepared; turned = turned p.plot.accepted.scene p.prepared }

pub is_inferred-requires : goal.is_inferred-requires
is_inferred-requires c =
    let p = c.args.plot.now in
    let inside = here (goal.at.is_inferred-requires c).In-loop-p in
    let small = members_small p.plot.accepted.scene p.prepared (component_count p.plot.components.now) (omega arith) in (
      omega (arith, inside, ap component_count c.component_list-components.ensures),
      omega (arith, c.from.ensures, small.below c.loop-p.p (omega (arith, inside, p.prepared.members_long)), labels_long p.plot.accepted.scene p.prepared),
    )

-- the test by the numbers that were read
by_numbers : {cs cs' : List ℤ} (members regions : List ℕ) (drives fed : List Bool) {edge edge' : Edges} (labels : List ℕ) (p : ℕ) {m r : ℕ}
    → cs' ≡ cs → edge' ≡ edge → m ≡ get_or members p 0 → r ≡ get_or regions p 0
    → (eqb (component cs' p).kind wire && ((not (marked drives r) && not (marked fed r)) && few_near edge' labels m)) ≡ inferred_by cs members regions drives fed edge labels p
by_numbers members regions drives fed labels p a b e f = rw (a, b, e, f) refl

pub loop-p-preserved : goal.loop-p-preserved
loop-p-preserved c =
    let l = c.loop-p in
    let p = c.args.plot.now in
    let cs = p.plot.components.now in
    let inside = here (goal.at.loop-p-preserved c).In-loop-p in
    stored false (inferred_by cs p.members.now p.region_at.now c.args.has_drive.now c.args.fed.now (signals cs p.plot.ports.now) p.labels.now) l.flags l.p _
    (omega (arith, inside, l.auto.flags, c.requires.components)) l.invariant
    (c.is_inferred.ensures ∙ by_numbers p.members.now p.region_at.now c.args.has_drive.now c.args.fed.now p.labels.now l.p
    c.component_list-components.ensures (graph p.plot.accepted.scene p.prepared) c.from.ensures c.from-region.ensures)
