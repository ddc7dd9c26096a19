-- Answers for the goals that the search leaves: the regions with a drive source, and those with an inferred input too, carried along the
-- edges.
use Rattle.std.proofs.Common.{◌≡◌, ◌≤◌, ◌<◌, Bool, false, List, ℕ, ℤ, length, get_or, sym, ap, ◌∙◌, arith}
use Rattle.lists.specs.Limits.{component_limit}
use Rattle.lists.specs.Records.{component_count}
use Rattle.regions.specs.Graph.{at, marked}
use Rattle.graph.specs.Rows.{edges_of}
use Rattle.graph.specs.Carried.{Carried}
use Rattle.signals.specs.Signals.{signals}
use Rattle.signals.specs.Regions.{labels, holds_drive}
use Rattle.signals.specs.Flags.{Flags, Indices}
use Rattle.signals.proofs.Lent.{indices_same}
use Rattle.assessment.proofs.Reached.{Exactly, drive_is, potential_is}
use Rattle.liveness.specs.Scene.{Scene, Prepared}
use Rattle.liveness.proofs.Inferring.{labels_long, ends_long, graph, labels_small, regions_small}
use Rattle.liveness.proofs.alive.flag_alive.Goals as goal
use Rattle.liveness.proofs.alive.flag_alive.Goals.{Start}

-- ---- a prepared scene
few : (s : Start) → component_count s.args.plot.now.plot.components.now ≤ component_limit
few s = s.args.plot.now.plot.accepted.scene.components.few

all : (s : Start) → length s.args.plot.now.labels.now ≡ component_count s.args.plot.now.plot.components.now
all s = labels_long s.args.plot.now.plot.accepted.scene s.args.plot.now.prepared

small : (s : Start) → Indices (length s.args.plot.now.labels.now) component_limit s.args.plot.now.labels.now
small s = labels_small s.args.plot.now.plot.accepted.scene s.args.plot.now.prepared component_limit (few s)

module _ {cs ps : List ℤ} (scene : Scene cs ps) {ends next back_ends back labelled members region_of : List ℕ}
    (p : Prepared cs ps ends next back_ends back labelled members region_of) where
  -- marks of regions, carried along its edges
  carried_by : {before after : List Bool} → Carried (length ends) (edges_of ends next) before after
      → Exactly (component_count cs) (signals cs ps) (marked before) (marked after)
  carried_by c = let e = rw (p.forward.rows.nodes, graph scene p) at c in record { exactly = e.exactly }

  -- and spread over its nodes
  spread_by : (marks : List Bool) {out : List Bool} → component_count cs ≤ length out
      → ((m : ℕ) (d : Bool) → m < length labelled → get_or out m d ≡ get_or marks (get_or labelled m 0) d)
      → Flags (component_count cs) (λ m. marked marks (at (labels cs ps) m)) out
  spread_by marks room values = record {
    long = room;
    at = λ m h. values m false (omega (arith, labels_long scene p)) ∙ ap (λ (l : List ℕ). marked marks (at l m)) p.labels_are;
  }

-- ---- the calls
pub possible_regions-requires-clause-indices : goal.possible_regions-requires-clause-indices
possible_regions-requires-clause-indices c =
    let p = c.args.plot.now in
    (regions_small p.plot.accepted.scene p.prepared component_limit p.plot.accepted.scene.components.few, omega (arith, p.prepared.regions_long, c.requires.inferred_room))

pub by_region-requires-clause-nodes : goal.by_region-requires-clause-nodes
by_region-requires-clause-nodes c =
    let s = (goal.at.by_region-requires-clause-nodes c).Start in
    (omega (arith, all s, few s), omega (arith, all s, few s))

pub by_region-requires-clause-below : goal.by_region-requires-clause-below
by_region-requires-clause-below c x h = (small (goal.at.by_region-requires-clause-below c).Start).below x h

pub carry_marks-requires-clause-nodes : goal.carry_marks-requires-clause-nodes
carry_marks-requires-clause-nodes c =
    rw (ends_long c.args.plot.now.plot.accepted.scene c.args.plot.now.prepared) c.by_region.ensures.sorted

pub carry_marks-requires-clause-below : goal.carry_marks-requires-clause-below
carry_marks-requires-clause-below c x h =
    let s = (goal.at.carry_marks-requires-clause-below c).Start in
    let low = (small s).below x (omega (arith, ends_long c.args.plot.now.plot.accepted.scene c.args.plot.now.prepared)) in
    (omega (arith, c.copy_from_slice.ensures.len), omega (arith, c.possible_regions.auto.possible))

pub spread-requires : goal.spread-requires
spread-requires c =
    let s = (goal.at.spread-requires c).Start in
    (indices_same (sym (c.carry_marks.auto.a ∙ c.copy_from_slice.ensures.len)) (small s), omega (arith, all s, c.requires.drive_room))

pub spread-requires-2 : goal.spread-requires-2
spread-requires-2 c =
    let s = (goal.at.spread-requires-2 c).Start in
    (indices_same (sym (c.carry_marks.auto.b ∙ c.possible_regions.auto.possible)) (small s), omega (arith, all s, c.requires.potential_room))

pub returns : goal.returns
returns c rules fs driven inferred =
    let s = (goal.at.returns c).Start in
    let p = c.args.plot.now in
    let cs = p.plot.components.now in
    let ps = p.plot.ports.now in
    let scene = p.plot.accepted.scene in
    let drive_room = c.spread.auto.out ∙ c.requires.drive_room in
    let potential_room = c.spread-2.auto.out ∙ c.requires.potential_room in
    let marks : Flags component_limit (holds_drive cs ps fs) c.copy_from_slice.new.self = rw c.copy_from_slice.ensures.after driven in
    record {
      drive_is = drive_is cs ps (few s) scene.ends fs (carried_by scene p.prepared c.carry_marks.ensures.first) drive_room
          (spread_by scene p.prepared c.carry_marks.new.a (omega (arith, drive_room)) c.spread.ensures.values) marks;
      potential_is = potential_is cs ps (few s) scene.ends fs (carried_by scene p.prepared c.carry_marks.ensures.second) potential_room
          (spread_by scene p.prepared c.carry_marks.new.b (omega (arith, potential_room)) c.spread-2.ensures.values)
          rules p.prepared.regions_are driven inferred (rw p.prepared.regions_long at c.possible_regions.ensures);
    }
