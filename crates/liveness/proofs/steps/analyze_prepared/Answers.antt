-- `liveness::steps::analyze_prepared` meets its contract: marks, then rows, then sets, each by its law.
-- Assumes nothing.
use Rattle.std.specs.Prelude.{Ok}
use mathlib.Core.Path.{◌≡◌, refl, sym, ap, ◌∙◌}
use mathlib.Core.Bool.{Bool, false}
use mathlib.Core.List.{List, ◌++◌}
use Prim.Native.Nat.{ℕ, ◌*◌, ◌≤◌}
use native.Mathlib.Omega.{arith}
use lib.ListN.{length, get_or, take, drop, replicate}
use lib.Seq.{length-take-le}
use lib.IntN.{ℤ}
use Rattle.lists.proofs.EndLaws.{sources_length}
use Rattle.lists.specs.Limits.{component_limit}
use Rattle.lists.specs.Records.{component_count}
use Rattle.lists.specs.First.{tabulate}
use Rattle.lists.specs.Slices.{laid}
use Rattle.regions.proofs.Fill.{zeros_cleared}
use Rattle.signals.specs.Regions.{region_of_place, regions_of}
use Rattle.signals.specs.Drive.{drive, potential}
use Rattle.assessment.specs.Verdicts.{source_rows_below}
use Rattle.assessment.specs.Rows.{sources_below}
use Rattle.signals.proofs.Lent.{front, front_long}
use Rattle.signals.proofs.Within.{scene_regions}
use Rattle.assessment.proofs.RowLaws.{sources_are, inferred_alone}
use Rattle.liveness.specs.Scene.{Scene}
use Rattle.liveness.proofs.Inferring.{labels_long}
use Rattle.liveness.specs.Entry.{AnalysisOf}
use Rattle.liveness.proofs.Answers.{set_all, set_where, set_same, tabulated_same, numbers_are}
use Rattle.liveness.proofs.steps.analyze_prepared.Goals as goal
use Rattle.liveness.proofs.steps.analyze_prepared.Goals.{Start}

-- ---- the prepared scene
abbrev rules : Start → ℕ
rules s = s.args.plot.now.plot.rules

abbrev cs : Start → List ℤ
cs s = s.args.plot.now.plot.components.now

abbrev ps : Start → List ℤ
ps s = s.args.plot.now.plot.ports.now

abbrev fs : Start → List ℤ
fs s = s.args.plot.now.plot.frontiers.now

abbrev nodes : Start → ℕ
nodes s = length s.args.plot.now.labels.now

scene : (s : Start) → Scene (cs s) (ps s)
scene s = s.args.plot.now.plot.accepted.scene

few : (s : Start) → component_count (cs s) ≤ component_limit
few s = (scene s).components.few

all : (s : Start) → nodes s ≡ component_count (cs s)
all s = labels_long (scene s) s.args.plot.now.prepared

small : (s : Start) → nodes s ≤ component_limit
small s = omega (arith, all s, few s)

count_small : (s : Start) → s.args.plot.now.count ≤ component_limit
count_small s =
    let p = s.args.plot.now in
    omega (arith, p.counted, (scene_regions (cs s) (ps s) (scene s).ends).few, few s)

lent : (s : Start) → length (take (nodes s) (replicate component_limit false)) ≡ nodes s
lent s = length-take-le _ _ (small s)

-- ---- marks
pub mark-requires : goal.mark-requires
mark-requires c =
    let s = (goal.at.mark-requires c).Start in
    record {
      frontier_room = few s;
      inferred_room = few s;
      regions_room = omega arith;
      drive_room = lent s ∙ all s;
      potential_room = lent s ∙ all s;
    }

-- marks of the nodes, lent from the front of an array of flags
abbrev rest : Start → List Bool
rest s = drop (nodes s) (replicate component_limit false)

marks_long : (s : Start) (marks : List Bool) → length marks ≡ length (take (nodes s) (replicate component_limit false))
    → length marks ≡ nodes s
marks_long s marks e = e ∙ lent s

marks_front : (s : Start) (marks : List Bool) → length marks ≡ length (take (nodes s) (replicate component_limit false))
    → take (nodes s) (marks ++ rest s) ≡ marks
marks_front s marks e = front _ marks (rest s) (marks_long s marks e)

marks_lent : (s : Start) (marks : List Bool) → length marks ≡ length (take (nodes s) (replicate component_limit false))
    → length (take (nodes s) (marks ++ rest s)) ≡ nodes s
marks_lent s marks e = ap length (marks_front s marks e) ∙ marks_long s marks e

-- ---- rows
pub put_regions-requires : goal.put_regions-requires
put_regions-requires c = omega (arith, c.args.plot.now.prepared.regions_long, c.requires.rows_room.regions_room)

pub put_sources-requires : goal.put_sources-requires
put_sources-requires c =
    let s = (goal.at.put_sources-requires c).Start in
    let e = c.mark.ensures in rw c.component_list-listed.ensures record {
      components_in_bounds = (e.frontier_flags.long, e.inferred_flags.long);
      inferred_alone = (inferred_alone (rules s) (cs s) (ps s) (fs s) e.frontier_flags e.inferred_flags, c.requires.rows_room.sources_room);
    }

pub write_verdicts-requires : goal.write_verdicts-requires
write_verdicts-requires c =
    let s = (goal.at.write_verdicts-requires c).Start in
    let p = c.args.plot.now.prepared in
    let t = c.args.plot.now.plot.accepted.ends in rw (c.component_list-listed.ensures, c.port_list.ensures) record {
      ends = (scene s).ends;
      settled = (t.source_members, t.sink_members);
      ports_in_bounds = omega (arith, t.sources_long, sources_length c.args.plot.now.plot.ends.now);
      numbers = (p.members_are, c.requires.rows_room.inputs_room);
    }

-- ---- the answer
pub answer-requires : goal.answer-requires
answer-requires c =
    let s = (goal.at.answer-requires c).Start in
    record {
      count = (count_small s, omega (arith, count_small s, c.mark.auto.has_drive));
      labels_in_bounds = (
        omega (arith, marks_lent s c.mark.new.drive c.mark.auto.drive),
        omega (arith, marks_lent s c.mark.new.potential c.mark.auto.potential),
      );
    }

pub returns : goal.returns
returns c =
    let s = (goal.at.returns c).Start in
    let a = c.answer.ensures in
    let p = c.args.plot.now.prepared in
    let regions = c.args.plot.now.region_at.now in
    let e = c.mark.ensures in
    let n = component_count (cs s) in
    let region_rows_lem : tabulate (λ q. get_or regions q 0) (length regions) ≡ regions_of (cs s) (ps s) =
    tabulated_same (λ q. get_or regions q 0) (region_of_place (cs s) (ps s)) (length regions)
    (λ q h. p.regions_are.at q (omega (arith, p.regions_long)))
    ∙ ap (tabulate (region_of_place (cs s) (ps s))) p.regions_long in
    let source-rows : sources_below (cs s) c.mark.new.on_frontier c.mark.new.inferred n ≡ source_rows_below (rules s) (cs s) (ps s) (fs s) n =
    sources_are (rules s) (cs s) (ps s) (fs s) e.frontier_flags e.inferred_flags n (omega arith) in
    let live : take (nodes s) (c.mark.new.drive ++ rest s) ≡ drive (cs s) (ps s) (fs s) = marks_front s c.mark.new.drive
    c.mark.auto.drive ∙ e.drive_is in
    let may : take (nodes s) (c.mark.new.potential ++ rest s) ≡ potential (rules s) (cs s) (ps s) (fs s) = marks_front s c.mark.new.potential
    c.mark.auto.potential ∙ e.potential_is in
    let rows_put = rw c.component_list-listed.ensures at c.put_sources.ensures in
    let verdict-rows = (rw (c.component_list-listed.ensures, c.port_list.ensures) at c.write_verdicts.ensures) (fs s) record { drive_is = live; potential_is = may } in
    let analysis : AnalysisOf (rules s) (cs s) (ps s) (fs s) c.answer.result = record {
      region_count_lem = a.regions_is ∙ c.args.plot.now.counted;
      source_count = ap (λ (k : ℕ). k * 2) a.sources_is ∙ rows_put.count ∙ ap length source-rows;
      input_count = ap (λ (k : ℕ). k * 3) a.inputs_is ∙ verdict-rows.count;
      drive_set = set_all (all s) live a.drive_set;
      potential_set = set_all (all s) may a.potential_set;
      cyclic_set = set_same c.args.plot.now.counted (λ r. refl) a.cyclic_set;
      has_drive_set = set_same c.args.plot.now.counted (λ r. refl) (set_where (count_small s) a.has_drive_set e.region_flags);
    } in
    record {
      answer = refl;
      numbers = numbers_are (rules s) (cs s) (ps s) (fs s) (Ok c.answer.result) refl analysis;
      analysis = analysis;
      regions_left = c.put_regions.ensures ∙ ap (λ (l : List ℕ). laid l c.args.regions.now) region_rows_lem;
      sources_left = rows_put.is ∙ ap (λ (l : List ℕ). laid l c.args.sources.now) source-rows;
      inputs_left = verdict-rows.is;
      stack_left = zeros_cleared _ c.requires.stack_zeros;
    }

pub slice_bounds-drive-end : goal.slice_bounds-drive-end
slice_bounds-drive-end c =
    let s = (goal.at.slice_bounds-drive-end c).Start in
    small s

pub slice_bounds-mark-end-4 : goal.slice_bounds-mark-end-4
slice_bounds-mark-end-4 c =
    let s = (goal.at.slice_bounds-mark-end-4 c).Start in
    sym (lent s)

pub slice_bounds-potential-end : goal.slice_bounds-potential-end
slice_bounds-potential-end c =
    let s = (goal.at.slice_bounds-potential-end c).Start in
    small s

pub slice_bounds-mark-end-5 : goal.slice_bounds-mark-end-5
slice_bounds-mark-end-5 c =
    let s = (goal.at.slice_bounds-mark-end-5 c).Start in
    sym (lent s)

pub slice_bounds-drive-end-2 : goal.slice_bounds-drive-end-2
slice_bounds-drive-end-2 c =
    let s = (goal.at.slice_bounds-drive-end-2 c).Start in
    front_long _ c.mark.new.drive (rest s) (marks_long s c.mark.new.drive c.mark.auto.drive)

pub slice_bounds-write_verdicts-end : goal.slice_bounds-write_verdicts-end
slice_bounds-write_verdicts-end c =
    let s = (goal.at.slice_bounds-write_verdicts-end c).Start in
    sym (marks_lent s c.mark.new.drive c.mark.auto.drive)

pub slice_bounds-potential-end-2 : goal.slice_bounds-potential-end-2
slice_bounds-potential-end-2 c =
    let s = (goal.at.slice_bounds-potential-end-2 c).Start in
    front_long _ c.mark.new.potential (rest s) (marks_long s c.mark.new.potential c.mark.auto.potential)

pub slice_bounds-write_verdicts-end-2 : goal.slice_bounds-write_verdicts-end-2
slice_bounds-write_verdicts-end-2 c =
    let s = (goal.at.slice_bounds-write_verdicts-end-2 c).Start in
    sym (marks_lent s c.mark.new.potential c.mark.auto.potential)

pub slice_bounds-drive-end-3 : goal.slice_bounds-drive-end-3
slice_bounds-drive-end-3 c =
    let s = (goal.at.slice_bounds-drive-end-3 c).Start in
    front_long _ c.mark.new.drive (rest s) (marks_long s c.mark.new.drive c.mark.auto.drive)

pub slice_bounds-answer-end : goal.slice_bounds-answer-end
slice_bounds-answer-end c = let s = (goal.at.slice_bounds-answer-end c).Start in sym (marks_lent s c.mark.new.drive c.mark.auto.drive)

pub slice_bounds-potential-end-3 : goal.slice_bounds-potential-end-3
slice_bounds-potential-end-3 c =
    let s = (goal.at.slice_bounds-potential-end-3 c).Start in
    front_long _ c.mark.new.potential (rest s) (marks_long s c.mark.new.potential c.mark.auto.potential)

pub slice_bounds-answer-end-2 : goal.slice_bounds-answer-end-2
slice_bounds-answer-end-2 c =
    let s = (goal.at.slice_bounds-answer-end-2 c).Start in
    sym (marks_lent s c.mark.new.potential c.mark.auto.potential)

pub shape_of-regions : goal.shape_of-regions
shape_of-regions c = c.put_regions.auto.regions

pub shape_of-sources : goal.shape_of-sources
shape_of-sources c = c.put_sources.auto.out

pub shape_of-inputs : goal.shape_of-inputs
shape_of-inputs c = c.write_verdicts.auto.out
