-- `capi::alive::of_plot` meets its contract: what the analysis left is written as bytes. Assumes nothing.
use borrow.Author.Rules.{rules}
use mathlib.Core.Path.{◌≡◌, refl, sym, ◌∙◌}
use mathlib.Core.List.{List, ◌++◌}
use Prim.Native.Nat.{ℕ, ◌*◌, ◌≤◌}
use native.Mathlib.Omega.{arith}
use lib.ListN.{length, get_or, take, length-append}
use lib.Seq.{length-take-le}
use Rattle.std.proofs.lemmas.List.{take-append-le}
use Rattle.encoding.specs.Bytes.{number_bytes}
use mir.Val.{Fits}
use mir.Syntax.{w64}
use Rattle.lists.specs.Limits.{component_limit}
use Rattle.lists.specs.Records.{component_count}
use Rattle.liveness.specs.declared.Analysis.{Analysis}
use Rattle.liveness.specs.declared.plot.Plot.{Plot}
use Rattle.capi.specs.Written.{Written}
use Rattle.liveness.proofs.Lent.{nodes_are, nodes_few}
use Rattle.capi.proofs.LivenessLaws.{WordsOfSet, regions_most, sources_there, inputs_there, accepted_alive}
use Rattle.capi.proofs.alive.of_plot.Goals as goal
use Rattle.capi.proofs.alive.of_plot.Goals.{After-analyze-analysis}

few : (p : Plot) → length p.keys.now ≤ component_limit
few p = nodes_few p.accepted

are : (p : Plot) → length p.keys.now ≡ component_count p.components.now
are p = nodes_are p.accepted

-- the front of a slice is as long as it was cut
long_enough : (k m : ℕ) (l : List ℕ) → k ≤ length l → m ≤ k → m ≤ length (take k l)
long_enough k m l h g = omega (arith, length-take-le k l h)

part_long : (k : ℕ) (out rest : List ℕ) → k ≤ length out → length (take k (out ++ rest)) ≡ k
part_long k out rest h = length-take-le k (out ++ rest) (omega (arith, h, length-append out rest))

there : (k : ℕ) (out rest : List ℕ) → k ≤ length out → k ≤ length (out ++ rest)
there k out rest h = omega (arith, h, length-append out rest)

part_fits : (k m : ℕ) (out rest : List ℕ) → k ≤ length out → k * number_bytes ≤ m → length (take k (out ++ rest)) * number_bytes ≤ m
part_fits k m out rest h g = omega (arith, part_long k out rest h, g)

pub slice_bounds-region_rows-end : goal.slice_bounds-region_rows-end
slice_bounds-region_rows-end c = few c.args.plot.now

pub slice_bounds-analyze-end : goal.slice_bounds-analyze-end
slice_bounds-analyze-end c = sym (length-take-le _ _ (few c.args.plot.now))

pub slice_bounds-source_rows-end : goal.slice_bounds-source_rows-end
slice_bounds-source_rows-end c = omega (arith, few c.args.plot.now)

pub slice_bounds-analyze-end-2 : goal.slice_bounds-analyze-end-2
slice_bounds-analyze-end-2 c = sym (length-take-le _ _ (omega (arith, few c.args.plot.now)))

pub slice_bounds-input_rows-end : goal.slice_bounds-input_rows-end
slice_bounds-input_rows-end c = omega (arith, few c.args.plot.now)

pub slice_bounds-analyze-end-3 : goal.slice_bounds-analyze-end-3
slice_bounds-analyze-end-3 c = sym (length-take-le _ _ (omega (arith, few c.args.plot.now)))

pub slice_bounds-pairs-end : goal.slice_bounds-pairs-end
slice_bounds-pairs-end c = omega (arith, few c.args.plot.now)

pub slice_bounds-analyze-end-4 : goal.slice_bounds-analyze-end-4
slice_bounds-analyze-end-4 c = sym (length-take-le _ _ (omega (arith, few c.args.plot.now)))

pub analyze-analysis-requires : goal.analyze-analysis-requires
analyze-analysis-requires c =
    let p = c.args.plot.now in
    record {
      regions_room = long_enough _ _ _ (few p) (omega (arith, are p));
      sources_room = long_enough _ _ _ (omega (arith, few p)) (omega (arith, are p));
      inputs_room = long_enough _ _ _ (omega (arith, few p)) (omega (arith, are p));
      stack_room = long_enough _ _ _ (omega (arith, few p)) (omega (arith, are p));
    }

module _ (c : After-analyze-analysis) where
  regions_long : length c.analyze-analysis.new.regions ≡ length c.args.plot.now.keys.now
  regions_long = c.analyze-analysis.auto.regions ∙ length-take-le _ _ (few c.args.plot.now)

  sources_long : length c.analyze-analysis.new.sources ≡ 4 * length c.args.plot.now.keys.now
  sources_long = c.analyze-analysis.auto.sources ∙ length-take-le _ _ (omega (arith, few c.args.plot.now))

  inputs_long : length c.analyze-analysis.new.inputs ≡ 12 * length c.args.plot.now.keys.now
  inputs_long = c.analyze-analysis.auto.inputs ∙ length-take-le _ _ (omega (arith, few c.args.plot.now))

  sources_found : c.analyze-analysis.result.sources * 2 ≤ length c.analyze-analysis.new.sources
  sources_found = sources_there c.analyze-analysis.ensures

  inputs_found : c.analyze-analysis.result.inputs * 3 ≤ length c.analyze-analysis.new.inputs
  inputs_found = inputs_there c.analyze-analysis.ensures

pub slice_bounds-region_rows-end-2 : goal.slice_bounds-region_rows-end-2
slice_bounds-region_rows-end-2 c =
    let now = (goal.at.slice_bounds-region_rows-end-2 c).After-analyze-analysis in
    there _ c.analyze-analysis.new.regions _ (omega (arith, regions_long now))

pub slice_bounds-rows-end : goal.slice_bounds-rows-end
slice_bounds-rows-end c =
    let now = (goal.at.slice_bounds-rows-end c).After-analyze-analysis in
    sym (part_long (length c.args.plot.now.keys.now) c.analyze-analysis.new.regions _ (omega (arith, regions_long now)))

pub write_answer-requires : goal.write_answer-requires
write_answer-requires c =
    let now = (goal.at.write_answer-requires c).After-analyze-analysis in
    let p = c.args.plot.now in
    let room = c.requires in
    let n = are p in
    record {
      regions_fit = part_fits (length p.keys.now) _ c.analyze-analysis.new.regions _ (omega (arith, regions_long now)) (omega (arith, room.regions_fit, n));
      sources_fit = part_fits _ _ _ _ (sources_found now) (omega (arith, sources_found now, sources_long now, room.sources_fit, n));
      inputs_fit = part_fits _ _ _ _ (inputs_found now) (omega (arith, inputs_found now, inputs_long now, room.inputs_fit, n));
      sets_fit = room.sets_fit;
      regions_few = omega (arith, regions_most p.accepted.scene, c.analyze-analysis.ensures.analysis.region_count_lem);
      sources_few = omega (arith, sources_found now, sources_long now, few p);
      inputs_few = omega (arith, inputs_found now, inputs_long now, few p);
    }

-- the sets have as many words as a set has, of 64 bits each
words : (c : After-analyze-analysis) → let r = c.analyze-analysis.result in
    (WordsOfSet r.drive.words × WordsOfSet r.potential.words) × (WordsOfSet r.cyclic.words × WordsOfSet r.has_drive.words)
words c =
    let drive : (i : ℕ) → Fits w64 (get_or c.analyze-analysis.result.drive.words i 0) = λ i. search rules in
    let potential : (i : ℕ) → Fits w64 (get_or c.analyze-analysis.result.potential.words i 0) = λ i. search rules in
    let cyclic : (i : ℕ) → Fits w64 (get_or c.analyze-analysis.result.cyclic.words i 0) = λ i. search rules in
    let has_drive : (i : ℕ) → Fits w64 (get_or c.analyze-analysis.result.has_drive.words i 0) = λ i. search rules in (
      (record { long = search rules; fit = λ i. (drive i).fits }, record { long = search rules; fit = λ i. (potential i).fits }),
      (record { long = search rules; fit = λ i. (cyclic i).fits }, record { long = search rules; fit = λ i. (has_drive i).fits }),
    )

-- what was written of parts of longer arrays
written_of : {r : Analysis} {n k j : ℕ} (regions sources inputs more₁ more₂ more₃ : List ℕ) {a a' b b' d d' e e' f f' : List ℕ} {x : ℕ}
    → n ≤ length regions → k ≤ length sources → j ≤ length inputs
    → Written r (take n (regions ++ more₁)) (take k (sources ++ more₂)) (take j (inputs ++ more₃)) a a' b b' d d' e e' f f' x
    → Written r (take n regions) (take k sources) (take j inputs) a a' b b' d d' e e' f f' x
written_of {n = n} {k = k} {j = j} regions sources inputs more₁ more₂ more₃ l m o w =
    rw (take-append-le n regions more₁ l, take-append-le k sources more₂ m, take-append-le j inputs more₃ o) at w

pub returns : goal.returns
returns c =
    let now = (goal.at.returns c).After-analyze-analysis in
    let w = words now in
    let n = are c.args.plot.now in
    let long : length c.args.plot.now.keys.now ≤ length c.analyze-analysis.new.regions = omega (arith, regions_long now) in
    accepted_alive c.analyze-analysis.ensures refl w.0.0 w.0.1 w.1.0 w.1.1
    (rw n at (written_of c.analyze-analysis.new.regions c.analyze-analysis.new.sources c.analyze-analysis.new.inputs _ _ _ long (sources_found now) (inputs_found now) c.write_answer.ensures))
