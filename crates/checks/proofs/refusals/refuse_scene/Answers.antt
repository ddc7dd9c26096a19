-- `checks::refusals::refuse_scene` meets its contract: where lengths and ranges pass, the components have their table of ids, and where no id is
-- repeated each id's list place is settled in it.
-- Assumes nothing.
use Rattle.std.specs.Prelude.{Err}
use Rattle.std.proofs.Common.{rules}
use mathlib.Core.Path.{◌≡◌, sym, ◌∙◌}
use native.Mathlib.Omega.{arith}
use lib.Seq.{length-take-le, take_at}
use Rattle.lists.specs.Within.{Components}
use Rattle.checks.proofs.Chain.{goes, stops, refused}
use Rattle.checks.proofs.Accepts.{components_pass, scene_parts, settled}
use Rattle.checks.proofs.refusals.refuse_scene.Goals as goal
use Rattle.checks.proofs.refusals.refuse_scene.Goals.{In_ok-refuse_ranges}

passed : (c : In_ok-refuse_ranges) → Components c.args.components.now
passed c =
    components_pass c.args.rules _ c.args.width c.args.connections _ _ c.args.enough (sym c.refuse_lengths.ensures ∙ c.in_ok-refuse_lengths.was) (sym c.refuse_ranges.ensures ∙ c.in_ok-refuse_ranges.was)

pub slice_bounds-refuse_components-end : goal.slice_bounds-refuse_components-end
slice_bounds-refuse_components-end c =
    omega (arith, (passed (goal.at.slice_bounds-refuse_components-end c).In_ok-refuse_ranges).few, c.requires.1)

pub slice_bounds-refuse_components-end-2 : goal.slice_bounds-refuse_components-end-2
slice_bounds-refuse_components-end-2 c =
    let few = (passed (goal.at.slice_bounds-refuse_components-end-2 c).In_ok-refuse_ranges).few in
    sym (length-take-le _ c.args.keys.now (omega (arith, few, c.requires.1)))

pub invariant_of-accepted : goal.invariant_of-accepted
invariant_of-accepted c = record { within = passed (goal.at.invariant_of-accepted c).In_ok-refuse_ranges }

pub refuse_components-requires : goal.refuse_components-requires
refuse_components-requires c =
    let all = passed (goal.at.refuse_components-requires c).In_ok-refuse_ranges in
    length-take-le _ c.args.keys.now (omega (arith, all.few, c.requires.1))

pub returns-in_err-refuse_lengths : goal.returns-in_err-refuse_lengths
returns-in_err-refuse_lengths c =
    let back : c.from_residual.result ≡ Err c.in_err-refuse_lengths.field-0.0 = search rules in
    refused back (stops (stops (back ∙ c.in_err-refuse_lengths.ensures) back _) back _ ∙ scene_parts _ _ _ _ _ _ _)

pub returns-in_err-refuse_ranges : goal.returns-in_err-refuse_ranges
returns-in_err-refuse_ranges c =
    let back : c.from_residual-in_err-refuse_ranges.result ≡ Err c.in_err-refuse_ranges.field-0.0 = search rules in
    let found = goes c.refuse_lengths.ensures c.in_ok-refuse_lengths.was (back ∙ c.in_err-refuse_ranges.ensures) in
    refused back (stops found back _ ∙ scene_parts _ _ _ _ _ _ _)

pub returns : goal.returns
returns c =
    let few = (passed (goal.at.returns c).In_ok-refuse_ranges).few in
    let long = c.refuse_components.auto.keys ∙ length-take-le _ c.args.keys.now (omega (arith, few, c.requires.1)) in
    record {
      answer =
          goes (goes c.refuse_lengths.ensures c.in_ok-refuse_lengths.was c.refuse_ranges.ensures) c.in_ok-refuse_ranges.was
          c.refuse_components.ensures.answer
          ∙ scene_parts _ _ _ _ _ _ _;
      table = λ e. rw (take_at _ _ _ long) c.refuse_components.ensures.table;
      places = λ e. rw (take_at _ _ _ long) (settled c.refuse_components.ensures e);
    }
