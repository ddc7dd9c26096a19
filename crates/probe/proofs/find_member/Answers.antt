-- `probe::find_member` meets its contract.
-- Assumes nothing.
use mathlib.Core.Path.{refl, sym, ◌∙◌}
use native.Mathlib.Omega.{arith}
use Rattle.checks.proofs.Chain.{refused_not}
use Rattle.probe.proofs.Table.{Tabled, tabled}
use Rattle.probe.proofs.find_member.Goals as goal
use Rattle.probe.proofs.find_member.Goals.{In_ok-count}

table : (c : In_ok-count) → Tabled c.args.components.now c.accepted_ids.new.keys c.in_ok-count.count
table c = tabled c.accepted_ids.ensures.count c.accepted_ids.ensures.table c.accepted_ids.array_long c.in_ok-count.was

pub slice_bounds-keys-end : goal.slice_bounds-keys-end
slice_bounds-keys-end c = (table (goal.at.slice_bounds-keys-end c).In_ok-count).few

pub slice_bounds-place_at-end : goal.slice_bounds-place_at-end
slice_bounds-place_at-end c = sym (table (goal.at.slice_bounds-place_at-end c).In_ok-count).long

pub place_at-requires : goal.place_at-requires
place_at-requires c = omega (arith, (table (goal.at.place_at-requires c).In_ok-count).long)

pub returns : goal.returns
returns c =
    let t = table (goal.at.returns c).In_ok-count in
    let placed = c.place_at.ensures c.args.components.now t.table in
    record {
      member = record {
        refused = λ refusal e. absurd (refused_not (sym e ∙ t.accepted));
        past = λ h. absurd (omega (arith, t.count));
        found = λ e h. (c.place_at.result, (refl, (placed.below, placed.member t.scene.scene.once)));
      };
      place = omega (arith, placed.below, t.scene.components.few);
    }
