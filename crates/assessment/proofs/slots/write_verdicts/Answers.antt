-- `assessment::slots::write_verdicts` meets its contract: flags, then rows, each by its law.
-- Assumes nothing.
use mathlib.Core.Path.{refl, sym, subst}
use mathlib.Core.List.{List}
use Prim.Native.Nat.{ℕ}
use native.Mathlib.Omega.{arith}
use Rattle.assessment.specs.Rows.{Scanned}
use Rattle.lists.proofs.EndLaws.{sinks_length}
use Rattle.signals.proofs.Ends.{ends_within}
use Rattle.signals.proofs.Staged.{sink_ends}
use Rattle.assessment.proofs.RowLaws.{members_within, no_rows, verdicts_are}
use Rattle.assessment.proofs.slots.write_verdicts.Goals as goal

-- no rows, and none are written
pub returns-then-not-any_required : goal.returns-then-not-any_required
returns-then-not-any_required c fs live =
    let rules = c.args.rules in
    let none = c.any_required.ensures (c.if-not-any_required.true) in
    subst (λ (l : List ℕ). Scanned l 3 c.args.out.now c.args.out.now 0)
    (sym (no_rows rules c.args.components.numbers.now c.args.ports.numbers.now fs none _ (omega arith)))
    (record { is = refl; count = refl })

pub mark_slots-requires-clause-signal_ends : goal.mark_slots-requires-clause-signal_ends
mark_slots-requires-clause-signal_ends c =
    let few = c.args.components.within.few in
    let ends = sink_ends few c.requires.settled.0 c.requires.settled.1 (ends_within _ _ c.requires.ends) (omega (arith, c.requires.ports_in_bounds, sinks_length c.args.ends.now)) in
    record { long = ends.long; below = λ k h signal. omega (arith, ends.below k h signal, few) }

pub put_rows-requires-clause-members : goal.put_rows-requires-clause-members
put_rows-requires-clause-members c = members_within _ c.args.components.within.few c.requires.numbers.0

pub returns : goal.returns
returns c fs live =
    subst (λ (l : List ℕ). Scanned l 3 c.args.out.now c.put_rows.new.out c.put_rows.result)
    (verdicts_are c.args.components.within.few c.requires.settled.0 c.requires.settled.1 c.requires.ends c.requires.numbers.0 c.mark_slots.ensures c.mark_slots.array_long c.args.rules fs live)
    c.put_rows.ensures
