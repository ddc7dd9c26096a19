-- `assessment::verdicts::slot_fed` meets its contract.
-- Assumes nothing.
use mathlib.Core.Path.{◌≡◌, sym, ◌∙◌}
use mathlib.Core.Logic.{⊎_elim}
use Prim.Native.Nat.{◌/◌}
use native.Mathlib.Omega.{arith}
use lib.ListN.{length, get_or}
use borrow.Author.Tests.{eq-eqb, ne_eqb, le-ltb}
use Rattle.tables.specs.Pairs.{span}
use Rattle.tables.specs.Laws.{same?}
use Rattle.assessment.proofs.Fed.{fed_here, fed_past}
use Rattle.assessment.proofs.verdicts.slot_fed.Goals as goal

pub returns-else-at-keys : goal.returns-else-at-keys
returns-else-at-keys c =
    le-ltb c.args.at (length c.args.keys.now) (omega arith)
    ∙ sym (fed_past c.args.keys.now c.args.slot c.requires.ascending.0 c.requires.lower_bound (λ h. absurd (omega arith)))

pub returns-then-at-keys : goal.returns-then-at-keys
returns-then-at-keys c =
    let keys = c.args.keys.now in
    let slot = c.args.slot in
    let at = c.args.at in
    ⊎_elim
    (λ (e : get_or keys at 0 / span ≡ slot). eq-eqb _ slot e ∙ sym (fed_here keys slot at c.if-at-keys.true e))
    (λ n. ne_eqb _ slot n ∙ sym (fed_past keys slot c.requires.ascending.0 c.requires.lower_bound (λ h. n)))
    (same? (get_or keys at 0 / span) slot)
