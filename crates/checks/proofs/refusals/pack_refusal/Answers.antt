-- `checks::refusals::pack_refusal` meets its contract: a small refusal has at most 29 bits.
-- Assumes nothing.
use native.Mathlib.Omega.{arith}
use Rattle.checks.proofs.Small.{fault_within, list_few}
use Rattle.checks.proofs.refusals.pack_refusal.Goals as goal

pub overflow_mul-result : goal.overflow_mul-result
overflow_mul-result c = omega (arith, c.list_number.ensures, list_few c.args.refusal.list)

pub overflow_add-result : goal.overflow_add-result
overflow_add-result c =
    omega (arith, c.list_number.ensures, list_few c.args.refusal.list, c.from.ensures, fault_within c.args.refusal.fault)
