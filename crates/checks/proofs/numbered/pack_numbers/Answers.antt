-- `checks::numbered::pack_numbers` meets its contract: a refusal's digits are its three parts.
-- Assumes nothing.
use mathlib.Core.Path.{sym, ap}
use Rattle.checks.specs.Numbered.{packed_numbers}
use Rattle.checks.proofs.numbered.pack_numbers.Goals as goal

pub returns-in-Err : goal.returns-in-Err
returns-in-Err c = ap packed_numbers (sym c.in-Err.is)
