-- `assessment::upstream::seed_rows` meets its contract: the flagged members passed are in the rows of their regions.
-- Assumes nothing.
use Rattle.assessment.specs.Upstream.{Seeded}
use Rattle.assessment.proofs.upstream.seed_rows.Given as goal

abbrev pub invariant-loop-k : goal.invariant-loop-k
invariant-loop-k l = Seeded l.k l.labels l.flags l.rows
