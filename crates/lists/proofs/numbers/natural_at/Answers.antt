-- `lists::numbers::natural_at` meets its contract: the number is not negative, so the cast is defined.
-- Assumes nothing.
use borrow.Author.Rules.{rules}
use Rattle.lists.specs.Signed.{at}
use Rattle.lists.proofs.Signed.{cast_ok}
use Rattle.lists.proofs.numbers.natural_at.Goals as goal

pub overflow_cast-result : goal.overflow_cast-result
overflow_cast-result c = cast_ok (at c.args.list.now c.args.i) (search rules) c.requires.1
