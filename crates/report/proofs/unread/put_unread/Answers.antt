-- `report::unread::put_unread` meets its contract: the rules have the block, or they do not.
-- Assumes nothing.
use Rattle.std.proofs.Common.{rules}
use mathlib.Core.Path.{◌≡◌, sym, ◌∙◌}
use mathlib.Core.Bool.{true, false}
use Prim.Native.Nat.{◌<◌}
use native.Mathlib.Omega.{arith}
use lib.ListN.{length}
use Rattle.lists.specs.Rules.{blanks_unread}
use Rattle.blocks.specs.Printed.{greatest}
use Rattle.blocks.proofs.Printing.{printed_none}
use Rattle.report.proofs.unread.put_unread.Goals as goal

pub returns-then-blanks_unread : goal.returns-then-blanks_unread
returns-then-blanks_unread c =
    let has : blanks_unread c.args.rules ≡ true = sym c.blanks_unread.ensures ∙ c.if-blanks_unread.true in rw has c.put_block.ensures

pub returns : goal.returns
returns c =
    let none : blanks_unread c.args.rules ≡ false = sym c.blanks_unread.ensures ∙ c.if-blanks_unread.false in
    let short : length c.args.out.now < greatest = search rules in
    rw none (printed_none c.args.at c.args.out.now short (omega (arith, c.ranges.at.fits)))
