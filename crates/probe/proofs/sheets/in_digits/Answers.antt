-- `probe::sheets::in_digits` meets its contract, test by test.
-- Assumes nothing.
use borrow.Author.Tests.{le-leb, lt-leb}
use Prim.Native.Nat.{◌^◌}
use Rattle.probe.proofs.sheets.in_digits.Goals as goal

pub returns-then-number-ge256 : goal.returns-then-number-ge256
returns-then-number-ge256 c = let a = c.args in rw (le-leb 256 a.number c.if-number-ge256.true)

pub returns-then-list-ge256 : goal.returns-then-list-ge256
returns-then-list-ge256 c = let a = c.args in rw (lt-leb 256 a.number c.if-number-ge256.false, le-leb 256 a.list c.if-list-ge256.true)

pub returns-then-item-ge-ITEMS : goal.returns-then-item-ge-ITEMS
returns-then-item-ge-ITEMS c =
    let a = c.args in
    rw (lt-leb 256 a.number c.if-number-ge256.false, lt-leb 256 a.list c.if-list-ge256.false, le-leb (2 ^ 48) a.item c.if-item-ge-ITEMS.true)

pub returns : goal.returns
returns c =
    let a = c.args in
    rw (lt-leb 256 a.number c.if-number-ge256.false, lt-leb 256 a.list c.if-list-ge256.false, lt-leb (2 ^ 48) a.item c.if-item-ge-ITEMS.false)
