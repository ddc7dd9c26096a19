-- Answers for the goals that the search leaves.
use mathlib.Core.Path.{ap}
use mathlib.Core.List.{List, ◌++◌}
use Prim.Native.Nat.{ℕ, suc, ◌/◌}
use native.Mathlib.Numerals.{add-one}
use lib.IntN.{pos}
use lib.ListN.{length}
use Rattle.lines.specs.Decimal.{line_of}
use Rattle.blocks.specs.Blocks.{count_name}
use Rattle.blocks.proofs.Printing.{goes_on, goes_done}
use Rattle.blocks.proofs.FieldText.{lines_from, line_at, fields_one, fields_none}
use Rattle.blocks.proofs.put_block.Goals as goal

pub loop-k-init : goal.loop-k-init
loop-k-init c =
    let rows = c.args.rows.now in
    let count : ℕ → List ℕ = λ w. line_of (count_name c.args.block) (pos (length rows / w)) in
    record {
      done = count c.width.result;
      printed = c.put_count-p.ensures;
      all = ap (λ (w : ℕ). count w ++ lines_from c.args.block rows 0) c.width.ensures.0;
    }

pub loop-k-preserved : goal.loop-k-preserved
loop-k-preserved c =
    let l = c.loop-k in
    let rows = c.args.rows.now in
    rw (add-one l.k)
    (goes_on (line_at c.args.block rows l.k) (lines_from c.args.block rows (suc l.k))
    (fields_one c.args.block rows l.k c.loop-k-test.true) l.invariant c.put_field-p.ensures)

pub returns : goal.returns
returns c = goes_done (fields_none c.args.block c.args.rows.now c.loop-k.k c.loop-k-test.false) c.loop-k.invariant
