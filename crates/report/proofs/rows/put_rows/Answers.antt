-- Answers for the goals that the search leaves.
use mathlib.Core.Path.{refl}
use mathlib.Core.List.{List, []}
use Prim.Native.Nat.{ℕ, ◌+◌, ◌*◌, ◌/◌, ◌≤◌}
use lib.IntN.{pos}
use native.Mathlib.Omega.{arith}
use lib.ListN.{length, get_or}
use Rattle.lines.specs.Text.{ascii}
use Rattle.lines.specs.Decimal.{line_of}
use Rattle.blocks.proofs.Printing.{goes_on, goes_done}
use Rattle.report.specs.Printing.{asked_text}
use Rattle.report.proofs.VerdictText.{lines_from, row_text, lines_at, lines_end}
use Rattle.report.proofs.rows.put_rows.Goals as goal

pub loop-device-init : goal.loop-device-init
loop-device-init c ps fs ready = record {
  done = line_of (ascii "inputs") (pos (length c.args.rows.now / 3));
  printed = rw c.as_chunks.ensures.front_len at c.put_count-p.ensures;
  all = refl;
}

pub loop-device-preserved : goal.loop-device-preserved
loop-device-preserved c ps fs ready =
    let text : ℕ → ℕ → ℕ → List ℕ = asked_text c.args.asked.now.rules c.args.asked.now.components.now ps fs in
    let rows = c.args.rows.now in
    let l = c.loop-device in
    goes_on (row_text text (get_or c.as_chunks.result.0.now l.device-index [])) (lines_from text rows (3 * (l.device-index + 1)))
    (lines_at text rows c.as_chunks.ensures.front l.device-index [] (omega (arith, c.loop-device-test.true, c.as_chunks.ensures.front_len)))
    (l.invariant ps fs ready) (c.put_asked-p.ensures ps fs ready)

pub returns : goal.returns
returns c ps fs ready =
    let text : ℕ → ℕ → ℕ → List ℕ = asked_text c.args.asked.now.rules c.args.asked.now.components.now ps fs in
    let past : length c.args.rows.now / 3 ≤ c.loop-device.device-index = omega (arith, c.loop-device-test.false, c.as_chunks.ensures.front_len) in
    goes_done (lines_end text c.args.rows.now c.loop-device.device-index past) (c.loop-device.invariant ps fs ready)
