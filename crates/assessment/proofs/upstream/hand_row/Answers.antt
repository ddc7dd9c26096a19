-- Answers for the goals that the search leaves.
use Rattle.std.proofs.Common.{arith, refl, sym, ap, ◌∙◌}
use lib.ListN.{length-set}
use Rattle.regions.specs.Graph.{at}
use Rattle.assessment.proofs.UpRows.{row_none, row_more, row_same, row_all}
use Rattle.assessment.proofs.upstream.hand_row.Goals as goal
use Rattle.assessment.proofs.upstream.hand_row.Goals.{then-t-r, else-t-r}

pub loop-node-init : goal.loop-node-init
loop-node-init c = record { handed = row_none _ _ _ _; long = refl }

pub loop-node-preserved : goal.loop-node-preserved
loop-node-preserved c =
    let l = c.loop-node in
    let is = c.from-t.ensures ∙ ap (at c.args.labels.now) c.from.ensures in
    let low = c.requires.labels.labels_below l.node-index c.loop-node-test.true in
    elim c.if-t-r.branch [
      | then-t-r w ↦ rw w.rows-is record {
        handed = row_more l.invariant.handed _ is (omega (arith, low, is, c.told-rows, l.invariant.long)) w.union.result w.union.ensures;
        long = length-set l.rows c.from-t.result w.union.result ∙ l.invariant.long;
      }
      | else-t-r w ↦ rw w.rows-is record { handed = row_same l.invariant.handed (sym is ∙ w.if-t-r.false); long = l.invariant.long }
    ]

pub returns : goal.returns
returns c = row_all c.loop-node.invariant.handed (omega arith) (omega arith)
