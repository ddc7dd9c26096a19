-- `plotreport::program::answer` meets its contract where a sheet is refused, the lines of the refusal are in the buffer; and demand 3.
-- Assumes nothing.
use Rattle.std.proofs.Common.{sym}
use lib.Seq.{length-take-le}
use Rattle.plotreport.proofs.Spoken.{refusal_shown, report_shown, printed_demand}
use Rattle.plotreport.proofs.program.answer.Goals as goal

pub slice_bounds-result-end-in-Err : goal.slice_bounds-result-end-in-Err
slice_bounds-result-end-in-Err c =
    let shown = refusal_shown c.args.text.now c.told-out c.in-Err.ensures c.put_refusal-count.ensures in
    sym (length-take-le _ _ shown.inside)

pub returns-in-Err-clause-printed : goal.returns-in-Err-clause-printed
returns-in-Err-clause-printed c = (refusal_shown c.args.text.now c.told-out c.in-Err.ensures c.put_refusal-count.ensures).front

pub returns-in-Err-clause-demand : goal.returns-in-Err-clause-demand
returns-in-Err-clause-demand c =
    printed_demand c.args.text.now _ (refusal_shown c.args.text.now c.told-out c.in-Err.ensures c.put_refusal-count.ensures).front

pub returns-in-Ok-clause-demand : goal.returns-in-Ok-clause-demand
returns-in-Ok-clause-demand c = printed_demand c.args.text.now _ (report_shown c.args.text.now c.told-out c.in-Ok.ensures)
