-- The report is written into the front of the buffer, and its refusal has room in the answer's digits.
use mathlib.Core.Path.{refl}
use Rattle.lists.specs.Rules.{rules_limit}
use Rattle.forms.proofs.SheetSmall.{parse_small}
use Rattle.capi.proofs.TextLaws.{report_small, by_report}
use Rattle.capi.proofs.texts.dustroute_report.Goals as goal

pub pack_refusal-requires : goal.pack_refusal-requires
pack_refusal-requires c =
    let n = c.limits.result in
    report_small (parse_small rules_limit n.components n.connections n.frontiers c.args.text.now) c.report-made.ensures c.in-Err.is

pub returns-in-Err : goal.returns-in-Err
returns-in-Err c = by_report c.min-room.ensures (rw c.in-Err.is c.pack_refusal.ensures) c.limits.ensures c.report-made.ensures

pub returns-in-Ok : goal.returns-in-Ok
returns-in-Ok c = by_report c.min-room.ensures (rw c.in-Ok.is refl) c.limits.ensures c.report-made.ensures
