-- `plotreport::program::report_sheet` meets its contract: a sheet that is too long is refused, any other is the sheet entry's.
-- Assumes nothing.
use Rattle.std.specs.Prelude.{⊤, Result}
use Rattle.lists.specs.declared.Refusal.{Refusal}
use mathlib.Core.Path.{sym, subst, ◌∙◌}
use Rattle.sheet.specs.Entry.{rules_of, components_of, connections_of, frontiers_of}
use Rattle.report.specs.Report.{report_of}
use Rattle.sheet.specs.Written.{PrintedBy}
use Rattle.plotreport.specs.Program.{parsed_by}
use Rattle.plotreport.proofs.Spoken.{long_sheet, short_sheet}
use Rattle.plotreport.proofs.program.report_sheet.Goals as goal

pub returns-then-text-gt-BYTES : goal.returns-then-text-gt-BYTES
returns-then-text-gt-BYTES c = let a = c.args in long_sheet a.text.now a.out.now c.if-text-gt-BYTES.true

pub returns : goal.returns
returns c =
    let a = c.args in
    let p = parsed_by a.text.now in
    let report = c.report in
    record {
      by = subst (λ (checks : Result ⊤ Refusal). PrintedBy checks (report_of (rules_of p) (components_of p) (connections_of p) (frontiers_of p)) a.out.now report.new.out report.result)
          (sym (short_sheet a.text.now c.if-text-gt-BYTES.false)) report.ensures.printed;
      demand = λ e. report.ensures.demand (sym (short_sheet a.text.now c.if-text-gt-BYTES.false) ∙ e);
    }
