-- No line, one or two, each of them short.
use native.Mathlib.Omega.{arith}
use mathlib.Core.Path.{sym, ap, ◌∙◌}
use lib.ListN.{length, length-append}
use lib.IntN.{pos}
use Rattle.lines.specs.Text.{ascii}
use Rattle.lines.specs.Decimal.{line_of}
use Rattle.forms.specs.Writing.{rules_line}
use Rattle.forms.proofs.Texts.{head_none, head_rules, head_both, rules_most, form_most}
use Rattle.forms.proofs.text.head_length.Goals as goal

pub overflow_add-result : goal.overflow_add-result
overflow_add-result c = omega (arith, c.line_length-in-Short.ensures, c.line_length-in-Short-2.ensures, form_most, rules_most c.args.rules)

pub returns-in-Old : goal.returns-in-Old
returns-in-Old c = sym (ap length (head_none c.args.rules c.in-Old.is c.if-rules-eq1.true))

pub returns-in-Old-2 : goal.returns-in-Old-2
returns-in-Old-2 c = c.line_length.ensures ∙ sym (ap length (head_rules c.args.rules c.in-Old.is c.if-rules-eq1.false))

pub returns-in-Short : goal.returns-in-Short
returns-in-Short c =
    omega (
      arith,
      c.line_length-in-Short.ensures,
      c.line_length-in-Short-2.ensures,
      ap length (head_both c.args.rules c.in-Short.is),
      length-append (line_of (ascii "sheet") (pos 2)) (rules_line c.args.rules),
    )
