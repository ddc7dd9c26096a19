-- A field more.
use native.Mathlib.Omega.{arith}
use mathlib.Core.Path.{refl, sym, ◌∙◌}
use lib.ListN.{take}
use Rattle.forms.specs.Form.{lines_of}
use Rattle.forms.proofs.Held.{lines_turn, line_added}
use Rattle.forms.proofs.read.lines_of.Goals as goal

pub loop-field-init : goal.loop-field-init
unfolding lines_of
loop-field-init c = (omega arith, refl)

pub loop-field-preserved : goal.loop-field-preserved
loop-field-preserved c =
    let x = c.loop-field in
    let form = take c.args.n c.args.form.fields.now in
    let (few, more) = line_added _ x.lines x.field-index x.invariant.0 in
    rw c.from-lines.ensures (few, more ∙ rw x.invariant.1 (sym (lines_turn form x.field-index _ c.loop-field-test.true)))
