-- The line behind the rules.
use native.Mathlib.Omega.{arith}
use mathlib.Core.Path.{◌≡◌}
use lib.ListN.{length, drop}
use mir.Syntax.{w64}
use mir.Facts.{to_z-of_z}
use Rattle.std.specs.Prelude.{Some}
use Rattle.std.proofs.Common.{rules, FitsSigned}
use Rattle.lines.specs.Text.{ascii}
use Rattle.lines.specs.Line.{read_line, taken_in}
use Rattle.lines.proofs.Placed.{line_rest}
use Rattle.forms.proofs.Heads.{rules_known}
use Rattle.forms.proofs.head.read_rules.Goals as goal

pub returns : goal.returns
returns c =
    let a = c.args in
    let y = c.in_ok-rules in
    let e : taken_in (length a.text.now) (read_line (ascii "rules") (drop a.at a.text.now)) ≡ Some (y.rules, y.end) = grind arith in
    let (w, r) = line_rest a.text.now a.at (ascii "rules") y.rules y.end e in
    let fits : FitsSigned w64 y.rules = search rules in
    let v = to_z-of_z {w = w64} fits in
    let l = rw v at c.if-rules-lt1.false in
    let h = rw v at c.if-most-rules.false in
    (w, omega arith, rw (r, v) (rules_known a.style a.most a.line _ y.rules l h))
