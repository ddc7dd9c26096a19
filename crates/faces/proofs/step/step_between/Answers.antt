-- `faces::step::step_between` meets its contract.
-- Assumes nothing.
use Rattle.std.proofs.Common.{rules}
use Rattle.std.proofs.lemmas.Int.{to_z-of_z}
use mathlib.Core.Bool.{cond}
use mathlib.Core.Path.{◌≡◌, sym, ap, ◌∙◌}
use lib.Dec.{eqb}
use mir.Val.{SFits}
use mir.Syntax.{w64}
use Rattle.faces.specs.Codes.{face_number}
use Rattle.faces.specs.Ports.{NoFace}
use Rattle.faces.specs.Step.{Level, slope_of, shift_between}
use Rattle.faces.specs.declared.step.Shift.{Shift}
use Rattle.faces.proofs.Steps.{facing_by_shifts, slope_by_shift}
use Rattle.faces.proofs.step.step_between.Goals as goal

pub returns-clause-face : goal.returns-clause-face
returns-clause-face c =
    let a = c.args.from in
    let b = c.args.to in
    let x : SFits w64 a.0 = search rules in
    let y : SFits w64 a.1 = search rules in
    let z : SFits w64 a.2 = search rules in
    let to_x : SFits w64 b.0 = search rules in
    let to_y : SFits w64 b.1 = search rules in
    let to_z : SFits w64 b.2 = search rules in
    simp (to_z-of_z, c.shift_between-x.ensures, c.shift_between-y.ensures, c.shift_between-z.ensures) at c.face_of-face.ensures
    ∙ sym (facing_by_shifts a.0 a.1 a.2 b.0 b.1 b.2)

pub returns-clause-slope : goal.returns-clause-slope
returns-clause-slope c =
    let a = c.args.from in
    let b = c.args.to in
    let y : SFits w64 a.1 = search rules in
    let to_y : SFits w64 b.1 = search rules in
    let face = c.face_of-face.result in
    let shift : c.shift_between-y.result ≡ shift_between a.1 b.1 = simp to_z-of_z at c.shift_between-y.ensures in
    rw (slope_by_shift a.0 a.1 a.2 b.0 b.1 b.2, ← returns-clause-face c)
    (c.slope_of.ensures ∙ ap (λ (s : Shift). cond (eqb (face_number face) NoFace) Level (slope_of s)) shift)
