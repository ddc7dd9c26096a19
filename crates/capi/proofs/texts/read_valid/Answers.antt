-- The lists that were read are the fronts of the work lists; where they are refused these are cleared.
use mathlib.Core.Path.{refl}
use Rattle.capi.proofs.TextLaws.{unsound, sound}
use Rattle.capi.proofs.texts.read_valid.Goals as goal

pub returns-in-Err : goal.returns-in-Err
returns-in-Err c =
    unsound c.args.text.now c.limits.ensures c.read_sheet.ensures c.in_ok-sheet.was c.check_lists-checked.ensures c.in-Err.is
    c.read_sheet.auto.components
    (c.fill.ensures.after (λ y e. e))
    c.read_sheet.auto.connections
    (c.fill-in-Err.ensures.after (λ y e. e))
    c.read_sheet.auto.frontiers
    (c.fill-in-Err-2.ensures.after (λ y e. e))
    refl

pub returns-in-Ok : goal.returns-in-Ok
returns-in-Ok c =
    sound c.args.text.now c.limits.ensures c.read_sheet.ensures c.in_ok-sheet.was c.check_lists-checked.ensures c.in-Ok.is refl
