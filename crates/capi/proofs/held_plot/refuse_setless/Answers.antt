-- `capi::held_plot::refuse_setless` meets its contract: 18 before 2. Assumes nothing.
use Rattle.std.specs.Prelude.{⊤, None, Result, Err}
use mathlib.Core.Path.{◌≡◌, refl, sym, ap, ◌∙◌}
use mathlib.Core.Bool.{false}
use Rattle.lists.specs.declared.Fault.{Fault}
use Rattle.lists.specs.declared.Refusal.{Refusal}
use Rattle.checks.specs.Refusals.{packed}
use Rattle.held.specs.Inspected.{lent_of}
use Rattle.held_liveness.specs.Entry.{held_refusal}
use Rattle.held_liveness.proofs.FreshLaws.{refused_18, refused_2}
use Rattle.capi.proofs.held_plot.refuse_setless.Goals as goal
use Rattle.capi.proofs.held_plot.refuse_setless.Goals.{then-is_left, else-is_left}

abbrev of_fault : Fault → Result ⊤ Refusal
of_fault fault = Err (record { fault = fault; list = None; item = 0 })

pub returns : goal.returns
returns c =
    let lent = lent_of c.args.state.now c.args.frontiers.now c.args.places.now c.args.connections.now in
    let told : of_fault c.if-is_left.fault ≡ held_refusal lent false =
    elim c.if-is_left.branch [
      | then-is_left w ↦ ap of_fault w.fault-is ∙ sym (refused_2 lent false (sym c.is_left.ensures ∙ w.if-is_left.true) refl)
      | else-is_left w ↦ ap of_fault w.fault-is ∙ sym (refused_18 lent false (sym c.is_left.ensures ∙ w.if-is_left.false))
    ] in
    c.pack_refusal.ensures ∙ ap packed told
