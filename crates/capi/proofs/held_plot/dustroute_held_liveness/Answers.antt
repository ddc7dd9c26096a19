-- `capi::held_plot::dustroute_held_liveness` meets its contract: what `held_liveness` answers, as one number and words. Assumes nothing.
use borrow.Author.Rules.{rules}
use mathlib.Core.Path.{sym, ap, ◌∙◌}
use Prim.Native.Nat.{ℕ}
use lib.ListN.{get_or}
use mir.Val.{Fits}
use mir.Syntax.{w64}
use Rattle.held.specs.Inspected.{lent_of}
use Rattle.liveness.specs.Sets.{checked}
use Rattle.held_liveness.specs.Entry.{refusal_of}
use Rattle.capi.proofs.LivenessLaws.{WordsOfSet}
use Rattle.capi.proofs.HeldLaws.{held_small, err_small}
use Rattle.capi.proofs.HeldReport.{setless, reported_refused, report_few, reported_ok}
use Rattle.capi.proofs.held_plot.dustroute_held_liveness.Goals as goal
use Rattle.capi.proofs.held_plot.dustroute_held_liveness.Goals.{In-Ok}

pub returns-then-not-room_for : goal.returns-then-not-room_for
returns-then-not-room_for c =
    let a = c.args in
    setless (lent_of a.state.now a.frontiers.now a.places.now a.connections.now) a.components.now a.regions.now a.sources.now a.inputs.now a.sets.now a.stack.now
    c.refuse_setless.result (sym c.room_for.ensures ∙ c.if-not-room_for.true) c.refuse_setless.ensures

pub pack_refusal-requires : goal.pack_refusal-requires
pack_refusal-requires c =
    let a = c.args in
    let lent = lent_of a.state.now a.frontiers.now a.places.now a.connections.now in
    err_small (refusal_of lent a.components.now a.regions.now a.sources.now a.inputs.now a.stack.now) (held_small lent _)
    (sym c.held_liveness-answer.ensures.by.answer ∙ ap checked c.in-Err.is)

pub returns-in-Err : goal.returns-in-Err
returns-in-Err c =
    let a = c.args in
    reported_refused (lent_of a.state.now a.frontiers.now a.places.now a.connections.now) a.components.now a.regions.now a.sources.now a.inputs.now a.sets.now a.stack.now
    (sym c.room_for.ensures ∙ c.if-not-room_for.false) c.held_liveness-answer.ensures c.in-Err.refusal c.pack_refusal.result c.in-Err.is c.pack_refusal.ensures

pub put_report-requires-clause-few : goal.put_report-requires-clause-few
put_report-requires-clause-few c =
    let a = c.args in
    report_few (lent_of a.state.now a.frontiers.now a.places.now a.connections.now) a.components.now a.regions.now a.sources.now a.inputs.now a.sets.now a.stack.now
    (sym c.room_for.ensures ∙ c.if-not-room_for.false) c.held_liveness-answer.ensures c.in-Ok.is

-- the words of the sets, of 64 bits each
drive : (c : In-Ok) → WordsOfSet c.in-Ok.analysis.drive.words
drive c =
    let word : (i : ℕ) → Fits w64 (get_or c.in-Ok.analysis.drive.words i 0) = λ i. search rules in
    record { long = search rules; fit = λ i. (word i).fits }

potential : (c : In-Ok) → WordsOfSet c.in-Ok.analysis.potential.words
potential c =
    let word : (i : ℕ) → Fits w64 (get_or c.in-Ok.analysis.potential.words i 0) = λ i. search rules in
    record { long = search rules; fit = λ i. (word i).fits }

cyclic : (c : In-Ok) → WordsOfSet c.in-Ok.analysis.cyclic.words
cyclic c =
    let word : (i : ℕ) → Fits w64 (get_or c.in-Ok.analysis.cyclic.words i 0) = λ i. search rules in
    record { long = search rules; fit = λ i. (word i).fits }

has_drive : (c : In-Ok) → WordsOfSet c.in-Ok.analysis.has_drive.words
has_drive c =
    let word : (i : ℕ) → Fits w64 (get_or c.in-Ok.analysis.has_drive.words i 0) = λ i. search rules in
    record { long = search rules; fit = λ i. (word i).fits }

pub returns-in-Ok : goal.returns-in-Ok
returns-in-Ok c =
    let a = c.args in
    let at = (goal.at.returns-in-Ok c).In-Ok in
    reported_ok (lent_of a.state.now a.frontiers.now a.places.now a.connections.now) a.components.now a.regions.now a.sources.now a.inputs.now a.sets.now a.stack.now
    (sym c.room_for.ensures ∙ c.if-not-room_for.false) c.held_liveness-answer.ensures c.in-Ok.is
    c.put_report.new.out c.put_report.result (drive at) (potential at) (cyclic at) (has_drive at) c.put_report.ensures.sets c.put_report.ensures.counts
