-- `held_liveness` meets its contract: 18, then 2, then the liveness entry on the lists of the fresh scene.
use mathlib.Core.Path.{◌≡◌, sym, ap, subst, ◌∙◌}
use mathlib.Core.Bool.{true, false, not}
use mathlib.Core.List.{List}
use Prim.Native.Nat.{ℕ, ◌*◌, ◌-◌, ◌≤◌}
use native.Mathlib.Omega.{arith}
use lib.ListN.{length, take}
use lib.Seq.{length-take-le}
use lib.IntN.{ℤ, pos}
use mir.Syntax.{w64}
use mir.Facts.{to_z-of_z}
use Rattle.std.proofs.Common.{FitsSigned}
use Rattle.lists.specs.Rules.{rules_of}
use Rattle.lists.specs.Limits.{component_width, port_width, frontier_width}
use Rattle.held.specs.Plot.{Plot, present}
use Rattle.held.specs.Lent.{Lent, counter, plot_in, lent_valid, used_in, freed_count_in, held_in, frontier_count_in}
use Rattle.held.specs.Inspected.{lent_of, blocks_in}
use Rattle.held.proofs.EntryLaws.{count_is}
use Rattle.held.proofs.LentLaws.{Passes, passes}
use Rattle.held_liveness.specs.Entry.{held_room}
use Rattle.held_liveness.specs.Order.{Fit}
use Rattle.held_liveness.proofs.Rows.{sound_of, blocks_fit, front_stands, laid_is, front_is, ports_shown, frontiers_shown, rules_shown, rules_few}
use Rattle.held_liveness.proofs.FreshLaws.{refused_18, refused_2, accepted, moved, reported, reported_refused}
use Rattle.held_liveness.proofs.held_liveness.Goals as goal
use Rattle.held_liveness.proofs.held_liveness.Goals.{After-is_none}

module _ (c : After-is_none) where
  abbrev lent : Lent
  lent = lent_of c.args.state.now c.args.frontiers.now c.args.places.now c.args.connections.now

  abbrev plot : Plot
  plot = plot_in lent

  abbrev numbers : ℕ
  numbers = (used_in lent.state - freed_count_in lent.state) * component_width

  module _ (was : c.is_none.result ≡ false) where
    valid : lent_valid lent ≡ true
    valid = sym c.standing.ensures.left ∙ (c.is_none.ensures ∙ ap not was)

    parts : Passes lent
    parts = passes lent valid

    count : numbers ≡ present plot.places * component_width
    count = ap (λ (k : ℕ). k * component_width) (sym (count_is lent valid).0)

    front : (take numbers c.standing.new.blocks ≡ blocks_in lent) × (numbers ≤ length c.standing.new.blocks)
    front = front_stands lent valid numbers count c.standing.new.blocks c.standing.result c.standing.ensures (c.is_none.ensures ∙ ap not was)

pub returns-then-is_none : goal.returns-then-is_none
returns-then-is_none c =
    let p = (goal.at.returns-then-is_none c).After-is_none in
    let left : lent_valid (lent p) ≡ false = sym p.standing.ensures.left ∙ (p.is_none.ensures ∙ ap not c.if-is_none.true) in
    let a = c.args in
    rw c.refusal.ensures (reported_refused (lent p) a.components.now a.regions.now a.sources.now a.inputs.now a.stack.now _ (refused_18 (lent p) _ left))

pub bounds-state-1 : goal.bounds-state-1
bounds-state-1 c = omega (arith, (parts (goal.at.bounds-state-1 c).After-is_none c.if-is_none.false).room.state_room)

pub bounds-state-2 : goal.bounds-state-2
bounds-state-2 c = omega (arith, (parts (goal.at.bounds-state-2 c).After-is_none c.if-is_none.false).room.state_room)

pub bounds-state-3 : goal.bounds-state-3
bounds-state-3 c = omega (arith, (parts (goal.at.bounds-state-3 c).After-is_none c.if-is_none.false).room.state_room)

pub bounds-state-4 : goal.bounds-state-4
bounds-state-4 c = omega (arith, (parts (goal.at.bounds-state-4 c).After-is_none c.if-is_none.false).room.state_room)

pub bounds-state-0 : goal.bounds-state-0
bounds-state-0 c = omega (arith, (parts (goal.at.bounds-state-0 c).After-is_none c.if-is_none.false).room.state_room)

pub overflow_cast-state : goal.overflow_cast-state
overflow_cast-state c =
    let p = (goal.at.overflow_cast-state c).After-is_none in
    omega (arith, rules_few (lent p) (valid p c.if-is_none.false))

pub overflow_sub-count : goal.overflow_sub-count
overflow_sub-count c =
    let p = (goal.at.overflow_sub-count c).After-is_none in
    omega (arith, (count_is (lent p) (valid p c.if-is_none.false)).1)

pub overflow_mul-ports : goal.overflow_mul-ports
overflow_mul-ports c = omega (arith, (parts (goal.at.overflow_mul-ports c).After-is_none c.if-is_none.false).held_few)

pub overflow_mul-given : goal.overflow_mul-given
overflow_mul-given c = omega (arith, (parts (goal.at.overflow_mul-given c).After-is_none c.if-is_none.false).frontiers_few)

pub returns-then-not-has_room : goal.returns-then-not-has_room
returns-then-not-has_room c =
    let p = (goal.at.returns-then-not-has_room c).After-is_none in
    let a = c.args in
    let known = valid p c.if-is_none.false in
    let short = ap (λ (n : ℕ). held_room n (length a.components.now) (length a.regions.now) (length a.sources.now) (length a.inputs.now) (length a.stack.now)) (count_is (lent p) known).0
    ∙ (sym c.has_room.ensures ∙ c.if-not-has_room.true) in
    rw c.refusal-then-not-has_room.ensures (reported_refused (lent p) a.components.now a.regions.now a.sources.now a.inputs.now a.stack.now _ (refused_2 (lent p) _ known short))

pub slice_bounds-blocks-end : goal.slice_bounds-blocks-end
slice_bounds-blocks-end c = (front (goal.at.slice_bounds-blocks-end c).After-is_none c.if-is_none.false).1

pub slice_bounds-lay_sorted-end : goal.slice_bounds-lay_sorted-end
slice_bounds-lay_sorted-end c =
    let p = (goal.at.slice_bounds-lay_sorted-end c).After-is_none in
    sym (length-take-le (numbers p) p.standing.new.blocks (front p c.if-is_none.false).1)

pub lay_sorted-requires-clause-rows : goal.lay_sorted-requires-clause-rows
lay_sorted-requires-clause-rows c =
    let p = (goal.at.lay_sorted-requires-clause-rows c).After-is_none in
    subst (λ (t : List ℤ). Fit t) (sym (front p c.if-is_none.false).0) (blocks_fit (plot p) (sound_of (lent p) (valid p c.if-is_none.false)))

pub slice_bounds-analyze_signal_liveness-end-3 : goal.slice_bounds-analyze_signal_liveness-end-3
slice_bounds-analyze_signal_liveness-end-3 c =
    let p = (goal.at.slice_bounds-analyze_signal_liveness-end-3 c).After-is_none in
    let q = parts p c.if-is_none.false in
    sym (length-take-le (held_in (lent p).state * port_width) (lent p).connections (omega (arith, q.room.connections_room, q.held_few)))

pub slice_bounds-analyze_signal_liveness-end-4 : goal.slice_bounds-analyze_signal_liveness-end-4
slice_bounds-analyze_signal_liveness-end-4 c =
    let p = (goal.at.slice_bounds-analyze_signal_liveness-end-4 c).After-is_none in
    let q = parts p c.if-is_none.false in
    sym (length-take-le (frontier_count_in (lent p).state * frontier_width) (lent p).frontiers (omega (arith, q.room.frontiers_room, q.frontiers_few)))

pub returns : goal.returns
returns c =
    let p = (goal.at.returns c).After-is_none in
    let was = c.if-is_none.false in
    let known = valid p was in
    let a = c.args in
    let enough = ap (λ (n : ℕ). held_room n (length a.components.now) (length a.regions.now) (length a.sources.now) (length a.inputs.now) (length a.stack.now)) (count_is (lent p) known).0
    ∙ (sym c.has_room.ensures ∙ c.if-not-has_room.false) in
    let fits : FitsSigned w64 (pos (counter (lent p).state 0)) = omega (arith, rules_few (lent p) known) in
    let laid = laid_is (lent p) known (numbers p) (count p was) _ a.components.now c.lay_sorted.new.out (front p was).0 c.lay_sorted.ensures in
    let cs = front_is (lent p) known (numbers p) (count p was) a.components.now c.lay_sorted.new.out laid in
    reported (lent p) a.components.now a.regions.now a.sources.now a.inputs.now a.stack.now (accepted (lent p) _ known enough)
    c.lay_sorted.new.out c.analyze_signal_liveness.new.regions c.analyze_signal_liveness.new.sources c.analyze_signal_liveness.new.inputs c.analyze_signal_liveness.new.stack
    c.analyze_signal_liveness.result laid
    (moved (ap rules_of (to_z-of_z {w = w64} fits) ∙ rules_shown (lent p)) cs (ports_shown (lent p)) (frontiers_shown (lent p)) c.analyze_signal_liveness.ensures)
