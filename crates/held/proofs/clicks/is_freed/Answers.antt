-- Answers for the goals that the search leaves.
use mathlib.Core.Path.{◌≡◌, sym, subst}
use mathlib.Core.Bool.{true}
use Prim.Native.Nat.{ℕ}
use Rattle.tables.specs.Order.{member}
use Rattle.held.specs.Lent.{freed_places_in}
use Rattle.held.proofs.Loops.{freed_start, freed_other, freed_none}
use Rattle.held.proofs.EntryLaws.{member_freed}
use Rattle.held.proofs.clicks.is_freed.Goals as goal

pub loop-i-init : goal.loop-i-init
loop-i-init c = freed_start c.args.state.now c.requires c.args.k

pub returns-then-state-i : goal.returns-then-state-i
returns-then-state-i c =
    sym (subst (λ (k : ℕ). member k (freed_places_in c.args.state.now) ≡ true) c.if-state-i.true
    (member_freed c.args.state.now c.requires c.loop-i.i c.loop-i-test.true))

pub loop-i-preserved : goal.loop-i-preserved
loop-i-preserved c = freed_other c.args.state.now c.requires c.args.k c.loop-i.i c.loop-i-test.true c.if-state-i.false c.loop-i.invariant

pub returns : goal.returns
returns c = freed_none c.args.state.now c.requires c.args.k c.loop-i.i c.loop-i-test.false c.loop-i.invariant
