-- Answers for the goals that the search leaves.
use mathlib.Core.Path.{refl, sym, ap, ◌∙◌}
use Prim.Native.Nat.{ℕ}
use native.Mathlib.Omega.{arith}
use lib.ListN.{replicate}
use Rattle.trail.proofs.Queued.{tail_room}
use Rattle.trail.proofs.Spread.{noted_lengths, seed_none, seed_next, seed_more}
use Rattle.trail.proofs.levels.seed.Goals as goal
use Rattle.trail.proofs.levels.seed.Goals.{then-is_feeder, else-is_feeder}

pub loop-x-init : goal.loop-x-init
loop-x-init c =
    let long = c.fill.auto.self in
    (refl, seed_none (c.fill.ensures.after (λ y e. e) ∙ ap (λ (k : ℕ). replicate k 0) (sym long)) (long ∙ c.requires.0) c.requires.1)

pub note-tail-requires : goal.note-tail-requires
note-tail-requires c =
    let s = c.loop-x.invariant.1 in
    let inside = c.loop-x-test.true in
    (omega (arith, inside, s.holds.levels_long), λ new. tail_room s.holds c.loop-x.x 1 inside new (omega arith))

pub loop-x-preserved : goal.loop-x-preserved
loop-x-preserved c =
    let (same, s) = c.loop-x.invariant in
    elim c.if-is_feeder.branch [
      | then-is_feeder w ↦
          rw (w.levels-is, w.queue-is, w.tail-is)
          ((noted_lengths w.note-tail.ensures).1 ∙ same, seed_more s c.loop-x-test.true w.if-is_feeder.true w.note-tail.ensures)
      | else-is_feeder w ↦ rw (w.levels-is, w.queue-is, w.tail-is) (same, seed_next s w.if-is_feeder.false)
    ]
