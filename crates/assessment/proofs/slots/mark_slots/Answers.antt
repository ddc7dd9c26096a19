-- Answers for the goals that the search leaves.
use mathlib.Core.Path.{◌≡◌, sym, ap, ◌∙◌}
use lib.ListN.{get_or, length-set}
use Rattle.lists.specs.Ends.{sources_of, sinks_of}
use Rattle.lists.proofs.EndLaws.{source_of, sink_of}
use Rattle.regions.specs.Graph.{marked}
use Rattle.assessment.specs.Places.{slot_at}
use Rattle.assessment.proofs.Places.{slots_none, slots_same, slots_more}
use Rattle.assessment.proofs.slots.mark_slots.Goals as goal
use Rattle.assessment.proofs.slots.mark_slots.Goals.{in-Some, in_default}

pub loop-k-init : goal.loop-k-init
loop-k-init c = rw c.requires.none_marked (slots_none _ _ _ _ _)

pub loop-k-preserved : goal.loop-k-preserved
loop-k-preserved c =
    let k = c.loop-k.k in
    let flags = c.loop-k.invariant in
    let ends = c.args.ends.now in
    let ps = c.args.ports.numbers.now in
    let slot : c.slot_at.result ≡ slot_at ps k (get_or (sinks_of ends) k 0) = c.slot_at.ensures.slot ∙ ap (slot_at ps k) (sym (sink_of ends k)) in
    elim c.match-slot_at.branch [
      | in-Some w ↦ rw w.slots-is
          (slots_more ps (sources_of ends) (sinks_of ends) _ _ k flags (rw (w.slots-is, length-set) at c.match-slot_at.array_long) w.in-Some.j (sym w.in-Some.is ∙ slot)
          (c.slot_at.ensures.below w.in-Some.j w.in-Some.is) _ _ (w.mark_at.ensures ∙ ap (marked c.args.drive.now) (sym (source_of ends k)))
          (w.mark_at-in-Some.ensures ∙ ap (marked c.args.potential.now) (sym (source_of ends k))))
      | in_default w ↦ rw w.slots-is
          (slots_same ps (sources_of ends) (sinks_of ends) _ _ k flags (rw w.slots-is at c.match-slot_at.array_long) (sym slot ∙ w.in_default.is))
    ]
