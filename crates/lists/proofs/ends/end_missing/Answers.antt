-- `lists::ends::end_missing` meets its contract: each settled end is tested.
-- Assumes nothing.
use mathlib.Core.Path.{◌≡◌, sym, ap, ◌∙◌}
use mathlib.Core.Bool.{Bool, not, ◌&&◌}
use Prim.Native.Nat.{ℕ}
use lib.Dec.{eqb}
use Rattle.lists.specs.Ids.{has_component, support_transfer, smaller_ids}
use Rattle.lists.proofs.EndLaws.{source_at, source_of, sink_of}
use Rattle.lists.proofs.ends.end_missing.Goals as goal
use Rattle.lists.proofs.ends.end_missing.Goals.{Start}

-- the test, by what is tested
test_by : {transfer transfer' : ℕ} {source source' sink sink' : Bool} → transfer ≡ transfer' → source ≡ source' → sink ≡ sink'
    → (not (eqb transfer support_transfer) && not (source && sink)) ≡ (not (eqb transfer' support_transfer) && not (source' && sink'))
test_by e f g = rw (e, f, g)

pub returns : goal.returns
returns c cs t e =
    let here = c.requires.0 in
    let source-id = c.source.ensures.0 in
    let sink-id = c.sink.ensures.0 in
    test_by
    c.transfer-transfer.ensures
    (c.stands_at-source.ensures cs t (sym (source_of c.args.ends.now c.args.k) ∙ source_at e c.args.k here ∙ ap (smaller_ids cs) (sym source-id)) ∙ ap (has_component cs) source-id)
    (c.stands_at-sink.ensures cs t (sym (sink_of c.args.ends.now c.args.k) ∙ e.sink_members.at c.args.k here ∙ ap (smaller_ids cs) (sym sink-id)) ∙ ap (has_component cs) sink-id)
