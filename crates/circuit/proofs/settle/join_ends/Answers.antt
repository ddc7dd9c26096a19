-- `circuit::settle::join_ends` meets its contract: where the net is one already, so is the fragment.
-- Assumes nothing.
use mathlib.Core.Path.{◌≡◌, sym, ap, ◌∙◌}
use lib.Dec.{leb}
use Rattle.circuit.specs.Forest.{Forest, root}
use Rattle.circuit.specs.Topology.{fragment_kinds}
use Rattle.circuit.proofs.Settling.{joined_one, skip_nets, skip_fragments, join_net, leave_nets}
use Rattle.circuit.proofs.settle.join_ends.Goals as goal
use Rattle.circuit.proofs.settle.join_ends.Goals.{After-root-r, then-kind-le-NET_KINDS, else-kind-le-NET_KINDS}

module _ (c : After-root-r) where
  kept : c.root-r.new.self ≡ c.args.nets.now
  kept = c.root-r.ensures.kept ∙ c.root-l.ensures.kept

  sink_root : c.root-r.result ≡ root c.args.nets.now c.sink_or_source-other.result
  sink_root = c.root-r.ensures.root ∙ ap (λ (f : Forest). root f c.sink_or_source-other.result) c.root-l.ensures.kept

pub returns-else-l-r-clause-nets : goal.returns-else-l-r-clause-nets
returns-else-l-r-clause-nets c =
    let at = (goal.at.returns-else-l-r-clause-nets c).After-root-r in
    kept at
    ∙ skip_nets c.args.nets.now c.args.kind c.args.source c.args.sink _ c.sink_or_source-other.ensures (sym c.root-l.ensures.root ∙ c.if-l-r.false ∙ sink_root at)

pub returns-else-l-r-clause-fragments : goal.returns-else-l-r-clause-fragments
returns-else-l-r-clause-fragments c =
    let at = (goal.at.returns-else-l-r-clause-fragments c).After-root-r in
    skip_fragments c.args.nets.now c.args.fragments.now c.requires.shared c.args.kind c.args.source c.args.sink _ c.requires.places.0 c.requires.places.1 c.sink_or_source-other.ensures
    (sym c.root-l.ensures.root ∙ c.if-l-r.false ∙ sink_root at)

pub returns-after-kind-le-NET_KINDS-clause-nets : goal.returns-after-kind-le-NET_KINDS-clause-nets
returns-after-kind-le-NET_KINDS-clause-nets c =
    let at = (goal.at.returns-after-kind-le-NET_KINDS-clause-nets c).After-root-r in
    elim c.if-kind-le-NET_KINDS.branch [
      | then-kind-le-NET_KINDS w ↦ w.nets-is ∙ w.union_roots.ensures
          ∙ rw (kept at, sink_root at, c.root-l.ensures.root) (join_net c.args.nets.now c.args.kind c.args.source c.args.sink _ c.sink_or_source-other.ensures w.if-kind-le-NET_KINDS.true)
      | else-kind-le-NET_KINDS w ↦ w.nets-is ∙ kept at ∙ leave_nets c.args.nets.now c.args.kind c.args.source c.args.sink w.if-kind-le-NET_KINDS.false
    ]

pub returns-after-kind-le-NET_KINDS-clause-fragments : goal.returns-after-kind-le-NET_KINDS-clause-fragments
returns-after-kind-le-NET_KINDS-clause-fragments c =
    c.union.ensures ∙ joined_one (leb c.args.kind fragment_kinds) c.args.fragments.now c.args.source c.args.sink _ c.sink_or_source-other.ensures
