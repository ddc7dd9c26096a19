-- The rows of the signal edges: the connections by their narrow ends are the graph of `signals`, and so is the graph that the rows which
-- `Plot::rows` builds stand for (`edges_signals`).
-- Assumes nothing.
use mathlib.Core.Path.{◌≡◌, ap, ◌∙◌, subst}
use mathlib.Core.Bool.{Bool, true, false, cond, ◌&&◌}
use mathlib.Core.List.{List}
use mathlib.Core.Logic.{inr}
use Prim.Native.Nat.{ℕ, ◌≤◌, ◌<◌}
use native.Mathlib.Omega.{arith}
use lib.Dec.{eqb}
use lib.ListN.{length, get_or}
use lib.IntN.{ℤ}
use Rattle.lists.specs.Limits.{component_limit}
use Rattle.lists.specs.Records.{component_count, port_count}
use Rattle.lists.specs.First.{some}
use Rattle.lists.specs.Ends.{SettledEnds}
use Rattle.regions.specs.Graph.{Edges, flip}
use Rattle.signals.specs.Signals.{is_signal, source_member, sink_member, signals}
use Rattle.signals.proofs.Ends.{EndsWithin}
use Rattle.signals.proofs.Graph.{source_at, sink_at}
use Rattle.graph.specs.Rows.{Rows, edges_of}
use Rattle.graph.specs.Linked.{linked}
use Rattle.graph.proofs.Edges.{Ended, linked_is}
use Rattle.graph.proofs.Rows.{edges_are}
use Rattle.liveness.specs.Scene.{NarrowEnds}

module _ {cs ps : List ℤ} {sources sinks froms tos : List ℕ} (few : component_count cs ≤ component_limit) (s : SettledEnds cs ps sources sinks)
    (within : EndsWithin cs ps) (e : NarrowEnds ps sources sinks froms tos) (long : length froms ≡ port_count ps) where
  -- what a sink is, by the test
  sink_where : (k : ℕ) → k < port_count ps → (t : Bool) → is_signal ps k ≡ t → get_or tos k 0 ≡ cond t (get_or sinks k 0) component_limit
  sink_where k h t q = e.sinks_are k h ∙ ap (λ (b : Bool). cond b (get_or sinks k 0) component_limit) q

  narrow_ended : Ended (component_count cs) (is_signal ps) (source_member cs ps) (sink_member cs ps) froms tos
  narrow_ended =
      record {
        source = λ k h t.
            let lt : k < port_count ps = omega arith in
            (e.sources_are k lt ∙ source_at few s.source_members s.sink_members k lt, (within k lt t).0);
        sink = λ k h t.
            let lt : k < port_count ps = omega arith in
            (sink_where k lt true t ∙ sink_at few s.source_members s.sink_members k lt, (within k lt t).1);
        none = λ k h t. let lt : k < port_count ps = omega arith in let is = sink_where k lt false t in inr (omega arith);
      }

  signals_linked : linked (component_count cs) froms tos ≡ signals cs ps
  unfolding signals
  signals_linked =
      linked_is froms tos narrow_ended
      ∙ ap (λ (m : ℕ). made m) long
    where
      made : ℕ → Edges
      made m a b = some (λ k. is_signal ps k && (eqb (source_member cs ps k) a && eqb (sink_member cs ps k) b)) m

  pub forward_rows : {n : ℕ} {ends next : List ℕ} → n ≡ component_count cs → Rows n (linked n froms tos) ends next → Rows (component_count cs) (signals cs ps) ends next
  forward_rows {ends = ends} {next} nodes r =
      subst (λ g. Rows (component_count cs) g ends next) signals_linked (subst (λ (k : ℕ). Rows k (linked k froms tos) ends next) nodes r)

  pub backward_rows : {n : ℕ} {ends back : List ℕ} → n ≡ component_count cs → Rows n (flip (linked n froms tos)) ends back
      → Rows (component_count cs) (flip (signals cs ps)) ends back
  backward_rows {ends = ends} {back} nodes r =
      subst (λ g. Rows (component_count cs) (flip g) ends back) signals_linked (subst (λ (k : ℕ). Rows k (flip (linked k froms tos)) ends back) nodes r)

  pub edges_signals : {n : ℕ} {ends next : List ℕ} → n ≡ component_count cs → Rows n (linked n froms tos) ends next → edges_of ends next ≡ signals cs ps
  edges_signals nodes r = let f = forward_rows nodes r in edges_are f.rows
