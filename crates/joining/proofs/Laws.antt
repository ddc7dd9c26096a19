-- Laws of the join (R-9).
--     join_unique                     there is one join
--     conflict_final                  where 14 applies, there is no valid join
--     join_accepted                   what is known of a join that is not refused
--     join_swap                       which table comes first matters to the frontiers alone
--     join_self                       a plot with itself: its components and connections, its frontiers twice
--     join_none, none_join            with the empty plot, on either side
--     self_unopposed, none_unopposed  14 does not apply to these
--     no_plot_valid                   the empty plot is valid
-- Assumes nothing.
use Prim.Native.Nat.{ℕ}
use mathlib.Core.Path.{◌≡◌, refl, sym, ap, ◌∙◌}
use mathlib.Core.List.{List, [], ◌++◌, append-nil}
use lib.IntN.{ℤ}
use Rattle.lists.specs.Limits.{component_width, connection_width}
use Rattle.lists.specs.First.{first_from}
use Rattle.lists.specs.Ranges.{first_out_of_range}
use Rattle.lists.specs.Order.{first_not_ascending, component_order, connection_order}
use Rattle.lists.specs.Ids.{first_repeated}
use Rattle.checks.specs.Refusals.{not_whole, scene_lists, grouping_lists}
use Rattle.lists.specs.Rules.{known_rules}
use Rattle.lists.specs.declared.Fault.{Fault}
use Rattle.lists.specs.declared.Section.{Section}
use Rattle.std.specs.Prelude.{Some, None, Ok}
use mathlib.Core.Bool.{true}
use native.Mathlib.Omega.{arith}
use Rattle.joining.specs.Conflict.{first_conflict}
use Rattle.checks.proofs.Chain.{both_accept}
use Rattle.checks.proofs.Accepts.{refuse_none}
use Rattle.joining.specs.Plot.{Plot, Valid, refusal_of, JoinOf, joined, conflict_of, join_refusal}
use Rattle.joining.specs.Shares.{Kept}
use Rattle.joining.proofs.Kept.{join_keeps}
use Rattle.joining.proofs.Unions.{union_unique, union_swap, merged_self, merged_none, none_merged}
use Rattle.joining.proofs.Agrees.{conflict_repeats, conflict_self, conflict_none, none_conflict}
use Rattle.joining.proofs.Accepts.{scene, joined_is, component_fields, connection_fields}

abbrev plot : List ℤ → List ℤ → List ℤ → Plot
plot cs ps fs = record { components = cs; connections = ps; frontiers = fs }

same_plot : (u v : Plot) → u.components ≡ v.components → u.connections ≡ v.connections → u.frontiers ≡ v.frontiers → u ≡ v
same_plot u v c l f =
    ap (λ (x : List ℤ). plot x u.connections u.frontiers) c
    ∙ ap (λ (x : List ℤ). plot v.components x u.frontiers) l
    ∙ ap (λ (x : List ℤ). plot v.components v.connections x) f

pub join_unique : {p q u v : Plot} → JoinOf p q u → JoinOf p q v → u ≡ v
join_unique {p} {q} {u} {v} j k =
    same_plot u v
    (union_unique component_order component_width (omega arith) component_fields j.components k.components)
    (union_unique connection_order connection_width (omega arith) connection_fields j.connections k.connections)
    (j.frontiers ∙ sym k.frontiers)

-- the only plot that is the join of two valid ones
pub join_is_joined : {rules : ℕ} {p q u : Plot} → Valid rules p → Valid rules q → first_conflict p.components q.components ≡ None → JoinOf p q u → u ≡ joined p q
join_is_joined {p} {q} {u} vp vq none j = join_unique j (joined_is p q vp vq none)

pub join_swap : {p q u : Plot} → JoinOf p q u → JoinOf q p (record { components = u.components; connections = u.connections; frontiers = q.frontiers ++ p.frontiers })
join_swap j = record {
  components = union_swap component_order component_width (omega arith) component_fields j.components;
  connections = union_swap connection_order connection_width (omega arith) connection_fields j.connections;
  frontiers = refl;
}

-- ---- 14

-- where 14 applies, the two have no valid join
pub conflict_final : {rules : ℕ} {p q u : Plot} {k : ℕ} → first_conflict p.components q.components ≡ Some k → JoinOf p q u → Valid rules u → ⊥
conflict_final {p} {q} {u} {k} e j v =
    conflict_repeats p.components q.components u.components k e (scene v).scene.once j.components.of_first j.components.of_second

-- ---- an accepted join

-- what is known of the join of two valid plots that is not refused
pub record Joins (rules : ℕ) (p q : Plot) : Type 0 where
  pub unopposed : first_conflict p.components q.components ≡ None
  pub is : JoinOf p q (joined p q)
  pub valid : Valid rules (joined p q)
  pub first_kept : Kept p (joined p q)
  pub second_kept : Kept q (joined p q)

pub join_accepted : (rules : ℕ) (p q : Plot) → Valid rules p → Valid rules q → join_refusal rules p q ≡ Ok tt → Joins rules p q
join_accepted rules p q vp vq e =
    let parts = both_accept (conflict_of p q) (refusal_of rules (joined p q)) e in
    let none = refuse_none Fault.UnequalFields (Some Section.Components) (first_conflict p.components q.components) parts.0 in
    let j = joined_is p q vp vq none in
    let v : Valid rules (joined p q) = record { accepted = parts.1 } in
    let kept = join_keeps p q (joined p q) j vp vq v in
    record { unopposed = none; is = j; valid = v; first_kept = kept.0; second_kept = kept.1 }

-- ---- with itself

module _ {rules : ℕ} (p : Plot) (v : Valid rules p) where
  pub join_self : joined p p ≡ record { components = p.components; connections = p.connections; frontiers = p.frontiers ++ p.frontiers }
  join_self =
      let l = (scene v).scene.lengths in
      same_plot (joined p p) (record { components = p.components; connections = p.connections; frontiers = p.frontiers ++ p.frontiers })
      (merged_self component_order component_width p.components l.components_whole)
      (merged_self connection_order connection_width p.connections l.connections_whole)
      refl

  pub self_unopposed : first_conflict p.components p.components ≡ None
  self_unopposed = conflict_self p.components (scene v).scene.once

-- ---- with the empty plot

abbrev pub no_plot : Plot
no_plot = record { components = []; connections = []; frontiers = [] }

pub no_plot_valid : (rules : ℕ) → known_rules rules ≡ true → Valid rules no_plot
unfolding grouping_lists scene_lists not_whole first_out_of_range first_not_ascending first_repeated first_from
no_plot_valid rules known = record { accepted = rw known refl }

module _ {rules : ℕ} (p : Plot) (v : Valid rules p) where
  pub join_none : joined p no_plot ≡ p
  join_none =
      let l = (scene v).scene.lengths in
      same_plot (joined p no_plot) p
      (merged_none component_order component_width p.components l.components_whole)
      (merged_none connection_order connection_width p.connections l.connections_whole)
      (append-nil p.frontiers)

  pub none_join : joined no_plot p ≡ p
  none_join =
      let l = (scene v).scene.lengths in
      same_plot (joined no_plot p) p
      (none_merged component_order component_width p.components l.components_whole)
      (none_merged connection_order connection_width p.connections l.connections_whole)
      refl

  pub none_unopposed : (first_conflict p.components [] ≡ None) × (first_conflict [] p.components ≡ None)
  none_unopposed = (conflict_none p.components, none_conflict p.components)
