-- The answer of a search as the answer to the question.
--     asked_searched       by the arrays in which the search was made
--     asked_found          by what was found, with 8 where nothing was
-- Assumes nothing.
use Rattle.std.specs.Prelude.{Option, Some, None, Result, Ok}
use Rattle.lists.specs.declared.Fault.{Fault}
use Rattle.lists.specs.declared.Refusal.{Refusal}
use mathlib.Core.Path.{◌≡◌, refl, sym, ap, ap₂, subst, ◌∙◌}
use mathlib.Core.Bool.{Bool}
use mathlib.Core.List.{List}
use Prim.Native.Nat.{ℕ}
use lib.ListN.{length, replicate}
use lib.IntN.{ℤ}
use Rattle.lists.specs.Records.{component_count}
use Rattle.lists.specs.First.{is_found}
use Rattle.checks.specs.Refusals.{refuse, too_short}
use Rattle.regions.specs.Graph.{Edges, marked, flip}
use Rattle.regions.proofs.Fill.{zeros_cleared}
use Rattle.signals.specs.Signals.{signals}
use Rattle.liveness.proofs.Answers.{set_same}
use Rattle.graph.specs.Rows.{edges_of, Rows}
use Rattle.graph.proofs.Rows.{edges_are}
use Rattle.inputs.specs.Query.{row_place}
use Rattle.driven.specs.Seek.{Search, sought}
use Rattle.inputs.specs.Port.{drive_sources, immediate_sources}
use Rattle.driven.specs.Driven.{upstream_from, AskedBy}
use Rattle.driven.specs.Scene.{Upstream}
use Rattle.driven.specs.declared.DrivenInput.{DrivenInput}

-- ---- the arrays of a search

module _ (cs ps fs : List ℤ) {ends back : List ℕ} (r : Rows (component_count cs) (flip (signals cs ps)) ends back) where
  module _ (p port : ℕ) {goals starts : List Bool} (goals_are : goals ≡ drive_sources cs fs) (starts_are : starts ≡ immediate_sources cs ps p port) where
    search_is : sought (length ends) (edges_of ends back) goals starts ≡ upstream_from cs ps fs p port
    unfolding upstream_from
    search_is =
        ap (λ (k : ℕ). sought k (edges_of ends back) goals starts) r.rows.nodes
        ∙ ap (λ (g : Edges). sought (component_count cs) g goals starts) (edges_are r.rows)
        ∙ ap₂ (sought (component_count cs) (flip (signals cs ps))) goals_are starts_are

    pub asked_searched : {stack stack' : List ℕ} {s : DrivenInput} → length stack' ≡ length stack
        → Upstream (length ends) (edges_of ends back) goals starts stack' s → AskedBy (Ok tt) cs ps fs (Some p) port stack stack' (Ok s)
    asked_searched {stack' = stack'} long u = record {
      answer = refl;
      found = record {
        driven_is = u.driven_is ∙ ap (λ (t : Search). t.stopped) search_is;
        met_set = set_same r.rows.nodes (λ k. ap (λ (t : Search). marked t.met k) search_is) u.met_set;
      };
      stack_left = zeros_cleared stack' u.stack_zeros ∙ ap (λ (k : ℕ). replicate k 0) long;
    }

-- ---- by what was found

pub asked_found : (rules : ℕ) {cs ps fs : List ℤ} {port : ℕ} {stack stack' : List ℕ} {r : Result DrivenInput Refusal} (id : ℕ) {found : Option ℕ} → row_place rules cs id port ≡ found
    → AskedBy (refuse Fault.NoVerdictRow None (too_short (is_found found))) cs ps fs found port stack stack' r
    → AskedBy (refuse Fault.NoVerdictRow None (too_short (is_found (row_place rules cs id port)))) cs ps fs (row_place rules cs id port) port stack stack' r
asked_found rules {cs} {ps} {fs} {port} {stack} {stack'} {r} id e a =
    subst (λ (f : Option ℕ). AskedBy (refuse Fault.NoVerdictRow None (too_short (is_found f))) cs ps fs f port stack stack' r) (sym e) a
