-- What the answers of the entries say.
--     grouping_answered     counts answered are those of an accepted scene
--     accepted_checks       an answer that is no refusal is of an accepted scene
--     driven_answered       its set of driven members
--     rows_answered         its verdict rows
-- Assumes nothing.
use Rattle.std.specs.Prelude.{⊤, Result, Ok, Err}
use mathlib.Core.Path.{◌≡◌, refl, sym, ap, subst, ◌∙◌}
use mathlib.Core.Bool.{false, ◌&&◌}
use mathlib.Core.List.{List, ◌++◌}
use mathlib.Core.Logic.{⊎_elim}
use Prim.Native.Nat.{ℕ, ◌*◌, ◌≤◌, ◌<◌}
use native.Mathlib.Omega.{arith}
use lib.Dec.{ltb}
use lib.ListN.{length, drop, take, get_or-eq_default}
use lib.Seq.{take-append_seam}
use lib.IntN.{ℤ}
use borrow.Author.Tests.{lt-ltb, le-ltb}
use Rattle.tables.specs.Laws.{order?}
use Rattle.lists.specs.Records.{component_count}
use Rattle.lists.specs.Ids.{member_of}
use Rattle.lists.specs.declared.Refusal.{Refusal}
use Rattle.checks.specs.Refusals.{liveness_refusal}
use Rattle.regions.specs.Graph.{marked}
use Rattle.regions.proofs.Theorems.{reach_laws}
use Rattle.signals.specs.Signals.{signals}
use Rattle.signals.specs.Sources.{is_drive}
use Rattle.signals.specs.Drive.{members_where, drive}
use Rattle.assessment.specs.Verdicts.{input_rows}
use Rattle.circuit.specs.Topology.{answer_of}
use Rattle.circuit.specs.declared.Counts.{Counts}
use Rattle.liveness.specs.Entry.{AnalyzedBy, Analyzed}
use Rattle.liveness.specs.Scene.{Scene}
use Rattle.liveness.specs.declared.Analysis.{Analysis}
use Rattle.liveness.proofs.Demands.{signals_within}
use Rattle.one_wire.specs.Ports.{is_driven, answered_driven, answered_rows}

-- ---- the grouping entry

pub record CountsAre (checks : Result ⊤ Refusal) (nets fragments : ℕ) (r : Counts) : Type 0 where
  pub accepted : checks ≡ Ok tt
  pub nets_are : r.nets ≡ nets
  pub fragments_are : r.fragments ≡ fragments

pub grouping_answered : (checks : Result ⊤ Refusal) (nets fragments : ℕ) (r : Counts) → Ok r ≡ answer_of checks nets fragments → CountsAre checks nets fragments r
grouping_answered (Ok tt) nets fragments r e =
    let is : r ≡ record { nets = nets; fragments = fragments } = cc in
    record { accepted = refl; nets_are = ap (λ (c : Counts). c.nets) is; fragments_are = ap (λ (c : Counts). c.fragments) is }
grouping_answered (Err refusal) nets fragments r e = absurd (let z : ◌≡◌ {A = ℕ} 0 1 = cc in omega arith)

-- ---- the liveness entry

module _ {rules : ℕ} {cs ps fs : List ℤ} {regions regions₁ sources sources₁ inputs inputs₁ stack stack₁ : List ℕ} {r : Analysis}
    (a : Analyzed rules cs ps fs regions regions₁ sources sources₁ inputs inputs₁ stack stack₁ (Ok r)) where
  pub accepted_checks : liveness_refusal rules cs ps fs (length regions) (length sources) (length inputs) (length stack) ≡ Ok tt
  accepted_checks = sym a.by.answer

  by : AnalyzedBy (Ok tt) rules cs ps fs regions regions₁ sources sources₁ inputs inputs₁ stack stack₁ (Ok r)
  by = subst (λ (checks : Result ⊤ Refusal). AnalyzedBy checks rules cs ps fs regions regions₁ sources sources₁ inputs inputs₁ stack stack₁ (Ok r)) accepted_checks a.by

  pub rows_answered : answered_rows r inputs₁ ≡ input_rows rules cs ps fs
  rows_answered =
      ap (λ (l : List ℕ). take (r.inputs * 3) l) by.inputs_left
      ∙ ap (λ (k : ℕ). take k (input_rows rules cs ps fs ++ drop (length (input_rows rules cs ps fs)) inputs)) by.analysis.input_count
      ∙ take-append_seam (input_rows rules cs ps fs) (drop (length (input_rows rules cs ps fs)) inputs)

  module _ (scene : Scene cs ps) where
    drive_long : length (drive cs ps fs) ≡ component_count cs
    unfolding drive
    drive_long = (reach_laws (component_count cs) (signals cs ps) (signals_within cs ps scene) (members_where cs (is_drive cs fs))).long

    in_drive : (k : ℕ) → (ltb k (component_count cs) && marked (drive cs ps fs) k) ≡ marked (drive cs ps fs) k
    in_drive k =
        ⊎_elim
        (λ (past : component_count cs ≤ k). rw (le-ltb k (component_count cs) past) (sym (get_or-eq_default (drive cs ps fs) false (omega (arith, drive_long)))))
        (λ (h : k < component_count cs). rw (lt-ltb k (component_count cs) h))
        (order? (component_count cs) k)

    pub driven_answered : answered_driven cs r ≡ is_driven cs ps fs
    driven_answered = λ d p. step (member_of cs p) d
      where
        step : (k : ℕ) → Rattle.sets.specs.Members.member_of r.drive.words k ≡ marked (drive cs ps fs) k
        step k = by.analysis.drive_set.member k ∙ in_drive k
