-- Sets and rows of an answer are those of the definitions.
--     set_where, set_all, set_same, ..  the set of the flags of a test; of a list of flags; of an equal test
--     empty_set, none_set               beside a refusal; of a test that never holds
--     tabulated_same                    the values of two functions that agree
--     analyzed_stack                    the same of a stack of the same length
--     numbers_are                       the numbers of an answer
--     scene_of_lem                          an accepted scene
--     analyzed_accepted, ..-refused     the entry's answer, by what the checks say
-- Assumes nothing.
use Rattle.std.specs.Prelude.{⊤, Result, Ok, Err, IfOk}
use mathlib.Core.Path.{◌≡◌, refl, sym, ap, ◌∙◌}
use mathlib.Core.Bool.{Bool, true, false, ◌&&◌, ◌||◌}
use mathlib.Core.List.{List, [], ◌∷◌}
use mathlib.Core.Logic.{⊎_elim}
use Prim.Native.Nat.{ℕ, zero, suc, ◌/◌, ◌≤◌, ◌<◌}
use native.Mathlib.Omega.{arith}
use lib.Dec.{ltb}
use borrow.Author.Tests.{lt-ltb, le-ltb, ltb-true}
use lib.ListN.{length, drop, replicate}
use lib.IntN.{ℤ}
use Rattle.sets.specs.Members.{member_of, SetOf}
use Rattle.tables.specs.Laws.{order?}
use Rattle.lists.specs.First.{tabulate}
use Rattle.checks.specs.Refusals.{liveness_refusal, numbers_by}
use Rattle.lists.specs.declared.Refusal.{Refusal}
use Rattle.checks.proofs.Chain.{refused_not}
use Rattle.checks.proofs.Accepted.{LivenessScene}
use Rattle.regions.specs.Graph.{marked}
use Rattle.signals.specs.Flags.{Flags}
use Rattle.liveness.specs.Sets.{SetWhere, checked}
use Rattle.signals.specs.Sources.{is_drive}
use Rattle.signals.specs.Regions.{region_count, regions_of, is_inferred}
use Rattle.signals.specs.Drive.{drive, potential}
use Rattle.assessment.specs.Verdicts.{source_rows, input_rows}
use Rattle.liveness.specs.Scene.{Scene}
use Rattle.liveness.specs.Entry.{AnalysisOf, numbers_of, AnalyzedBy, Analyzed}
use Rattle.liveness.specs.declared.Analysis.{Analysis}
use Rattle.liveness.proofs.Demands.{demand_3}
use Rattle.liveness.proofs.Meanings.{fed_from}

pub set_all : {n m : ℕ} {flags flags' : List Bool} {words : List ℕ} → n ≡ m → flags ≡ flags' → SetOf n flags words → SetWhere m (marked flags') words
set_all {n} {m} {flags} {flags'} {words} e f s = record {
  member = λ k.
      ⊎_elim
      (λ (past : n ≤ k). s.past k past ∙ rw (le-ltb k m (omega (arith, e))))
      (λ (here : k < n). s.member k here ∙ ap (λ (l : List Bool). marked l k) f ∙ rw (lt-ltb k m (omega (arith, e))))
      (order? n k);
}

pub set_same : {n m : ℕ} {P Q : ℕ → Bool} {words : List ℕ} → n ≡ m → ((k : ℕ) → P k ≡ Q k) → SetWhere n P words → SetWhere m Q words
set_same {n} {m} {P} {Q} e f s = record { member = λ k. s.member k ∙ ap (λ (j : ℕ). ltb k j && P k) e ∙ ap (λ (b : Bool). ltb k m && b) (f k) }

-- tests that agree on the numbers that count
pub set_below : {n m : ℕ} {P Q : ℕ → Bool} {words : List ℕ} → n ≡ m → ((k : ℕ) → k < m → P k ≡ Q k) → SetWhere n P words → SetWhere m Q words
set_below {n} {m} {P} {Q} e f s = record { member = λ k. s.member k ∙ ap (λ (j : ℕ). ltb k j && P k) e ∙ go k (ltb k m) refl }
  where
    go : (k : ℕ) (t : Bool) → ltb k m ≡ t → (t && P k) ≡ (t && Q k)
    go k true h = f k (ltb-true k m h)
    go k false h = refl

pub set_where : {n m : ℕ} {P : ℕ → Bool} {flags : List Bool} {words : List ℕ} → n ≤ m → SetOf n flags words → Flags m P flags → SetWhere n P words
set_where {n} {m} {P} {flags} {words} few s f = record {
  member = λ k.
      ⊎_elim
      (λ (past : n ≤ k). s.past k past ∙ rw (le-ltb k n past))
      (λ (here : k < n). s.member k here ∙ f.at k (omega arith) ∙ rw (lt-ltb k n here))
      (order? n k);
}

pub empty_set : (P : ℕ → Bool) {words : List ℕ} → ((k : ℕ) → member_of words k ≡ false) → SetWhere 0 P words
empty_set P e = record { member = λ k. e k ∙ rw (le-ltb k 0 (omega arith)) }

pub none_set : {n : ℕ} {P : ℕ → Bool} {words : List ℕ} → ((k : ℕ) → P k ≡ false) → ((k : ℕ) → member_of words k ≡ false) → SetWhere n P words
none_set {n} none e = record { member = λ k. e k ∙ no (ltb k n) ∙ ap (λ (t : Bool). ltb k n && t) (sym (none k)) }
  where
    no : (t : Bool) → false ≡ (t && false)
    no true = refl
    no false = refl

pub tabulated_same : {A : Type 0} (f g : ℕ → A) (n : ℕ) → ((p : ℕ) → p < n → f p ≡ g p) → tabulate f n ≡ tabulate g n
unfolding tabulate
tabulated_same f g zero e = refl
tabulated_same f g (suc n) e = rw (tabulated_same f g n (λ p h. e p (omega arith)), e n (omega arith))

-- by its counts, or its refusal
pub numbers_are : (rules : ℕ) (cs ps fs : List ℤ) {checks : Result ⊤ Refusal} (r : Result Analysis Refusal) → checked r ≡ checks → IfOk r (AnalysisOf rules cs ps fs)
    → numbers_of r ≡ numbers_by checks (region_count cs ps ∷ length (source_rows rules cs ps fs) / 2 ∷ length (input_rows rules cs ps fs) / 3 ∷ [])
numbers_are rules cs ps fs (Ok a) e f =
    let sources : a.sources ≡ length (source_rows rules cs ps fs) / 2 = omega (arith, f.source_count) in
    let inputs : a.inputs ≡ length (input_rows rules cs ps fs) / 3 = omega (arith, f.input_count) in
    rw (← e, ← sources, ← inputs, ← f.region_count_lem) refl
numbers_are rules cs ps fs (Err refusal) e f = rw (← e) refl

-- a work slice of the same length
pub analyzed_stack : {rules : ℕ} {cs ps fs : List ℤ} {regions regions' sources sources' inputs inputs' stack stack₂ stack' : List ℕ} {r : Result Analysis Refusal} → length stack₂ ≡ length stack
    → AnalyzedBy (Ok tt) rules cs ps fs regions regions' sources sources' inputs inputs' stack₂ stack' r
    → AnalyzedBy (Ok tt) rules cs ps fs regions regions' sources sources' inputs inputs' stack stack' r
analyzed_stack e a = record {
  answer = a.answer;
  numbers = a.numbers;
  analysis = a.analysis;
  regions_left = a.regions_left;
  sources_left = a.sources_left;
  inputs_left = a.inputs_left;
  stack_left = a.stack_left ∙ ap (λ (k : ℕ). replicate k 0) e;
}

-- ---- the entry

-- what an accepted scene's checks have shown
pub scene_of_lem : {rules : ℕ} {cs ps fs : List ℤ} {enough : Bool} → LivenessScene rules cs ps fs enough → Scene cs ps
scene_of_lem s = record { components = s.components; connections = s.connections; ends = s.ends; ascending = s.scene.ascending; distinct = s.scene.once }

pub analyzed_accepted : {rules : ℕ} {cs ps fs : List ℤ} {regions regions' sources sources' inputs inputs' stack stack' : List ℕ} {r : Analysis}
    → liveness_refusal rules cs ps fs (length regions) (length sources) (length inputs) (length stack) ≡ Ok tt → Scene cs ps
    → AnalyzedBy (Ok tt) rules cs ps fs regions regions' sources sources' inputs inputs' stack stack' (Ok r)
    → Analyzed rules cs ps fs regions regions' sources sources' inputs inputs' stack stack' (Ok r)
unfolding drive potential
analyzed_accepted {rules} {cs} {ps} {fs} {regions = regions} e s a = record {
  by = rw e a;
  demand = rw (a.regions_left, a.analysis.region_count_lem) (demand_3 cs ps s (drop (length (regions_of cs ps)) regions));
  driven = fed_from cs ps s (is_drive cs fs) a.analysis.drive_set;
  possible = fed_from cs ps s (λ q. is_drive cs fs q || is_inferred rules cs ps fs q) a.analysis.potential_set;
}

-- a refusal counts nothing
pub if_refused : {A : Type 0} (r : Result A Refusal) (P : A → Type 0) {refusal : Refusal} → checked r ≡ Err refusal → IfOk r P
if_refused (Ok value) P e = absurd (refused_not (sym e))
if_refused (Err refused) P e = tt

-- and nothing is written
pub analyzed_refused : {rules : ℕ} {cs ps fs : List ℤ} {regions regions' sources sources' inputs inputs' stack stack' : List ℕ} {refusal : Refusal} {r : Result Analysis Refusal}
    → liveness_refusal rules cs ps fs (length regions) (length sources) (length inputs) (length stack) ≡ Err refusal → checked r ≡ Err refusal
    → regions' ≡ regions → sources' ≡ sources → inputs' ≡ inputs → stack' ≡ stack
    → Analyzed rules cs ps fs regions regions' sources sources' inputs inputs' stack stack' r
analyzed_refused {rules} {cs} {ps} {fs} {r = r} e f p q u v = record {
  by = rw e record { answer = f; numbers = numbers_are rules cs ps fs r f (if_refused r _ f); analysis = if_refused r _ f; regions_left = p; sources_left = q; inputs_left = u; stack_left = v };
  demand = if_refused r _ f;
  driven = if_refused r _ f;
  possible = if_refused r _ f;
}
