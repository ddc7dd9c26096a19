-- The entry's answer, by what the checks say.
--     tables              what the stages leave of an accepted plot
--     tabled_accepted     the answer, where the checks accept
--     count_few           there are no more regions than components
-- Assumes nothing.
use Rattle.std.specs.Prelude.{Result, Ok, Err, IfOk}
use mathlib.Core.Path.{◌≡◌, refl, sym, ap, ap₂, ◌∙◌}
use mathlib.Core.Bool.{Bool, true, false}
use mathlib.Core.List.{List, ◌++◌}
use mathlib.Core.Logic.{◌↔◌}
use Prim.Native.Nat.{ℕ, ◌+◌, ◌*◌, ◌≤◌, ◌<◌}
use native.Mathlib.Omega.{arith}
use lib.IntN.{ℤ}
use lib.ListN.{length, get_or, drop, replicate, get_or-append}
use lib.Seq.{ext_get_or}
use Rattle.lists.specs.declared.Refusal.{Refusal}
use Rattle.lists.specs.Ids.{member_of}
use Rattle.lists.specs.Limits.{component_limit}
use Rattle.lists.specs.Records.{component_count}
use Rattle.lists.specs.Slices.{laid}
use Rattle.checks.proofs.Accepted.{liveness_accept}
use Rattle.regions.specs.Graph.{Edges, at}
use Rattle.regions.specs.Kosaraju.{Labels, order}
use Rattle.regions.proofs.Fill.{zeros_cleared}
use Rattle.signals.specs.Regions.{region_of_place, regions_of}
use Rattle.signals.specs.Signals.{signals}
use Rattle.signals.proofs.Tabulated.{tab_length, tab_at}
use Rattle.signals.proofs.Within.{scene_regions}
use Rattle.liveness.specs.Scene.{Scene}
use Rattle.liveness.proofs.Answers.{scene_of_lem}
use Rattle.liveness.proofs.Demands.{region_laid, demand_3}
use Rattle.reach_table.specs.Table.{bit}
use Rattle.reach_table.specs.Scene.{reaches, reach_table}
use Rattle.reach_table.specs.Square.{Holds, Finished, AllNumbered, Tables}
use Rattle.reach_table.specs.Entry.{table_refusal, SquareOfScene, Tabled}
use Rattle.reach_table.proofs.Cells.{cell_low, holds_rows, rows_hold}
use Rattle.reach_table.proofs.Relabelled.{place_numbers}
use Rattle.reach_table.proofs.Rows.{bit_inj, row_parts, row_of}
use Rattle.reach_table.proofs.Scenes.{scene_laws}

-- ---- what the stages leave

pub tables : {cs ps : List ℤ} (edge : Edges) {square places regions stack : List ℕ} {numbered : List Bool} {r : ℕ} → Scene cs ps
    → edge ≡ signals cs ps → Holds (component_count cs) (reaches cs ps) square → Finished cs edge places stack
    → length regions ≡ component_count cs → AllNumbered (component_count cs) square places numbered regions r
    → Tables cs ps square regions stack r
tables {cs} {ps} edge {square} {places} {regions} scene graph held f long a =
    let n = component_count cs in
    let nodes : (k : ℕ) → k < n → member_of cs (get_or places k 0) ≡ at (order n (signals cs ps)) k = λ k h.
    f.nodes k h ∙ ap (λ (g : Edges). at (order n g) k) graph in
    let named = place_numbers cs ps scene places f.places_in nodes in
    let is = a.is (reaches cs ps) held in
    record {
      square_is = holds_rows held;
      regions_are = ext_get_or 0 regions (regions_of cs ps) (long ∙ sym (tab_length (region_of_place cs ps) n)) (λ p l.
          let h : p < n = omega (arith, long) in
          ap (λ (s : Labels). at s.region_of p) is ∙ named.1 p h ∙ sym (tab_at (region_of_place cs ps) n p h));
      count_is = ap (λ (s : Labels). s.count) is ∙ named.0;
      stack_zeros = f.stack_zeros;
    }

-- ---- the square as its reader sees it

one_or_none : (b : Bool) → (bit b ≡ 0) ↔ (bit b ≡ 1 → ⊥)
one_or_none true = (λ e. absurd (omega arith), λ ne. absurd (ne refl))
one_or_none false = (λ _ e. absurd (omega arith), λ _. refl)

one_is : (b : Bool) → (bit b ≡ 1) ↔ (b ≡ true)
one_is true = (λ e. refl, λ e. refl)
one_is false = (λ e. absurd (omega arith), λ e. (cc))

module _ (cs ps : List ℤ) (scene : Scene cs ps) (square regions : List ℕ) where
  abbrev n : ℕ
  n = component_count cs

  abbrev table : List ℕ
  table = laid (reach_table cs ps) square

  -- the places of the finished table
  place : (v w : ℕ) → v < component_count cs → w < component_count cs
      → get_or (laid (reach_table cs ps) square) (v * component_count cs + w) 0 ≡ bit (reaches cs ps v w)
  place v w hv hw =
      let h = rows_hold (component_count cs) (reaches cs ps) in
      get_or-append (reach_table cs ps) (drop (length (reach_table cs ps)) square) 0 (v * component_count cs + w)
      (omega (arith, cell_low (component_count cs) v w hv hw, h.long))
      ∙ h.at v w hv hw

  pub square_of_scene : SquareOfScene cs ps (laid (reach_table cs ps) square) (laid (regions_of cs ps) regions)
  square_of_scene =
      let laws = scene_laws cs ps scene in
      record {
        one = λ v w hv hw.
            let c = laws.chains v w hv hw in
            let b = one_is (reaches cs ps v w) in
            (λ e. c.0 (b.0 (sym (place v w hv hw) ∙ e)), λ p. place v w hv hw ∙ b.1 (c.1 p));
        nothing = λ v w hv hw.
            let c = laws.chains v w hv hw in
            let b = one_is (reaches cs ps v w) in
            let z = one_or_none (reaches cs ps v w) in
            (λ e p. z.0 (sym (place v w hv hw) ∙ e) (b.1 (c.1 p)), λ no. place v w hv hw ∙ z.1 (λ e. no (c.0 (b.0 e))));
        rows = λ v w hv hw.
            let c = laws.classes v w hv hw in
            let laid = region_laid cs ps (drop (length (regions_of cs ps)) regions) in (
              λ same.
                  laid v hv
                  ∙ c.0 (row_of n (reaches cs ps) v w (λ u hu. bit_inj _ _ (sym (place v u hv hu) ∙ same u hu ∙ place w u hw hu)))
                  ∙ sym (laid w hw),
              λ e u hu.
                  place v u hv hu
                  ∙ ap bit (row_parts n (reaches cs ps) v w (c.1 (sym (laid v hv) ∙ e ∙ laid w hw)) u hu)
                  ∙ sym (place w u hw hu),
            );
      }

-- ---- the answer

module _ {cs ps fs : List ℤ} (square regions stack : List ℕ) {stack' s q : List ℕ} {r : ℕ} where
  pub tabled_accepted : {rules : ℕ} → table_refusal rules cs ps fs (length square) (length regions) (length stack) ≡ Ok tt → Scene cs ps
      → length stack' ≡ length stack → Tables cs ps s q stack' r
      → Tabled rules cs ps fs square (s ++ drop (component_count cs * component_count cs) square) regions (q ++ drop (component_count cs) regions) stack stack' (Ok r)
  tabled_accepted e scene long t =
      let h = rows_hold (component_count cs) (reaches cs ps) in
      let filled : s ++ drop (component_count cs * component_count cs) square ≡ laid (reach_table cs ps) square =
      ap₂ (λ (l : List ℕ) (k : ℕ). l ++ drop k square) t.square_is (sym h.long) in
      let named : q ++ drop (component_count cs) regions ≡ laid (regions_of cs ps) regions =
      ap₂ (λ (l : List ℕ) (k : ℕ). l ++ drop k regions) t.regions_are (sym (tab_length (region_of_place cs ps) (component_count cs))) in
      rw (filled, named) record {
        by = rw e record {
          answer = refl;
          count = t.count_is;
          square_left = refl;
          regions_left = refl;
          stack_left = zeros_cleared stack' t.stack_zeros ∙ ap (λ (k : ℕ). replicate k 0) long;
        };
        laws = scene_laws cs ps scene;
        table = square_of_scene cs ps scene square regions;
        demand = rw t.count_is (demand_3 cs ps scene (drop (length (regions_of cs ps)) regions));
      }

-- there are no more regions than components
pub count_few : {rules : ℕ} {cs ps fs : List ℤ} (square regions stack : List ℕ) {square' regions' stack' : List ℕ} {r : Result ℕ Refusal}
    → Tabled rules cs ps fs square square' regions regions' stack stack' r → IfOk r (λ count. count ≤ component_limit)
count_few {rules} {cs} {ps} {fs} square regions stack {r = Ok count} t =
    let live = liveness_accept rules cs ps fs _ (sym t.by.answer) in
    omega (arith, t.by.count, (scene_regions cs ps (scene_of_lem live).ends).few, live.components.few)
count_few square regions stack {r = Err refusal} t = tt
