-- What specs/Entry.antt states.
--     reported          from the liveness entry's contract on the lists of the fresh scene
--     held_is_fresh     and back to it
-- Assumes nothing.
use mathlib.Core.Path.{◌≡◌, refl, sym, ap, ◌∙◌, subst}
use mathlib.Core.Bool.{Bool, true, false}
use mathlib.Core.List.{List}
use Prim.Native.Nat.{ℕ}
use lib.ListN.{length}
use lib.IntN.{ℤ}
use Rattle.std.specs.Prelude.{⊤, None, Result, Ok, Err}
use Rattle.lists.specs.declared.Fault.{Fault}
use Rattle.lists.specs.declared.Refusal.{Refusal}
use Rattle.lists.specs.Limits.{component_width}
use Rattle.lists.specs.Records.{component_count}
use Rattle.lists.specs.Slices.{left_of, laid}
use Rattle.checks.specs.Refusals.{refuse, too_short, room_for, room_for_rows, liveness_room, liveness_refusal}
use Rattle.lists.proofs.Search.{both}
use Rattle.liveness.specs.Entry.{AnalyzedBy, Analyzed}
use Rattle.liveness.specs.declared.Analysis.{Analysis}
use Rattle.held.specs.Plot.{Plot, blocks, present}
use Rattle.held.specs.Lent.{Lent, plot_in, lent_valid}
use Rattle.held.specs.Scene.{scene_components, scene_ports}
use Rattle.held.proofs.Sorting.{sorted_length}
use Rattle.held.proofs.SceneLaws.{scene_accepted}
use Rattle.held_liveness.proofs.Rows.{rows_count, sound_of}
use Rattle.held_liveness.specs.Entry.{held_refusal, refusal_of, HeldReported, HeldIsFresh}

-- ---- the refusal

err_ok : {r : Refusal} → ◌≡◌ {A = Result ⊤ Refusal} (Err r) (Ok tt) → ⊥
err_ok e = cc

pub refused_18 : (lent : Lent) (enough : Bool) → lent_valid lent ≡ false → held_refusal lent enough ≡ Err (record { fault = Fault.StrangePlot; list = None; item = 0 })
unfolding held_refusal
refused_18 lent enough e = rw e refl

pub refused_2 : (lent : Lent) (enough : Bool) → lent_valid lent ≡ true → enough ≡ false → held_refusal lent enough ≡ Err (record { fault = Fault.ShortSlice; list = None; item = 0 })
unfolding held_refusal
refused_2 lent enough e f = rw (e, f) refl

pub accepted : (lent : Lent) (enough : Bool) → lent_valid lent ≡ true → enough ≡ true → held_refusal lent enough ≡ Ok tt
unfolding held_refusal
accepted lent enough e f = rw (e, f) refl

-- where it is accepted the slices can be left, and have room
pub accepted_parts : (lent : Lent) (enough : Bool) → held_refusal lent enough ≡ Ok tt → (lent_valid lent ≡ true) × (enough ≡ true)
unfolding held_refusal
accepted_parts lent enough e = go (lent_valid lent) enough refl refl e
  where
    go : (v b : Bool) → lent_valid lent ≡ v → enough ≡ b → held_refusal lent enough ≡ Ok tt → (lent_valid lent ≡ true) × (enough ≡ true)
    go true true p q f = (p, q)
    go true false p q f = absurd (err_ok (sym (refused_2 lent enough p q) ∙ f))
    go false b p q f = absurd (err_ok (sym (refused_18 lent enough p) ∙ f))

-- the liveness entry's contract on the same lists
pub moved : {rules rules' : ℕ} {cs cs' ps ps' fs fs' : List ℤ} {regions regions' sources sources' inputs inputs' stack stack' : List ℕ} {r : Result Analysis Refusal}
    → rules ≡ rules' → cs ≡ cs' → ps ≡ ps' → fs ≡ fs'
    → Analyzed rules cs ps fs regions regions' sources sources' inputs inputs' stack stack' r
    → Analyzed rules' cs' ps' fs' regions regions' sources sources' inputs inputs' stack stack' r
moved {rules} {rules'} {cs} {cs'} {ps} {ps'} {fs} {fs'} {regions} {regions'} {sources} {sources'} {inputs} {inputs'} {stack} {stack'} {r} e f g h a =
    subst (λ (x : ℕ). Analyzed x cs' ps' fs' regions regions' sources sources' inputs inputs' stack stack' r) e
    (subst (λ (x : List ℤ). Analyzed rules x ps' fs' regions regions' sources sources' inputs inputs' stack stack' r) f
    (subst (λ (x : List ℤ). Analyzed rules cs x fs' regions regions' sources sources' inputs inputs' stack stack' r) g
    (subst (λ (x : List ℤ). Analyzed rules cs ps x regions regions' sources sources' inputs inputs' stack stack' r) h a)))

-- ---- where it is accepted

module _ (lent : Lent) (v : lent_valid lent ≡ true) where
  abbrev plot : Plot
  plot = plot_in lent

  -- as many components as stand
  pub scene_count : component_count (scene_components plot) ≡ present plot.places
  scene_count = rows_count plot (sound_of lent v) ∙ sorted_length (blocks plot.places)

  -- the checks of the liveness entry accept the lists of the fresh scene
  pub fresh_accepted : (regions sources inputs stack : ℕ) → room_for_rows (present plot.places) regions sources inputs stack ≡ true
      → liveness_refusal plot.rules (scene_components plot) (scene_ports plot) plot.frontiers regions sources inputs stack ≡ Ok tt
  fresh_accepted regions sources inputs stack enough =
      let here : liveness_room (scene_components plot) regions sources inputs stack ≡ true =
      ap (λ (n : ℕ). room_for_rows n regions sources inputs stack) scene_count ∙ enough in
      scene_accepted plot (sound_of lent v) (liveness_room (scene_components plot) regions sources inputs stack)
      ∙ ap (λ (b : Bool). refuse Fault.ShortSlice None (too_short b)) here

module _ (lent : Lent) (components : List ℤ) (regions sources inputs stack : List ℕ) where
  -- the liveness entry's contract on the lists of the fresh scene
  abbrev FreshAnalyzed : List ℕ → List ℕ → List ℕ → List ℕ → Result Analysis Refusal → Type 0
  FreshAnalyzed regions' sources' inputs' stack' r =
      Analyzed (plot_in lent).rules (scene_components (plot_in lent)) (scene_ports (plot_in lent)) (plot_in lent).frontiers
      regions regions' sources sources' inputs inputs' stack stack' r

  module _ (ok : refusal_of lent components regions sources inputs stack ≡ Ok tt) where
    fresh_ok : liveness_refusal (plot_in lent).rules (scene_components (plot_in lent)) (scene_ports (plot_in lent)) (plot_in lent).frontiers
        (length regions) (length sources) (length inputs) (length stack)
        ≡ Ok tt
    fresh_ok =
        let parts = accepted_parts lent _ ok in
        fresh_accepted lent parts.0 (length regions) (length sources) (length inputs) (length stack)
        (both (room_for (present (plot_in lent).places) component_width (length components))
        (room_for_rows (present (plot_in lent).places) (length regions) (length sources) (length inputs) (length stack))
        parts.1).1

    module _ (components' : List ℤ) (regions' sources' inputs' stack' : List ℕ) (r : Result Analysis Refusal) where
      pub reported : components' ≡ laid (scene_components (plot_in lent)) components → FreshAnalyzed regions' sources' inputs' stack' r
          → HeldReported lent components components' regions regions' sources sources' inputs inputs' stack stack' r
      reported e a = record {
        by = subst (λ (checks : Result ⊤ Refusal). AnalyzedBy checks (plot_in lent).rules (scene_components (plot_in lent)) (scene_ports (plot_in lent)) (plot_in lent).frontiers
            regions regions' sources sources' inputs inputs' stack stack' r) (fresh_ok ∙ sym ok) a.by;
        components_left = e ∙ ap (λ (checks : Result ⊤ Refusal). left_of checks (scene_components (plot_in lent)) components) (sym ok);
        demand = a.demand;
        driven = a.driven;
        possible = a.possible;
      }

      fresh_by : HeldReported lent components components' regions regions' sources sources' inputs inputs' stack stack' r
          → FreshAnalyzed regions' sources' inputs' stack' r
      fresh_by h = record {
        by = subst (λ (checks : Result ⊤ Refusal). AnalyzedBy checks (plot_in lent).rules (scene_components (plot_in lent)) (scene_ports (plot_in lent)) (plot_in lent).frontiers
            regions regions' sources sources' inputs inputs' stack stack' r) (ok ∙ sym fresh_ok) h.by;
        demand = h.demand;
        driven = h.driven;
        possible = h.possible;
      }

  pub held_is_fresh : (components' : List ℤ) (regions' sources' inputs' stack' : List ℕ) (r : Result Analysis Refusal)
      → HeldIsFresh lent components components' regions regions' sources sources' inputs inputs' stack stack' r
  held_is_fresh components' regions' sources' inputs' stack' r ok h = fresh_by ok components' regions' sources' inputs' stack' r h

  -- a refusal writes nothing
  pub reported_refused : (refusal : Refusal) → refusal_of lent components regions sources inputs stack ≡ Err refusal
      → HeldReported lent components components regions regions sources sources inputs inputs stack stack (Err refusal)
  reported_refused refusal e = record {
    by = subst (λ (checks : Result ⊤ Refusal). AnalyzedBy checks (plot_in lent).rules (scene_components (plot_in lent)) (scene_ports (plot_in lent)) (plot_in lent).frontiers
        regions regions sources sources inputs inputs stack stack (Err refusal)) (sym e)
        (record { answer = refl; numbers = refl; analysis = tt; regions_left = refl; sources_left = refl; inputs_left = refl; stack_left = refl });
    components_left = ap (λ (checks : Result ⊤ Refusal). left_of checks (scene_components (plot_in lent)) components) (sym e);
    demand = tt;
    driven = tt;
    possible = tt;
  }
