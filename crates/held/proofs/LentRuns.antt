-- Slices that can be left are those that an opening and clicks on slices leave.
--     after_laid, run_laid      a click on a layout leaves the layout of what the click leaves
--     lent_reaches
-- Assumes nothing.
use Rattle.std.specs.Prelude.{⊤, Result, Ok, Err}
use Rattle.lists.specs.declared.Refusal.{Refusal}
use mathlib.Core.Path.{◌≡◌, refl, sym, ap, ◌∙◌}
use mathlib.Core.Bool.{true}
use mathlib.Core.List.{List, [], ◌∷◌}
use lib.IntN.{ℤ}
use Prim.Native.Nat.{ℕ}
use Rattle.held.specs.Plot.{Plot, opening, opened}
use Rattle.held.specs.Left.{Click, checks_of, effect_of, left_if, left_by, run, Leavable}
use Rattle.held.specs.Lent.{Lent, Roomy, LentLeavable, plot_in, has_room, layout, laid_state, laid_frontiers, laid_places, laid_connections, lent_if, lent_answer, lent_after, lent_run, LentReached, LentReaches}
use Rattle.held.proofs.Theorems.{leavable_sound, left_again}
use Rattle.held.proofs.LentLaws.{room_of, of_room, lent_decides, lent_valid_lem, laid_leavable, long_state, long_frontiers, long_places, long_connections}
use Rattle.held.proofs.Shown.{plot_back}
use Rattle.held.proofs.OpenLaws.{opening_parts}

module _ (lent : Lent) (r : Roomy lent) where
  -- a layout in the slices of a layout
  laid_again : (plot next : Plot) → Leavable plot → layout (layout lent plot) next ≡ layout lent next
  laid_again plot next l =
      let s = leavable_sound l in
      λ i. record {
        state = laid_state (long_state lent plot s r i) next;
        frontiers = laid_frontiers (long_frontiers lent plot s r i) next;
        places = laid_places (long_places lent plot s r i) next;
        connections = laid_connections (long_connections lent plot s r i) next;
      }

  pub after_laid : (plot : Plot) (click : Click) → Leavable plot → lent_after (layout lent plot) click ≡ layout lent (left_by plot click)
  after_laid plot click l =
      let s = leavable_sound l in
      let left : LentLeavable (layout lent plot) = laid_leavable lent plot s r l in
      let back : plot_in (layout lent plot) ≡ plot = plot_back (layout lent plot) plot s (sym (laid_again plot plot l)) in
      let answer : lent_answer (layout lent plot) click ≡ checks_of plot click =
      lent_valid_lem (layout lent plot) click ((lent_decides (layout lent plot)).0 left) ∙ ap (λ (p : Plot). checks_of p click) back in
      ap (λ (c : Result ⊤ Refusal). lent_if c (layout (layout lent plot) (effect_of (plot_in (layout lent plot)) click)) (layout lent plot)) answer
      ∙ (ap (λ (p : Plot). lent_if (checks_of plot click) (layout (layout lent plot) (effect_of p click)) (layout lent plot)) back ∙ go (checks_of plot click))
    where
      go : (c : Result ⊤ Refusal) → lent_if c (layout (layout lent plot) (effect_of plot click)) (layout lent plot) ≡ layout lent (left_if c (effect_of plot click) plot)
      go (Ok tt) = laid_again plot (effect_of plot click) l
      go (Err refusal) = refl

  pub run_laid : (plot : Plot) (clicks : List Click) → Leavable plot → lent_run (layout lent plot) clicks ≡ layout lent (run plot clicks)
  unfolding lent_run run
  run_laid plot [] l = refl
  run_laid plot (click ∷ clicks) l = ap (λ (t : Lent). lent_run t clicks) (after_laid plot click l) ∙ run_laid (left_by plot click) clicks (left_again l click)

-- an opening leaves a plot that can be left
opened_left : (rules : ℕ) (frontiers : List ℤ) → opening rules frontiers true ≡ Ok tt → Leavable (opened rules frontiers)
unfolding run
opened_left rules frontiers e = record { rules = rules; frontiers = frontiers; clicks = []; accepted = e; leaves = refl }

pub lent_reaches : (lent : Lent) → LentReaches lent
lent_reaches lent = (there, back)
  where
    there : LentLeavable lent → LentReached lent
    there l =
        let p = l.left in
        let room : has_room lent ≡ true = of_room lent l.room in
        record {
          rules = p.rules;
          frontiers = p.frontiers;
          clicks = p.clicks;
          accepted = ap (opening p.rules p.frontiers) room ∙ p.accepted;
          leaves = run_laid lent l.room (opened p.rules p.frontiers) p.clicks (opened_left p.rules p.frontiers p.accepted)
              ∙ (ap (layout lent) p.leaves ∙ sym l.shown);
        }

    back : LentReached lent → LentLeavable lent
    back q =
        let enough : has_room lent ≡ true = (opening_parts q.rules q.frontiers (has_room lent) q.accepted).0 in
        let opens : opening q.rules q.frontiers true ≡ Ok tt = sym (ap (opening q.rules q.frontiers) enough) ∙ q.accepted in
        record {
          plot = run (opened q.rules q.frontiers) q.clicks;
          left = record { rules = q.rules; frontiers = q.frontiers; clicks = q.clicks; accepted = opens; leaves = refl };
          room = room_of lent enough;
          shown = sym q.leaves ∙ run_laid lent (room_of lent enough) (opened q.rules q.frontiers) q.clicks (opened_left q.rules q.frontiers opens);
        }
