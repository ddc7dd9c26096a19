-- What the walk finds, for every graph (specs/Theorems.antt). The proof needs no look at the order of the calls: as long as the walk has not
-- stopped it has met what `visit` of the crate `regions` visits, and what it has met is reached, with no goal before it stops and one after.
-- Assumes nothing.
use mathlib.Core.Path.{◌≡◌, refl, sym, ap, ◌∙◌, subst}
use mathlib.Core.Bool.{Bool, true, false, cond, ◌||◌, true≢false, false≢true}
use mathlib.Core.List.{List, [], ◌∷◌}
use mathlib.Core.Logic.{◌⊎◌, inl, inr, ⊎_elim}
use Prim.Native.Nat.{ℕ, zero, suc, ◌<◌}
use native.Mathlib.Omega.{arith}
use lib.ListN.{length, set, replicate, length-set, length-replicate}
use lib.Seq.{get_or-set_same, get_or-set_other}
use Rattle.tables.specs.Laws.{same?}
use Rattle.regions.specs.Graph.{Edges, Within, Reach, here, step, marked, range, each, next}
use Rattle.regions.specs.Kosaraju.{Walk, mark, push, visit, unvisited, starts_of, reached}
use Rattle.regions.proofs.Laws.Lists.{◌∈◌, split, ∈-range, ∈-filter}
use Rattle.regions.proofs.Laws.Loops.{each_keeps}
use Rattle.regions.proofs.Laws.Walks.{∈-next, Reach·trans}
use Rattle.regions.proofs.Theorems.{reach_laws}
use Rattle.driven.specs.Seek.{Search, meet, stop, seek, seeking, sought}
use Rattle.driven.specs.Theorems.{OneGoal, SoughtLaws}
use Rattle.driven.proofs.Passing.{seek_stopped}

-- ---- lists

-- two ways to do something at each node of a list, whose states stay related
each_both : {S U : Type 0} (R : S → U → Type 0) (f : ℕ → S → S) (g : ℕ → U → U) (l : List ℕ)
    → ((x : ℕ) (s : S) (u : U) → R s u → R (f x s) (g x u)) → (s : S) (u : U) → R s u → R (each f l s) (each g l u)
unfolding each
each_both R f g [] c s u r = r
each_both R f g (x ∷ l) c s u r = each_both R f g l c (f x s) (g x u) (c x s u r)

-- what is met after one node more
met_more : (v : List Bool) (x k : ℕ) → marked (set v x true) k ≡ true → (k ≡ x) ⊎ (marked v k ≡ true)
met_more v x k e = ⊎_elim inl (λ ne. inr (sym (get_or-set_other v x k true false ne) ∙ e)) (same? k x)

none_met : (n k : ℕ) → marked (replicate n false) k ≡ false
none_met zero k = refl
none_met (suc n) zero = refl
none_met (suc n) (suc k) = none_met n k

module _ (n : ℕ) (edge : Edges) (goals : List Bool) where
  -- ---- until it stops, the walk has met what `visit` visits

  abbrev Follows : Search → Walk → Type 0
  Follows s w = (s.stopped ≡ true) ⊎ (s.met ≡ w.visited)

  seek_follows : (fuel x : ℕ) (s : Search) (w : Walk) → Follows s w → Follows (seek n edge goals fuel x s) (visit n edge fuel x w)
  unfolding seek visit
  seek_follows zero x s w p = p
  seek_follows (suc fuel) x s w (inl e) = inl (ap (λ (t : Search). t.stopped) (seek_stopped n edge goals (suc fuel) x s e) ∙ e)
  seek_follows (suc fuel) x s w (inr e) =
      subst (λ (b : Bool). Follows found (cond b w visited)) (ap (λ (v : List Bool). marked v x) e)
      (go s.stopped refl (marked s.met x) (marked goals x) (seek_follows fuel))
    where
      on : Search
      on = each (λ k t. seek n edge goals fuel k t) (next n edge x) (meet x s)

      found : Search
      found = cond (s.stopped || marked s.met x) s (cond (marked goals x) (stop (meet x s)) on)

      visited : Walk
      visited = push x (each (λ k t. visit n edge fuel k t) (next n edge x) (mark x w))

      go : (b : Bool) → s.stopped ≡ b → (m g : Bool)
          → ((y : ℕ) (t : Search) (u : Walk) → Follows t u → Follows (seek n edge goals fuel y t) (visit n edge fuel y u))
          → Follows (cond (b || m) s (cond g (stop (meet x s)) on)) (cond m w visited)
      go true q m g ih = inl q
      go false q true g ih = inr e
      go false q false true ih = inl refl
      go false q false false ih =
          each_both Follows (λ k t. seek n edge goals fuel k t) (λ k t. visit n edge fuel k t) (next n edge x) ih (meet x s) (mark x w)
          (inr (ap (λ (v : List Bool). set v x true) e))

  -- ---- what is met is reached, with no goal before the walk stops and one after

  module _ (starts : List Bool) where
    abbrev From : ℕ → Type 0
    From k = (s : ℕ) × (s < n) × (marked starts s ≡ true) × Reach edge s k

    record Sound (s : Search) : Type 0 where
      long : length s.met ≡ n
      from : (k : ℕ) → marked s.met k ≡ true → From k
      one : s.stopped ≡ true → OneGoal goals s.met
      none : s.stopped ≡ false → (k : ℕ) → marked s.met k ≡ true → marked goals k ≡ false

    module _ {s : Search} (p : Sound s) (on : s.stopped ≡ false) (x : ℕ) (lt : x < n) (f : From x) where
      meet_from : (k : ℕ) → marked (set s.met x true) k ≡ true → From k
      meet_from k m = ⊎_elim (λ (e : k ≡ x). subst From (sym e) f) (p.from k) (met_more s.met x k m)

      -- the first goal
      stop_sound : marked goals x ≡ true → Sound (stop (meet x s))
      stop_sound g = record {
        long = length-set s.met x true ∙ p.long;
        from = meet_from;
        one = λ e. (
          x,
          get_or-set_same s.met x true false (omega (arith, p.long)),
          g,
          λ k m h. ⊎_elim (λ (q : k ≡ x). q) (λ old. absurd (true≢false (sym h ∙ p.none on k old))) (met_more s.met x k m),
        );
        none = λ e. absurd (true≢false e);
      }

      -- no goal
      meet_sound : marked goals x ≡ false → Sound (meet x s)
      meet_sound g = record {
        long = length-set s.met x true ∙ p.long;
        from = meet_from;
        one = λ e. absurd (true≢false (sym e ∙ on));
        none = λ e k m. ⊎_elim (λ (q : k ≡ x). ap (marked goals) q ∙ g) (p.none on k) (met_more s.met x k m);
      }

    seek_sound : (fuel x : ℕ) → x < n → From x → (s : Search) → Sound s → Sound (seek n edge goals fuel x s)
    unfolding seek
    seek_sound zero x lt f s p = p
    seek_sound (suc fuel) x lt f s p = go s.stopped refl (marked s.met x) (marked goals x) refl (seek_sound fuel)
      where
        next_from : (y : ℕ) → y ∈ next n edge x → From y
        next_from y h = (f.0, f.1, f.2, Reach·trans f.3 (step (∈-next n edge x y h).1 here))

        go : (b : Bool) → s.stopped ≡ b → (m g : Bool) → marked goals x ≡ g
            → ((y : ℕ) → y < n → From y → (t : Search) → Sound t → Sound (seek n edge goals fuel y t))
            → Sound (cond (b || m) s (cond g (stop (meet x s)) (each (λ k t. seek n edge goals fuel k t) (next n edge x) (meet x s))))
        go true e m g q ih = p
        go false e true g q ih = p
        go false e false true q ih = stop_sound p e x lt f q
        go false e false false q ih =
            each_keeps Sound (λ k t. seek n edge goals fuel k t) (next n edge x)
            (λ y h t r. ih y (∈-next n edge x y h).0 (next_from y h) t r) (meet x s) (meet_sound p e x lt f q)

    -- ---- the walks from the starts

    start_of : (s : ℕ) → s ∈ starts_of n starts → (s < n) × (marked starts s ≡ true)
    start_of s h =
        let f = ∈-filter (marked starts) s (range zero n) h in
        let p = ∈-range s zero n f.0 in
        (omega arith, f.1)

    sound : Sound (sought n edge goals starts)
    unfolding sought
    sound =
        each_keeps Sound (seek n edge goals n) (starts_of n starts)
        (λ x h s p. let q = start_of x h in seek_sound n x q.0 (x, q.0, q.1, here) s p) (seeking (replicate n false))
        (record {
          long = length-replicate n false;
          from = λ k m. absurd (true≢false (sym m ∙ none_met n k));
          one = λ e. absurd (false≢true e);
          none = λ e k m. absurd (true≢false (sym m ∙ none_met n k));
        })

    follows : Follows (sought n edge goals starts) (each (visit n edge n) (starts_of n starts) (unvisited n))
    unfolding sought
    follows = each_both Follows (seek n edge goals n) (visit n edge n) (starts_of n starts) (seek_follows n) (seeking (replicate n false)) (unvisited n) (inr refl)

    all_met : (sought n edge goals starts).stopped ≡ false → (sought n edge goals starts).met ≡ reached n edge starts
    unfolding reached
    all_met e = ⊎_elim (λ q. absurd (true≢false (sym q ∙ e))) (λ q. q) follows

    module _ (within : Within n edge) where
      met_reached : (k : ℕ) → marked (sought n edge goals starts).met k ≡ true → marked (reached n edge starts) k ≡ true
      met_reached k m = ((reach_laws n edge within starts).exactly k).1 (sound.from k m)

      goal_reached : (sought n edge goals starts).stopped ≡ true → (g : ℕ) × (marked goals g ≡ true) × (marked (reached n edge starts) g ≡ true)
      goal_reached e = let o = sound.one e in (o.0, o.2, met_reached o.0 o.1)

      reached_stops : ((g : ℕ) × (marked goals g ≡ true) × (marked (reached n edge starts) g ≡ true)) → (sought n edge goals starts).stopped ≡ true
      reached_stops h =
          ⊎_elim (λ e. e)
          (λ e. absurd (true≢false (sym h.1 ∙ sound.none e h.0 (ap (λ (v : List Bool). marked v h.0) (all_met e) ∙ h.2))))
          (split (sought n edge goals starts).stopped)

pub sought_laws : (n : ℕ) (edge : Edges) → Within n edge → (goals starts : List Bool) → SoughtLaws n edge goals starts
sought_laws n edge within goals starts = record {
  met_reached = met_reached n edge goals starts within;
  one_goal = (sound n edge goals starts).one;
  all_met = all_met n edge goals starts;
  no_goal = (sound n edge goals starts).none;
  stops = (goal_reached n edge goals starts within, reached_stops n edge goals starts within);
  long = (sound n edge goals starts).long;
}
