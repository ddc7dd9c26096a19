-- Linking a root under another keeps a forest well formed, and the arrays' stores keep them standing for it.
--     rank-≤, rank-≤-root       a rank is at most rank_limit, and at most the root's
--     root_is_own               in the arrays a root is its own parent
--     stored_same, stored_other a list after a store
--     link_root                 the roots after a link
--     link_well_formed          the forest after a link
--     link_represents           the arrays after a link
--     singletons_well_formed, singletons_represents     the forest and the arrays at first
-- Assumes nothing.
use Prim.Native.Nat.{ℕ, ◌+◌, ◌^◌, ◌≤◌, ◌<◌}
use native.Mathlib.Nat.{le_trans, le_of_eq}
use native.Mathlib.Decide.{dec_le}
use native.Mathlib.Omega.{arith}
use mathlib.Core.Path.{◌≡◌, refl, sym, ap, ◌∙◌}
use mathlib.Core.List.{List}
use mathlib.Core.Logic.{◌⊎◌, inl, inr, ⊎_elim, ◌≢◌}
use lib.ListN.{length, get_or, set, length-set, length-map, replicate, length-replicate, get_or-replicate}
use lib.Seq.{get_or-set_same, get_or-set_other}
use lib.Pow.{pow-lt}
use Rattle.lists.specs.Limits.{component_limit, rank_limit}
use Rattle.circuit.specs.Forest.{Forest, root, rank, range, singletons, count, redirect, link, Rooted, WellFormed, Linked, Represents}
use Rattle.circuit.proofs.Lists.{same_or_not, get_or_map, length_range, get_or_range, redirect_hit, redirect_miss, count-≤-length, count_pos, count_winner, count_other}

-- a root of the largest rank has every place
largest : 2 ^ rank_limit ≡ component_limit
largest = refl

module _ (f : Forest) (wf : WellFormed f) where
  -- a root of rank r has 2 ^ r of the places
  root_rank-≤ : (v : ℕ) → v < component_limit → root f v ≡ v → rank f v ≤ rank_limit
  root_rank-≤ v h e = go (dec_le (rank f v) rank_limit)
    where
      go : Dec (rank f v ≤ rank_limit) → rank f v ≤ rank_limit
      go (yes p) = p
      go (no p) =
          let big : 2 ^ rank_limit < 2 ^ rank f v = pow-lt {i = rank_limit} {j = rank f v} (omega arith) in
          omega (arith, largest, big, (wf.rooted v h).heavy e, count-≤-length v f.roots, wf.roots_length)

  -- a place's rank is at most its root's
  pub rank-≤-root : (v : ℕ) → v < component_limit → rank f v ≤ rank f (root f v)
  rank-≤-root v h = ⊎_elim (λ e. le_of_eq (ap (rank f) (sym e))) (λ lt. omega arith) (wf.rooted v h).rises

  pub rank-≤ : (v : ℕ) → v < component_limit → rank f v ≤ rank_limit
  rank-≤ v h = le_trans (rank-≤-root v h) (root_rank-≤ (root f v) (wf.rooted v h).below (wf.rooted v h).fixed)

-- a root is its own parent: any other parent would have a higher rank than its root
pub root_is_own : (parents ranks : List ℕ) (f : Forest) → Represents parents ranks f → (v : ℕ) → v < component_limit → root f v ≡ v → get_or parents v 0 ≡ v
root_is_own parents ranks f rep v h e = ⊎_elim (λ p. p) (λ lt. absurd (above lt)) (rep.linked v h).rises
  where
    above : rank f v < rank f (get_or parents v 0) → ⊥
    above lt = omega (arith, rank-≤-root f rep.forest (get_or parents v 0) (rep.linked v h).below, ap (rank f) ((rep.linked v h).same ∙ e))

-- a list with a number stored at a place
module _ (l : List ℕ) (at new : ℕ) (fits : at < length l) where
  pub stored_same : (v : ℕ) → v ≡ at → get_or (set l at new) v 0 ≡ new
  stored_same v e = rw e (get_or-set_same l at new 0 fits)

  pub stored_other : (v : ℕ) → v ≢ at → get_or (set l at new) v 0 ≡ get_or l v 0
  stored_other v h = get_or-set_other l at v new 0 h

-- where the loser was the root, the winner is
pub link_root : (f : Forest) → length f.roots ≡ component_limit → (loser winner r v : ℕ) → v < component_limit
    → root (link f loser winner r) v ≡ redirect loser winner (root f v)
unfolding link
link_root f len loser winner r v h = get_or_map (redirect loser winner) f.roots v (omega arith)

module _ (f : Forest) (wf : WellFormed f) (loser winner r : ℕ) (loser-below : loser < component_limit) (winner-below : winner < component_limit)
    (loser-root : root f loser ≡ loser) (winner-root : root f winner ≡ winner) (apart : loser ≢ winner)
    (higher : rank f loser < r) (kept : rank f winner ≤ r) (weight : 2 ^ r ≤ count winner f.roots + count loser f.roots) where
  new_root : (v : ℕ) → v < component_limit → root (link f loser winner r) v ≡ redirect loser winner (root f v)
  new_root v h = link_root f wf.roots_length loser winner r v h

  new_rank_winner : rank (link f loser winner r) winner ≡ r
  unfolding link
  new_rank_winner = get_or-set_same f.ranks winner r 0 (omega (arith, wf.ranks_length))

  new_rank_other : (v : ℕ) → v ≢ winner → rank (link f loser winner r) v ≡ rank f v
  unfolding link
  new_rank_other v h = get_or-set_other f.ranks winner v r 0 h

  new_count_winner : count winner (link f loser winner r).roots ≡ count winner f.roots + count loser f.roots
  unfolding link
  new_count_winner = count_winner loser winner apart f.roots

  new_count_other : (v : ℕ) → v ≢ loser → v ≢ winner → count v (link f loser winner r).roots ≡ count v f.roots
  unfolding link
  new_count_other v l w = count_other loser winner apart v l w f.roots

  winner_stays : root (link f loser winner r) winner ≡ winner
  winner_stays = new_root winner winner-below ∙ ap (redirect loser winner) winner-root ∙ redirect_miss loser winner winner (λ p. apart (sym p))

  loser_moves : root (link f loser winner r) loser ≡ winner
  loser_moves = new_root loser loser-below ∙ ap (redirect loser winner) loser-root ∙ redirect_hit loser winner

  -- no rank falls
  new_rank-≥ : (v : ℕ) → rank f v ≤ rank (link f loser winner r) v
  new_rank-≥ v = go (same_or_not v winner)
    where
      go : (v ≡ winner) ⊎ (v ≢ winner) → rank f v ≤ rank (link f loser winner r) v
      go (inl e) = rw (e, new_rank_winner) kept
      go (inr n) = le_of_eq (sym (new_rank_other v n))

  -- a place that was the loser's
  moved : (v : ℕ) → v < component_limit → root f v ≡ loser → Rooted (link f loser winner r) v winner
  moved v h e =
      let other : v ≢ winner = λ p. apart (sym e ∙ ap (root f) p ∙ winner-root) in
      record {
        below = winner-below;
        fixed = winner_stays;
        rises = inr (omega (arith, new_rank_other v other, new_rank_winner, rank-≤-root f wf v h, ap (rank f) e));
        heavy = λ p. absurd (other (sym p));
      }

  -- any other place
  stayed : (v : ℕ) → v < component_limit → root f v ≢ loser → Rooted (link f loser winner r) v (root f v)
  stayed v h n =
      record {
        below = old.below;
        fixed = new_root (root f v) old.below ∙ ap (redirect loser winner) old.fixed ∙ redirect_miss loser winner (root f v) n;
        rises = ⊎_elim inl (λ lt. inr (omega (arith, new_rank_other v (not_winner lt), new_rank-≥ (root f v)))) old.rises;
        heavy = λ e. weighed e (same_or_not v winner);
      }
    where
      old : Rooted f v (root f v)
      old = wf.rooted v h

      not_winner : rank f v < rank f (root f v) → v ≢ winner
      not_winner lt e = omega (arith, ap (rank f) (ap (root f) e ∙ winner-root ∙ sym e))

      weighed : root f v ≡ v → (v ≡ winner) ⊎ (v ≢ winner) → 2 ^ rank (link f loser winner r) v ≤ count v (link f loser winner r).roots
      weighed e (inl w) = rw (w, new_rank_winner, new_count_winner) weight
      weighed e (inr w) = rw (new_rank_other v w, new_count_other v (λ p. n (e ∙ p)) w) (old.heavy e)

  pub link_well_formed : WellFormed (link f loser winner r)
  unfolding link
  link_well_formed =
      record {
        roots_length = length-map f.roots (redirect loser winner) ∙ wf.roots_length;
        ranks_length = length-set f.ranks winner r ∙ wf.ranks_length;
        rooted = λ v h. rw (new_root v h) (go v h (same_or_not (root f v) loser));
      }
    where
      go : (v : ℕ) → v < component_limit → (root f v ≡ loser) ⊎ (root f v ≢ loser) → Rooted (link f loser winner r) v (redirect loser winner (root f v))
      go v h (inl e) = rw (e, redirect_hit) (moved v h e)
      go v h (inr n) = rw (redirect_miss loser winner (root f v) n) (stayed v h n)

  pub link_represents : (parents ranks : List ℕ) → Represents parents ranks f → Represents (set parents loser winner) (set ranks winner r) (link f loser winner r)
  link_represents parents ranks rep =
      record {
        forest = link_well_formed;
        same_ranks = unfold link in ap (λ (l : List ℕ). set l winner r) rep.same_ranks;
        parents_length = length-set parents loser winner ∙ rep.parents_length;
        linked = λ v h. at v h (same_or_not v loser);
      }
    where
      fits : loser < length parents
      fits = omega (arith, rep.parents_length)

      not_winner : (v : ℕ) → rank f v < rank f (get_or parents v 0) → v ≢ winner
      not_winner v lt e = omega (arith, ap (rank f) (ap (λ (w : ℕ). get_or parents w 0) e ∙ root_is_own parents ranks f rep winner winner-below winner-root ∙ sym e))

      at : (v : ℕ) → v < component_limit → (v ≡ loser) ⊎ (v ≢ loser) → Linked (link f loser winner r) v (get_or (set parents loser winner) v 0)
      at v h (inl e) =
          rw (stored_same parents loser winner fits v e, e)
          record {
            below = winner-below;
            same = winner_stays ∙ sym loser_moves;
            own = λ p. absurd (apart (sym p));
            rises = inr (omega (arith, new_rank_winner, new_rank_other loser apart));
          }
      at v h (inr n) =
          let old : Linked f v (get_or parents v 0) = rep.linked v h in
          rw (stored_other parents loser winner fits v n)
          record {
            below = old.below;
            same = new_root (get_or parents v 0) old.below ∙ ap (redirect loser winner) old.same ∙ sym (new_root v h);
            own = λ p. new_root v h ∙ ap (redirect loser winner) (old.own p) ∙ redirect_miss loser winner v n;
            rises = ⊎_elim inl (λ lt. inr (omega (arith, new_rank_other v (not_winner v lt), new_rank-≥ (get_or parents v 0)))) old.rises;
          }

-- at first
pub singleton_root : (v : ℕ) → v < component_limit → root singletons v ≡ v
unfolding singletons
singleton_root v h = get_or_range component_limit v h

pub singletons_length : length singletons.roots ≡ component_limit
unfolding singletons
singletons_length = length_range component_limit

singleton_rank : (v : ℕ) → v < component_limit → rank singletons v ≡ 0
unfolding singletons
singleton_rank v h = get_or-replicate component_limit v 0 0 h

pub singletons_well_formed : WellFormed singletons
singletons_well_formed =
    record {
      roots_length = singletons_length;
      ranks_length = unfold singletons in length-replicate {A = ℕ} component_limit 0;
      rooted = λ v h. rw (singleton_root v h)
          record {
            below = h;
            fixed = singleton_root v h;
            rises = inl refl;
            heavy = λ e. rw (singleton_rank v h) (count_pos v singletons.roots v (omega (arith, singletons_length)) (singleton_root v h));
          };
    }

pub singletons_represents : Represents (range component_limit) (replicate component_limit 0) singletons
singletons_represents =
    record {
      forest = singletons_well_formed;
      same_ranks = unfold singletons in refl;
      parents_length = length_range component_limit;
      linked = λ v h. rw (get_or_range component_limit v h)
          record { below = h; same = refl; own = λ _. singleton_root v h; rises = inl refl };
    }
