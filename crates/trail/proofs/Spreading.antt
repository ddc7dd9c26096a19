-- The loop of `spread`: the neighbours of a row are noted, one after the other.
-- Assumes nothing.
use Prim.Native.Nat.{ℕ, suc, ◌+◌, ◌<◌}
use mathlib.Core.Path.{◌≡◌, refl, sym, ap, ◌∙◌, subst}
use mathlib.Core.Bool.{Bool, true}
use mathlib.Core.List.{List}
use mathlib.Core.Logic.{⊎_elim}
use native.Mathlib.Omega.{arith}
use lib.ListN.{length, set}
use lib.Seq.{get_or-set_same}
use Rattle.tables.specs.Laws.{same?}
use Rattle.regions.specs.Graph.{Edges, flip, at}
use Rattle.trail.specs.Waves.{Queue, level_at, Noted, Wave}
use Rattle.trail.proofs.Queued.{tail_room, keeps, queue_old, level_old}
use Rattle.trail.proofs.Row.{Neighbours}
use Rattle.trail.proofs.Spread.{wave_noted, wave_passed}

-- the arrays hold a wave whenever those at the start did, and the nodes passed have levels
pub record Spreading (n : ℕ) (back : Edges) (row levels₀ queue₀ : List ℕ) (head tail node level place : ℕ) (levels queue : List ℕ) (count : ℕ) : Type 0 where
  pub waves : (feeds : ℕ → Bool) → Wave n (flip back) feeds levels₀ queue₀ head tail → Wave n (flip back) feeds levels queue head count
  pub ahead : head < count
  pub node_is : at queue head ≡ node
  pub level_is : suc (level_at levels queue head) ≡ level
  pub given : (i : ℕ) → i < place → 0 < at levels (at row i)

module _ {n : ℕ} {back : Edges} {row levels₀ queue₀ : List ℕ} {head tail node level place : ℕ} {levels queue : List ℕ} {count : ℕ}
    (r : Neighbours n back node row) (feeds₀ : ℕ → Bool) (w₀ : Wave n (flip back) feeds₀ levels₀ queue₀ head tail)
    (s : Spreading n back row levels₀ queue₀ head tail node level place levels queue count) where
  q : Queue n levels queue count
  q = (s.waves feeds₀ w₀).holds

  module _ (lt : place < length row) where
    abbrev x : ℕ
    x = at row place

    inside : x < n
    inside = r.low place lt

    along : flip back x (at queue head) ≡ true
    along = subst (λ (y : ℕ). back y (at row place) ≡ true) (sym s.node_is) (r.held place lt)

    level_some : 0 < level
    level_some = let e = s.level_is in omega arith

    -- there is room for the node
    pub spreading_room : (at row place < length levels) × (at levels (at row place) ≡ 0 → count < length queue)
    spreading_room = (
      let e = q.levels_long in let i = inside in omega (arith, e, i),
      λ new. tail_room q (at row place) 1 inside new (omega arith),
    )

    module _ {levels' queue' : List ℕ} {count' : ℕ} (noted : Noted (at row place) level levels queue count levels' queue' count') where
      pub spreading_more : Spreading n back row levels₀ queue₀ head tail node level (place + 1) levels' queue' count'
      spreading_more = ⊎_elim old new noted.either
        where
          old : (0 < at levels x) × (levels' ≡ levels) × (queue' ≡ queue) × (count' ≡ count)
              → Spreading n back row levels₀ queue₀ head tail node level (place + 1) levels' queue' count'
          old o =
              rw (o.1, o.2, o.3)
              (record {
                waves = s.waves;
                ahead = s.ahead;
                node_is = s.node_is;
                level_is = s.level_is;
                given = λ i h. ⊎_elim (λ e. subst (λ (j : ℕ). 0 < at levels (at row j)) (sym e) o.0) (λ ne. s.given i (omega arith)) (same? i place);
              })

          own : at levels x ≡ 0 → 0 < at (set levels x level) x
          own none =
              let e = get_or-set_same levels x level 0 (let l = q.levels_long in let i = inside in omega (arith, l, i)) in
              let p = level_some in
              omega (arith, e, p)

          add : at levels x ≡ 0 → Spreading n back row levels₀ queue₀ head tail node level (place + 1) (set levels x level) (set queue count x) (suc count)
          add none = record {
            waves = λ feeds w. wave_noted (s.waves feeds w) s.ahead x inside none along (ap (set levels x) (sym s.level_is)) refl refl;
            ahead = let a = s.ahead in omega arith;
            node_is = queue_old q x level inside none level_some head s.ahead ∙ s.node_is;
            level_is = ap suc (level_old q x level inside none level_some head s.ahead) ∙ s.level_is;
            given = λ i h.
                ⊎_elim
                (λ e. subst (λ (j : ℕ). 0 < at (set levels x level) (at row j)) (sym e) (own none))
                (λ ne. let g = s.given i (omega arith) in let k = keeps q x level inside none level_some (at row i) g in omega (arith, g, k))
                (same? i place);
          }

          new : (at levels x ≡ 0) × (levels' ≡ set levels x level) × (queue' ≡ set queue count x) × (count' ≡ suc count)
              → Spreading n back row levels₀ queue₀ head tail node level (place + 1) levels' queue' count'
          new o = rw (o.1, o.2, o.3) (add o.0)

  -- all nodes of the row have levels
  pub spreading_end : place ≡ length row → (feeds : ℕ → Bool) → Wave n (flip back) feeds levels₀ queue₀ head tail
      → Wave n (flip back) feeds levels queue (suc head) count
  spreading_end all feeds w =
      wave_passed (s.waves feeds w) s.ahead (λ x e.
      let h = r.all x (subst (λ (y : ℕ). back y x ≡ true) s.node_is e) in
      subst (λ (y : ℕ). 0 < at levels y) h.2 (s.given h.0 (omega (arith, h.1, all))))
