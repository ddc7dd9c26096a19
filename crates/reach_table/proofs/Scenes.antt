-- The reach table of an accepted scene: list places and members are the same graph, so its rows are equal exactly where the quick walk has
-- one region.
--     listed_within, listed_at       the graph on list places
--     listed_reach                   who reaches whom in it
--     scene_laws                     what specs/Scene.antt states
-- Assumes nothing.
use mathlib.Core.Path.{◌≡◌, refl, sym, ap₂, ◌∙◌}
use mathlib.Core.Bool.{true, ◌&&◌}
use mathlib.Core.List.{List}
use mathlib.Core.Logic.{◌↔◌}
use Prim.Native.Nat.{ℕ, ◌<◌}
use lib.Dec.{ltb}
use lib.IntN.{ℤ}
use borrow.Author.Tests.{ltb-true, lt-ltb}
use Rattle.lists.specs.Ids.{member_of}
use Rattle.lists.specs.Records.{component_count}
use Rattle.lists.proofs.Members.{member_below, member_inj}
use Rattle.lists.proofs.Search.{both}
use Rattle.regions.specs.Graph.{Within, Reach, here, step, Both}
use Rattle.regions.proofs.Laws.Walks.{Reach·same}
use Rattle.signals.specs.Signals.{signals}
use Rattle.signals.proofs.Within.{scene_regions}
use Rattle.liveness.specs.Scene.{Scene}
use Rattle.liveness.proofs.Demands.{member_stands, signals_within, chain_reach, reach_chain}
use Rattle.reach_table.specs.Table.{is_same_row}
use Rattle.reach_table.specs.Scene.{listed, reaches, SceneLaws}
use Rattle.reach_table.proofs.Theorems.{table_laws}

module _ (cs ps : List ℤ) (scene : Scene cs ps) where
  listed_parts : (a b : ℕ) → listed cs ps a b ≡ true → (a < component_count cs) × (b < component_count cs) × (signals cs ps (member_of cs a) (member_of cs b) ≡ true)
  listed_parts a b h =
      let p = both (ltb a (component_count cs)) (ltb b (component_count cs) && signals cs ps (member_of cs a) (member_of cs b)) h in
      let q = both (ltb b (component_count cs)) (signals cs ps (member_of cs a) (member_of cs b)) p.1 in
      (ltb-true a (component_count cs) p.0, ltb-true b (component_count cs) q.0, q.1)

  pub listed_within : Within (component_count cs) (listed cs ps)
  listed_within a b h = let p = listed_parts a b h in (p.0, p.1)

  pub listed_at : (a b : ℕ) → a < component_count cs → b < component_count cs → listed cs ps a b ≡ signals cs ps (member_of cs a) (member_of cs b)
  listed_at a b ha hb = rw (lt-ltb a (component_count cs) ha, lt-ltb b (component_count cs) hb) refl

  to_members : {a b : ℕ} → Reach (listed cs ps) a b → Reach (signals cs ps) (member_of cs a) (member_of cs b)
  to_members here = here
  to_members (step {a} {b} e p) = step (listed_parts a b e).2 (to_members p)

  to_places : {x y : ℕ} → Reach (signals cs ps) x y → (a b : ℕ) → a < component_count cs → b < component_count cs → member_of cs a ≡ x → member_of cs b ≡ y
      → Reach (listed cs ps) a b
  to_places here a b ha hb p q = Reach·same (member_inj cs scene.distinct a b ha hb (p ∙ sym q))
  to_places (step {a = x} {b = z} e r) a b ha hb p q =
      let c = member_stands cs scene.distinct scene.components z (signals_within cs ps scene x z e).1 in
      step (listed_at a c.0 ha c.1 ∙ ap₂ (signals cs ps) p c.2 ∙ e) (to_places r c.0 b c.1 hb c.2 q)

  pub listed_reach : (a b : ℕ) → a < component_count cs → b < component_count cs → Reach (listed cs ps) a b ↔ Reach (signals cs ps) (member_of cs a) (member_of cs b)
  listed_reach a b ha hb = (to_members, λ r. to_places r a b ha hb refl refl)

  pub both_reach : (a b : ℕ) → a < component_count cs → b < component_count cs
      → (is_same_row (component_count cs) (reaches cs ps) a b ≡ true) ↔ Both (signals cs ps) (member_of cs a) (member_of cs b)
  both_reach a b ha hb =
      let r = (table_laws (component_count cs) (listed cs ps) listed_within).rows a b ha hb in
      let there = listed_reach a b ha hb in
      let back = listed_reach b a hb ha in
      (λ e. let p = r.0 e in (there.0 p.0, back.0 p.1), λ p. r.1 (there.1 p.0, back.1 p.1))

  pub scene_laws : SceneLaws cs ps
  scene_laws =
      record {
        chains = λ v w hv hw.
            let r = (table_laws (component_count cs) (listed cs ps) listed_within).reaches v w in
            let l = listed_reach v w hv hw in (
              λ e. reach_chain cs ps scene (l.0 (r.0 e)) v w hv hw refl refl,
              λ c. r.1 (l.1 (chain_reach cs ps c)),
            );
        classes = λ v w hv hw.
            let r = both_reach v w hv hw in
            let s = (scene_regions cs ps scene.ends).same (member_of cs v) (member_of cs w) (member_below cs v hv) (member_below cs w hw) in
            (λ e. s.1 (r.0 e), λ e. r.1 (s.0 e));
      }
