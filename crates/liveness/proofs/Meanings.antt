-- What a walk visits, in chains of edges and of port connections.
--     walked_from      from the nodes that some numbers lead to
--     fed_walk         from the components of a test, in chains of an accepted scene's port connections
--     fed_from         the same of the set that an answer keeps
-- Assumes nothing.
use mathlib.Core.Path.{◌≡◌, refl, sym, ◌∙◌}
use mathlib.Core.Bool.{Bool, true, false, ◌&&◌}
use mathlib.Core.List.{List}
use mathlib.Core.Logic.{◌↔◌}
use Prim.Native.Nat.{ℕ, ◌<◌}
use lib.Dec.{eqb}
use lib.IntN.{ℤ}
use borrow.Author.Tests.{eqb-true, eq-eqb, lt-ltb}
use Rattle.sets.specs.Members.{member_of}
use Rattle.lists.specs.Records.{component_count}
use Rattle.lists.specs.First.{some, tabulate}
use Rattle.lists.specs.Ids as Ids
use Rattle.lists.proofs.Search.{both}
use Rattle.lists.proofs.Some.{some_at, some_found, and_true}
use Rattle.lists.proofs.Members.{member_below}
use Rattle.regions.specs.Graph.{Edges, Within, Reach, marked}
use Rattle.regions.specs.Kosaraju.{reached}
use Rattle.regions.proofs.Theorems.{reach_laws}
use Rattle.signals.specs.Signals.{signals}
use Rattle.signals.specs.Drive.{members_where}
use Rattle.signals.proofs.Tabulated.{tabulated_at}
use Rattle.liveness.specs.Sets.{SetWhere}
use Rattle.liveness.specs.Scene.{Scene}
use Rattle.liveness.specs.Meaning.{FedFrom}
use Rattle.liveness.proofs.Demands.{signals_within, chain_reach, reach_chain}

-- from f k for each k below m of which P holds
module _ (n : ℕ) (edge : Edges) (within : Within n edge) (m : ℕ) (P : ℕ → Bool) (f : ℕ → ℕ)
    (below : (k : ℕ) → k < m → P k ≡ true → f k < n) where
  pub walked_from : (b : ℕ)
      → (marked (reached n edge (tabulate (λ a. some (λ k. P k && eqb (f k) a) m) n)) b ≡ true) ↔ ((k : ℕ) × (k < m) × (P k ≡ true) × Reach edge (f k) b)
  walked_from b =
      let test : ℕ → ℕ → Bool = λ a k. P k && eqb (f k) a in
      let laws = (reach_laws n edge within (tabulate (λ a. some (test a) m) n)).exactly b in (
        λ e.
            let (a, h, s, path) = laws.0 e in
            let (k, l, t) = some_found (test a) m (sym (tabulated_at (λ a. some (test a) m) false n a h) ∙ s) in
            let (holds, is) = both (P k) (eqb (f k) a) t in
            (k, l, holds, rw (eqb-true (f k) a is) path),
        λ (k, l, holds, path).
            let h = below k l holds in
            let s = tabulated_at (λ a. some (test a) m) false n (f k) h
            ∙ some_at (test (f k)) m k l (and_true (P k) (eqb (f k) (f k)) holds (eq-eqb (f k) (f k) refl)) in
            laws.1 (f k, h, s, path),
      )

-- a set below n, asked at a number below n
pub asked_below : {n : ℕ} {P : ℕ → Bool} {words : List ℕ} → SetWhere n P words → (k : ℕ) → k < n → member_of words k ≡ P k
asked_below {n} {P} s k h = s.member k ∙ rw (lt-ltb k n h)

-- what a walk from the components of a test visits
pub fed_walk : (cs ps : List ℤ) → Scene cs ps → (P : ℕ → Bool)
    → FedFrom cs ps P (λ p. marked (reached (component_count cs) (signals cs ps) (members_where cs P)) (Ids.member_of cs p))
unfolding members_where
fed_walk cs ps scene P = record {
  exactly = λ p h.
      let walked = walked_from (component_count cs) (signals cs ps) (signals_within cs ps scene) (component_count cs) P (Ids.member_of cs)
      (λ q l _. member_below cs q l) (Ids.member_of cs p) in (
        λ e. let (q, l, holds, path) = walked.0 e in (q, l, holds, reach_chain cs ps scene path q p l h refl refl),
        λ (q, l, holds, chain). walked.1 (q, l, holds, chain_reach cs ps chain),
      );
}

-- the set of these
pub fed_from : (cs ps : List ℤ) → Scene cs ps → (P : ℕ → Bool) {words : List ℕ}
    → SetWhere (component_count cs) (marked (reached (component_count cs) (signals cs ps) (members_where cs P))) words
    → FedFrom cs ps P (λ p. member_of words (Ids.member_of cs p))
fed_from cs ps scene P s = record {
  exactly = λ p h. rw (asked_below s (Ids.member_of cs p) (member_below cs p h)) ((fed_walk cs ps scene P).exactly p h);
}
