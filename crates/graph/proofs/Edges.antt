-- `linked_is`: the graph of connections by their ends is a graph of tested connections, as `signals` of crate `signals` is, where a
-- connection that passes the test has its members as ends, and one that does not has an end that is no node.
-- Assumes nothing.
use mathlib.Core.Path.{◌≡◌, refl, sym, ◌∙◌, fun_ext}
use mathlib.Core.Bool.{Bool, true, false, ◌&&◌}
use mathlib.Core.List.{List}
use mathlib.Core.Logic.{◌⊎◌, ⊎_elim}
use Prim.Native.Nat.{ℕ, ◌≤◌, ◌<◌}
use native.Mathlib.Omega.{arith}
use lib.Dec.{ltb, eqb}
use lib.ListN.{length, get_or}
use borrow.Author.Tests.{eq-eqb, eqb-true, lt-ltb, ltb-true}
use Rattle.lists.specs.First.{some}
use Rattle.lists.proofs.Some.{some_at, some_found, and_true}
use Rattle.lists.proofs.Search.{both}
use Rattle.graph.specs.Linked.{linked}

-- the ends of the connections that pass the test are nodes
pub record Ended (n : ℕ) (test : ℕ → Bool) (from to : ℕ → ℕ) (sources sinks : List ℕ) : Type 0 where
  pub source : (k : ℕ) → k < length sources → test k ≡ true → (get_or sources k 0 ≡ from k) × (from k < n)
  pub sink : (k : ℕ) → k < length sources → test k ≡ true → (get_or sinks k 0 ≡ to k) × (to k < n)
  pub none : (k : ℕ) → k < length sources → test k ≡ false → (n ≤ get_or sources k 0) ⊎ (n ≤ get_or sinks k 0)

module _ {n : ℕ} {test : ℕ → Bool} {from to : ℕ → ℕ} (sources sinks : List ℕ) (e : Ended n test from to sources sinks) (a b : ℕ) where
  abbrev made : ℕ → Bool
  made k = test k && (eqb (from k) a && eqb (to k) b)

  abbrev ended : ℕ → Bool
  ended k = eqb (get_or sources k 0) a && eqb (get_or sinks k 0) b

  to_linked : some made (length sources) ≡ true → linked n sources sinks a b ≡ true
  unfolding linked
  to_linked h =
      let (k, l, t) = some_found made (length sources) h in
      let p = both (test k) _ t in
      let q = both (eqb (from k) a) _ p.1 in
      let (is, low) = e.source k l p.0 in
      let (at, below) = e.sink k l p.0 in
      let x = eqb-true (from k) a q.0 in
      let y = eqb-true (to k) b q.1 in
      and_true (ltb a n) _ (lt-ltb a n (omega arith))
      (and_true (ltb b n) _ (lt-ltb b n (omega arith))
      (some_at ended (length sources) k l
      (and_true (eqb (get_or sources k 0) a) _ (eq-eqb (get_or sources k 0) a (is ∙ x)) (eq-eqb (get_or sinks k 0) b (at ∙ y)))))

  to_made : linked n sources sinks a b ≡ true → some made (length sources) ≡ true
  unfolding linked
  to_made h =
      let p = both (ltb a n) _ h in
      let q = both (ltb b n) _ p.1 in
      let (k, l, t) = some_found ended (length sources) q.1 in
      let r = both (eqb (get_or sources k 0) a) _ t in
      let x = eqb-true (get_or sources k 0) a r.0 in
      let y = eqb-true (get_or sinks k 0) b r.1 in
      let la = ltb-true a n p.0 in
      let lb = ltb-true b n q.0 in
      go k l x y la lb (test k) refl
    where
      go : (k : ℕ) → k < length sources → get_or sources k 0 ≡ a → get_or sinks k 0 ≡ b → a < n → b < n → (t : Bool) → test k ≡ t → some made (length sources) ≡ true
      go k l x y la lb true s =
          some_at made (length sources) k l
          (and_true (test k) _ s
          (and_true (eqb (from k) a) _ (eq-eqb (from k) a (sym (e.source k l s).0 ∙ x)) (eq-eqb (to k) b (sym (e.sink k l s).0 ∙ y))))
      go k l x y la lb false s = ⊎_elim (λ w. absurd (omega arith)) (λ w. absurd (omega arith)) (e.none k l s)

  same : (x y : Bool) → (x ≡ true → y ≡ true) → (y ≡ true → x ≡ true) → x ≡ y
  same true y f g = sym (f refl)
  same false true f g = g refl
  same false false f g = refl

  linked_at : linked n sources sinks a b ≡ some made (length sources)
  linked_at = same (linked n sources sinks a b) (some made (length sources)) to_made to_linked

pub linked_is : {n : ℕ} {test : ℕ → Bool} {from to : ℕ → ℕ} (sources sinks : List ℕ) → Ended n test from to sources sinks
    → linked n sources sinks ≡ (λ a b. some (λ k. test k && (eqb (from k) a && eqb (to k) b)) (length sources))
linked_is sources sinks e = fun_ext (λ a. fun_ext (λ b. linked_at sources sinks e a b))
