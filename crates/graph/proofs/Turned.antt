-- The graph of connections with their ends exchanged is the graph turned around.
-- Assumes nothing.
use mathlib.Core.Path.{◌≡◌, refl, sym, ap, ap₂, ◌∙◌, fun_ext}
use mathlib.Core.Bool.{Bool, true, false, ◌&&◌}
use mathlib.Core.List.{List}
use Prim.Native.Nat.{ℕ}
use lib.Dec.{ltb, eqb}
use lib.ListN.{length, get_or}
use Rattle.lists.specs.First.{some}
use Rattle.regions.specs.Graph.{flip}
use Rattle.graph.specs.Linked.{linked}

and_comm : (p q : Bool) → (p && q) ≡ (q && p)
and_comm true true = refl
and_comm true false = refl
and_comm false true = refl
and_comm false false = refl

and_swap : (p q r : Bool) → (p && (q && r)) ≡ (q && (p && r))
and_swap true q r = refl
and_swap false true r = refl
and_swap false false r = refl

module _ (n : ℕ) (sources sinks : List ℕ) (long : length sources ≡ length sinks) where
  some_turned : (a b : ℕ) → some (λ k. eqb (get_or sinks k 0) a && eqb (get_or sources k 0) b) (length sinks)
      ≡ some (λ k. eqb (get_or sources k 0) b && eqb (get_or sinks k 0) a) (length sources)
  some_turned a b = ap₂ some (fun_ext (λ k. and_comm (eqb (get_or sinks k 0) a) (eqb (get_or sources k 0) b))) (sym long)

  pub linked_turned : linked n sinks sources ≡ flip (linked n sources sinks)
  unfolding linked
  linked_turned = fun_ext (λ a. fun_ext (λ b.
      ap (λ (t : Bool). ltb a n && (ltb b n && t)) (some_turned a b)
      ∙ and_swap (ltb a n) (ltb b n) (some (λ k. eqb (get_or sources k 0) b && eqb (get_or sinks k 0) a) (length sources))))
