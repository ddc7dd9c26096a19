-- Arrays whose front is lent.
--     front, front_long      what came back stands at the front
--     front_length           which is as long as what was lent
--     indices_same           indices below the length that was lent
--     gathered_same          tests gathered up to that length
--     indices_front, gathered_front      the indices at the front of an array
-- Assumes nothing.
use mathlib.Core.Path.{◌≡◌, sym, ap, subst, ◌∙◌}
use mathlib.Core.Bool.{Bool, ◌&&◌}
use mathlib.Core.List.{List, ◌++◌}
use Prim.Native.Nat.{ℕ, ◌≤◌, ◌<◌}
use native.Mathlib.Omega.{arith}
use lib.Dec.{eqb}
use lib.ListN.{length, take, length-append}
use lib.Seq.{take-append_seam, length-take-le}
use Rattle.std.proofs.lemmas.List.{get_or-take}
use Rattle.lists.specs.First.{is_found}
use Rattle.regions.specs.Graph.{marked}
use Rattle.signals.specs.Flags.{Gathered, Indices}
use Rattle.signals.proofs.Tabulated.{first_cong}

pub front : {A : Type 0} (n : ℕ) (out rest : List A) → length out ≡ n → take n (out ++ rest) ≡ out
front n out rest e = rw (← e) (take-append_seam out rest)

pub front_long : {A : Type 0} (n : ℕ) (out rest : List A) → length out ≡ n → n ≤ length (out ++ rest)
front_long n out rest e = rw (length-append) (omega arith)

pub front_length : {A : Type 0} (n : ℕ) (out rest : List A) → length out ≡ n → n ≡ length (take n (out ++ rest))
front_length n out rest e = sym (ap length (front n out rest e) ∙ e)

pub indices_same : {n m m' : ℕ} {index : List ℕ} → m ≡ m' → Indices n m index → Indices n m' index
indices_same e i = record { long = i.long; below = λ p h. omega (arith, e, i.below p h) }

pub gathered_same : {n n' : ℕ} {index : List ℕ} {tests out : List Bool} → n ≡ n' → Gathered n index tests out → Gathered n' index tests out
gathered_same {n} {n'} {index} {tests} {out} e g = subst (λ (k : ℕ). Gathered k index tests out) e g

pub indices_front : {n m : ℕ} (index : List ℕ) → Indices n m index → Indices (length (take n index)) m (take n index)
indices_front {n} index i = record {
  long = omega arith;
  below = λ p h.
      let less : p < n = omega (arith, length-take-le n index i.long) in
      rw (get_or-take n index p 0 less) (i.below p less);
}

pub gathered_front : {n : ℕ} (index : List ℕ) {tests out : List Bool} → n ≤ length index → Gathered (length (take n index)) (take n index) tests out
    → Gathered n index tests out
gathered_front {n} index {tests} h g = record {
  at = λ j l.
      g.at j l ∙ rw (length-take-le n index h)
      (ap is_found (first_cong _ _ 0 n (λ p a b. ap (λ (i : ℕ). marked tests p && eqb i j) (get_or-take n index p 0 (let m : p < n = omega arith in m)))));
}
