-- The records of a list with one put in: those before it and after it are records of the old list.
--     at_before, at_after           the numbers
--     there, back                   records of any kind: each old one stands among the new, and each new one but that put in among the old
--     connection_there, ..back      grouping connections
--     port_there, ..back            port connections
-- Assumes nothing.
use mathlib.Core.Path.{◌≡◌, sym, ap, ◌∙◌}
use mathlib.Core.List.{List, ◌++◌}
use mathlib.Core.Logic.{◌⊎◌, inl, inr, ⊎_elim}
use Prim.Native.Nat.{ℕ, suc, ◌+◌, ◌-◌, ◌*◌, ◌≤◌, ◌<◌}
use native.Mathlib.Nat.{eq-or-lt_of_le}
use native.Mathlib.Omega.{arith}
use lib.ListN.{length, length-append, get_or-append}
use lib.Seq.{get_or-append-add}
use lib.IntN.{ℤ, pos, nat_abs}
use Rattle.tables.specs.Laws.{order?}
use Rattle.lists.specs.Limits.{connection_width, port_width}
use Rattle.lists.specs.Signed.{at}
use Rattle.lists.specs.Records.{natural_at, connection, port_connection, connection_count, port_count}
use Rattle.one_wire.specs.Added.{Added}

-- ---- numbers

module _ {width : ℕ} {old : List ℤ} {i : ℕ} {new : List ℤ} (added : Added width old i new) where
  pub longer : length new ≡ length old + width
  longer =
      let a = added.before in
      let b = added.after in
      omega (
        arith,
        ap length added.old_is ∙ length-append a b,
        ap length added.new_is ∙ length-append a (added.one ++ b),
        length-append added.one b,
        added.long,
      )

  pub room : i * width ≤ length old
  room = omega (arith, ap length added.old_is ∙ length-append added.before added.after, added.place)

  pub at_before : (k : ℕ) → k < i * width → at new k ≡ at old k
  at_before k h =
      let l : k < length added.before = omega (arith, added.place) in
      ap (λ (l : List ℤ). at l k) added.new_is ∙ get_or-append added.before (added.one ++ added.after) (pos 0) k l
      ∙ sym (get_or-append added.before added.after (pos 0) k l) ∙ sym (ap (λ (l : List ℤ). at l k) added.old_is)

  pub at_after : (k : ℕ) → i * width ≤ k → at new (k + width) ≡ at old k
  at_after k h =
      let a = added.before in
      let o = added.one in
      let b = added.after in
      let j : ℕ = k - length a in
      let here : k ≡ length a + j = omega (arith, added.place) in
      let there : k + width ≡ length a + (length o + j) = omega (arith, added.place, added.long) in
      ap (λ (l : List ℤ). at l (k + width)) added.new_is
      ∙ ap (at (a ++ (o ++ b))) there
      ∙ get_or-append-add a (o ++ b) (length o + j) (pos 0)
      ∙ get_or-append-add o b j (pos 0)
      ∙ sym (get_or-append-add a b j (pos 0))
      ∙ sym (ap (at (a ++ b)) here)
      ∙ sym (ap (λ (l : List ℤ). at l k) added.old_is)

  natural_before : (k : ℕ) → k < i * width → natural_at new k ≡ natural_at old k
  natural_before k h = ap nat_abs (at_before k h)

  natural_after : (j k : ℕ) → i * width ≤ k → j ≡ k + width → natural_at new j ≡ natural_at old k
  natural_after j k h e = ap (natural_at new) e ∙ ap nat_abs (at_after k h)

-- ---- records

-- m records of any kind, one more put in at place i: those before it are as they were, those behind it have moved on by one
module _ {A : Type 0} (old new : ℕ → A) (i m m' : ℕ) (more : m' ≡ suc m) (inside : i ≤ m)
    (before : (k : ℕ) → k < i → new k ≡ old k) (after : (k : ℕ) → i ≤ k → new (suc k) ≡ old k) where
  there : (k : ℕ) → k < m → (j : ℕ) × (j < m') × (new j ≡ old k)
  there k h =
      ⊎_elim
      (λ (le : i ≤ k). (suc k, omega (arith, more), after k le))
      (λ (lt : k < i). (k, omega (arith, more), before k lt))
      (order? i k)

  back : (j : ℕ) → j < m' → (j ≡ i) ⊎ ((k : ℕ) × (k < m) × (new j ≡ old k))
  back j h =
      ⊎_elim
      (λ (le : i ≤ j). ⊎_elim
      (λ (e : i ≡ j). inl (sym e))
      (λ (lt : i < j).
      let s : j ≡ suc (j - 1) = omega arith in
      inr (j - 1, omega (arith, more), ap new s ∙ after (j - 1) (omega arith)))
      (eq-or-lt_of_le le))
      (λ (lt : j < i). inr (j, omega (arith, inside), before j lt))
      (order? i j)

-- ---- grouping connections

module _ {ps : List ℤ} {i : ℕ} {ps' : List ℤ} (added : Added connection_width ps i ps') where
  connection_before : (k : ℕ) → k < i → connection ps' k ≡ connection ps k
  connection_before k h = λ d. record {
    source = natural_before added (k * 3) (omega arith) d;
    sink = natural_before added (k * 3 + 1) (omega arith) d;
    kind = natural_before added (k * 3 + 2) (omega arith) d;
  }

  connection_after : (k : ℕ) → i ≤ k → connection ps' (suc k) ≡ connection ps k
  connection_after k h = λ d. record {
    source = natural_after added (suc k * 3) (k * 3) (omega arith) (omega arith) d;
    sink = natural_after added (suc k * 3 + 1) (k * 3 + 1) (omega arith) (omega arith) d;
    kind = natural_after added (suc k * 3 + 2) (k * 3 + 2) (omega arith) (omega arith) d;
  }

  pub connection_in : i < connection_count ps'
  connection_in = omega (arith, longer added, room added)

  pub connection_there : (k : ℕ) → k < connection_count ps → (j : ℕ) × (j < connection_count ps') × (connection ps' j ≡ connection ps k)
  connection_there =
      there (connection ps) (connection ps') i (connection_count ps) (connection_count ps') (omega (arith, longer added)) (omega (arith, room added)) connection_before connection_after

  pub connection_back : (j : ℕ) → j < connection_count ps' → (j ≡ i) ⊎ ((k : ℕ) × (k < connection_count ps) × (connection ps' j ≡ connection ps k))
  connection_back =
      back (connection ps) (connection ps') i (connection_count ps) (connection_count ps') (omega (arith, longer added)) (omega (arith, room added)) connection_before connection_after

-- ---- port connections

module _ {ps : List ℤ} {i : ℕ} {ps' : List ℤ} (added : Added port_width ps i ps') where
  port_before : (k : ℕ) → k < i → port_connection ps' k ≡ port_connection ps k
  port_before k h = λ d. record {
    source = natural_before added (k * 5) (omega arith) d;
    source_port_of = natural_before added (k * 5 + 1) (omega arith) d;
    sink = natural_before added (k * 5 + 2) (omega arith) d;
    sink_port_of = natural_before added (k * 5 + 3) (omega arith) d;
    transfer = natural_before added (k * 5 + 4) (omega arith) d;
  }

  port_after : (k : ℕ) → i ≤ k → port_connection ps' (suc k) ≡ port_connection ps k
  port_after k h = λ d. record {
    source = natural_after added (suc k * 5) (k * 5) (omega arith) (omega arith) d;
    source_port_of = natural_after added (suc k * 5 + 1) (k * 5 + 1) (omega arith) (omega arith) d;
    sink = natural_after added (suc k * 5 + 2) (k * 5 + 2) (omega arith) (omega arith) d;
    sink_port_of = natural_after added (suc k * 5 + 3) (k * 5 + 3) (omega arith) (omega arith) d;
    transfer = natural_after added (suc k * 5 + 4) (k * 5 + 4) (omega arith) (omega arith) d;
  }

  pub port_in : i < port_count ps'
  port_in = omega (arith, longer added, room added)

  pub port_there : (k : ℕ) → k < port_count ps → (j : ℕ) × (j < port_count ps') × (port_connection ps' j ≡ port_connection ps k)
  port_there =
      there (port_connection ps) (port_connection ps') i (port_count ps) (port_count ps') (omega (arith, longer added)) (omega (arith, room added)) port_before port_after

  pub port_back : (j : ℕ) → j < port_count ps' → (j ≡ i) ⊎ ((k : ℕ) × (k < port_count ps) × (port_connection ps' j ≡ port_connection ps k))
  port_back =
      back (port_connection ps) (port_connection ps') i (port_count ps) (port_count ps') (omega (arith, longer added)) (omega (arith, room added)) port_before port_after
