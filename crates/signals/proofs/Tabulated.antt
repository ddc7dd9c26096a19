-- The list of a function's values, and the keys of the port connections.
--     tabulated_length, tabulated_at, tab_length, tab_at      the list by its places; the same of numbers
--     listed_keys             the keys of all port connections
--     member_tab              a value is a member where the function has it at some place
--     first_cong              a search by a test that is the same
-- Assumes nothing.
use Rattle.std.specs.Prelude.{Option, Some, None}
use mathlib.Core.Path.{◌≡◌, refl, sym, ◌∙◌}
use mathlib.Core.Bool.{Bool}
use mathlib.Core.Logic.{⊎_elim}
use mathlib.Core.List.{List, [], ◌∷◌}
use Prim.Native.Nat.{ℕ, zero, suc, ◌+◌, ◌≤◌, ◌<◌}
use native.Mathlib.Nat.{eq-or-lt_of_le, le_of_suc-le-suc}
use native.Mathlib.Omega.{arith}
use lib.ListN.{length, get_or, length-append, get_or-append}
use lib.Seq.{get_or_at, ext_get_or}
use lib.Dec.{eqb}
use lib.IntN.{ℤ}
use borrow.Author.Tests.{eqb-true, eqb-false}
use Rattle.tables.specs.Order.{member}
use Rattle.tables.specs.Laws.{at_member, member_none}
use Rattle.lists.specs.Records.{port_count}
use Rattle.lists.specs.First.{first_from, is_found, some, tabulate}
use Rattle.lists.proofs.Search.{found_at, none_found}
use Rattle.signals.specs.Signals.{is_signal}
use Rattle.signals.specs.Keys.{signal_key, signal_keys}

pub first_cong : (P Q : ℕ → Bool) (k n : ℕ) → ((j : ℕ) → k ≤ j → j < k + n → P j ≡ Q j) → first_from P k n ≡ first_from Q k n
unfolding first_from
first_cong P Q k zero same = refl
first_cong P Q k (suc n) same =
    rw (same k (omega arith) (omega arith), first_cong P Q (suc k) n (λ j a b. same j (omega arith) (omega arith)))

module _ {A : Type 0} (f : ℕ → A) where
  pub tabulated_length : (n : ℕ) → length (tabulate f n) ≡ n
  unfolding tabulate
  tabulated_length zero = refl
  tabulated_length (suc n) = rw (length-append, tabulated_length n) (omega arith)

  pub tabulated_at : (d : A) (n k : ℕ) → k < n → get_or (tabulate f n) k d ≡ f k
  unfolding tabulate
  tabulated_at d zero k h = absurd (omega arith)
  tabulated_at d (suc n) k h =
      ⊎_elim
      (λ (same : k ≡ n). rw same (get_or_at (tabulate f n) (f n) [] d n (tabulated_length n)))
      (λ (less : k < n). get_or-append (tabulate f n) (f n ∷ []) d k (rw (tabulated_length n) less) ∙ tabulated_at d n k less)
      (eq-or-lt_of_le (le_of_suc-le-suc h))

module _ (f : ℕ → ℕ) where
  pub tab_length : (n : ℕ) → length (tabulate f n) ≡ n
  tab_length n = tabulated_length f n

  pub tab_at : (n k : ℕ) → k < n → get_or (tabulate f n) k 0 ≡ f k
  tab_at n k h = tabulated_at f 0 n k h

  pub member_tab : (n v : ℕ) → member v (tabulate f n) ≡ some (λ k. eqb (f k) v) n
  member_tab n v = go (first_from (λ k. eqb (f k) v) 0 n) refl
    where
      go : (x : Option ℕ) → first_from (λ k. eqb (f k) v) 0 n ≡ x → member v (tabulate f n) ≡ is_found x
      go (Some p) e =
          let p-found = found_at (λ k. eqb (f k) v) 0 n p e in
          let h : p < n = omega (arith, p-found.below) in
          at_member v (tabulate f n) p (rw (tab_length n) h) (tab_at n p h ∙ eqb-true (f p) v p-found.passes)
      go None e =
          member_none v (tabulate f n) (λ k h q.
          let l : k < n = rw (tab_length n) at h in
          eqb-false (f k) v (none_found (λ k. eqb (f k) v) 0 n e k (omega arith) (omega arith)) (sym (tab_at n k l) ∙ q))

pub listed_keys : (ps : List ℤ) (firsts seconds : List ℕ) (nowhere : ℕ) {keys : List ℕ} → length keys ≡ port_count ps
    → ((k : ℕ) → k < port_count ps → get_or keys k 0 ≡ signal_key (is_signal ps k) (get_or firsts k 0) (get_or seconds k 0) nowhere)
    → keys ≡ signal_keys ps firsts seconds nowhere
listed_keys ps firsts seconds nowhere {keys} long each =
    let n = port_count ps in
    let key : ℕ → ℕ = λ k. signal_key (is_signal ps k) (get_or firsts k 0) (get_or seconds k 0) nowhere in
    ext_get_or 0 keys (tabulate key n) (long ∙ sym (tab_length key n)) (λ k h. each k (omega arith) ∙ sym (tab_at key n k (omega arith)))
