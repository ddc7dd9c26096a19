-- The table in constants gives the ports in words: computed at all 13 × 7 × 7 × 2 combinations of kind, facing, support and conducts.
--     table_computed                              the computed test
--     every                                       what holds at all combinations, and of kinds above 12, holds of all numbers
--     no_ports                                    kinds above 12
--     all_listed                                  the ports of all numbers are in the table
-- Assumes nothing.
use mathlib.Core.Path.{◌≡◌, refl, sym}
use mathlib.Core.Bool.{Bool, true, false, ◌&&◌}
use mathlib.Core.List.{List, [], ◌∷◌}
use Prim.Native.Nat.{ℕ, ◌<◌}
use native.Mathlib.Omega.{arith}
use lib.Dec.{eqb, ltb}
use lib.ListN.{length, get_or, get_or-eq_default}
use borrow.Author.Tests.{ltb-true, ltb-false, eqb-true}
use Rattle.lists.specs.First.{all_from}
use Rattle.lists.proofs.Search.{never, both, all_at}
use Rattle.faces.specs.Ports.{Port, opposite, face_or, neither, North, Down, repeater_ports, ports_by_kind, ports_by_facing}
use Rattle.faces.specs.Rows.{rows_of}
use Rattle.faces.proofs.Faces.{each_face}
use Rattle.faces.proofs.Table.{Entry, entries, none, table_entry}

-- ---- the test

unfoldable pub is_same_row : List ℕ → List ℕ → Bool
is_same_row [] [] = true
is_same_row [] (y ∷ ys) = false
is_same_row (x ∷ xs) [] = false
is_same_row (x ∷ xs) (y ∷ ys) = eqb x y && is_same_row xs ys

unfoldable pub same_rows : List (List ℕ) → List (List ℕ) → Bool
same_rows [] [] = true
same_rows [] (y ∷ ys) = false
same_rows (x ∷ xs) [] = false
same_rows (x ∷ xs) (y ∷ ys) = is_same_row x y && same_rows xs ys

-- the entry has these ports
abbrev pub lists : Entry → List Port → Bool
lists e ports = eqb e.count (length ports) && same_rows e.rows (rows_of ports)

-- kinds 0 to 12, facings and supports 0 to 6, conducts 0 and 1
abbrev pub all_combinations : (ℕ → ℕ → ℕ → ℕ → Bool) → Bool
all_combinations test =
    all_from (λ kind. all_from (λ facing. all_from (λ support. all_from (λ conducts. test kind facing support conducts) 0 2) 0 7) 0 7) 0 13

pub table_computed : all_combinations (λ kind facing support conducts. lists (table_entry kind facing support conducts) (ports_by_facing kind facing support conducts)) ≡ true
unfolding all_from face_or opposite neither repeater_ports ports_by_facing table_entry is_same_row same_rows
table_computed = refl

-- ---- from the combinations to all numbers

each_truth : (test : Bool → Bool) → all_from (λ c. test (eqb c 1)) 0 2 ≡ true → (c : ℕ) → test (eqb c 1) ≡ true
unfolding all_from
each_truth test e c = go (eqb c 1)
  where
    go : (t : Bool) → test t ≡ true
    go false = (both (test false) (test true && true) e).0
    go true = (both (test true) true (both (test false) (test true && true) e).1).0

-- a kind above 12 is given apart
pub every : (test : ℕ → ℕ → ℕ → Bool → Bool)
    → all_combinations (λ kind facing support conducts. test kind (face_or North facing) (face_or Down support) (eqb conducts 1)) ≡ true
    → ((kind facing support : ℕ) (conducts : Bool) → 12 < kind → test kind facing support conducts ≡ true)
    → (kind facing support conducts : ℕ) → test kind (face_or North facing) (face_or Down support) (eqb conducts 1) ≡ true
every test e above kind facing support conducts = go (ltb kind 13) refl
  where
    go : (t : Bool) → ltb kind 13 ≡ t → test kind (face_or North facing) (face_or Down support) (eqb conducts 1) ≡ true
    go false h = above kind (face_or North facing) (face_or Down support) (eqb conducts 1) (ltb-false kind 13 h)
    go true h =
        let at-kind = all_at (λ k. all_from (λ f. all_from (λ s. all_from (λ c. test k (face_or North f) (face_or Down s) (eqb c 1)) 0 2) 0 7) 0 7) 0 13 e kind (omega arith) (ltb-true kind 13 h) in
        let at-facing = each_face (λ f. all_from (λ s. all_from (λ c. test kind f (face_or Down s) (eqb c 1)) 0 2) 0 7) North at-kind facing in
        let at-support = each_face (λ s. all_from (λ c. test kind (face_or North facing) s (eqb c 1)) 0 2) Down at-facing support in
        each_truth (test kind (face_or North facing) (face_or Down support)) at-support conducts

pub no_ports : (kind facing support : ℕ) (conducts : Bool) → 12 < kind → get_or (ports_by_kind facing support conducts) kind [] ≡ []
no_ports kind facing support conducts h = get_or-eq_default (ports_by_kind facing support conducts) [] h

no_entry : (kind facing support : ℕ) (conducts : Bool) → 12 < kind → get_or (entries facing support conducts) kind none ≡ none
no_entry kind facing support conducts h = get_or-eq_default (entries facing support conducts) none h

-- ---- the ports of all numbers are in the table

same_row : (xs ys : List ℕ) → is_same_row xs ys ≡ true → xs ≡ ys
unfolding is_same_row
same_row [] [] e = refl
same_row [] (y ∷ ys) e = never e
same_row (x ∷ xs) [] e = never e
same_row (x ∷ xs) (y ∷ ys) e = let b = both (eqb x y) (is_same_row xs ys) e in rw (eqb-true x y b.0, same_row xs ys b.1)

same_rows_lem : (xs ys : List (List ℕ)) → same_rows xs ys ≡ true → xs ≡ ys
unfolding same_rows
same_rows_lem [] [] e = refl
same_rows_lem [] (y ∷ ys) e = never e
same_rows_lem (x ∷ xs) [] e = never e
same_rows_lem (x ∷ xs) (y ∷ ys) e = let b = both (is_same_row x y) (same_rows xs ys) e in rw (same_row x y b.0, same_rows_lem xs ys b.1)

pub record Listed (e : Entry) (ports : List Port) : Type 0 where
  pub count : length ports ≡ e.count
  pub rows : rows_of ports ≡ e.rows

told : (e : Entry) (ports : List Port) → lists e ports ≡ true → Listed e ports
told e ports h =
    let b = both (eqb e.count (length ports)) (same_rows e.rows (rows_of ports)) h in
    record { count = sym (eqb-true _ _ b.0); rows = sym (same_rows_lem _ _ b.1) }

module _ (kind facing support conducts : ℕ) where
  pub all_listed : Listed (table_entry kind facing support conducts) (ports_by_facing kind facing support conducts)
  unfolding ports_by_facing table_entry is_same_row same_rows
  all_listed =
      told _ _
      (every (λ k f s c. lists (get_or (entries f s c) k none) (get_or (ports_by_kind f s c) k [])) table_computed
      (λ k f s c h. rw (no_entry k f s c h, no_ports k f s c h)) kind facing support conducts)
