-- What is filled and listed from the answers of the entries is what the report says of the scene.
--     component_rows_lem, region_rows_lem     the rows of two blocks
--     ids_are                         the ids of a set's members are those of the components that pass its test
-- Assumes nothing.
use Rattle.std.specs.Prelude.{Option, Some, None}
use mathlib.Core.Path.{◌≡◌, refl, sym, ap, ◌∙◌}
use mathlib.Core.Bool.{Bool}
use mathlib.Core.List.{List, [], ◌∷◌}
use Prim.Native.Nat.{ℕ, zero, suc, ◌+◌, ◌≤◌, ◌<◌}
use native.Mathlib.Omega.{arith}
use lib.Dec.{eqb}
use lib.IntN.{ℤ}
use lib.ListN.{length, get_or, drop, get_or-append}
use borrow.Author.Tests.{eqb-true, eq-eqb, lt-ltb}
use Rattle.sets.specs.Members.{as_nat, member_of}
use Rattle.lists.specs.Records.{component_count}
use Rattle.lists.specs.First.{first_from}
use Rattle.lists.specs.Ids as ids
use Rattle.lists.specs.Ids.{IdTable, MemberId, first_repeated}
use Rattle.lists.specs.Slices.{laid}
use Rattle.lists.proofs.Search.{never, none_found, found_at}
use Rattle.lists.proofs.Table.{table_long}
use Rattle.lists.proofs.Members.{member_below, member_key, member_id_lem}
use Rattle.circuit.specs.Topology.{net_kinds, fragment_kinds, forest_of, nets_of, fragments_of}
use Rattle.circuit.proofs.Roots.{length_groups}
use Rattle.regions.specs.Graph.{marked}
use Rattle.liveness.specs.Sets.{SetWhere}
use Rattle.signals.specs.Regions.{region_of_place, regions_of, region_count, is_cyclic, holds_drive}
use Rattle.signals.specs.Drive.{drive, potential}
use Rattle.signals.proofs.Tabulated.{tab_length, tab_at}
use Rattle.blocks.specs.Blocks.{ids_from, ids_in}
use Rattle.blocks.proofs.IdText.{ids_snoc}
use Rattle.report.specs.Report.{all_rows, kept_list, component_rows, region_rows, id_at, member_id, ids_below, ids_where}
use Rattle.report.specs.Printing.{component_row_by, region_row_by}
use Rattle.report.proofs.RowText.{rows_same}

-- a number below the count is in the set where it passes the test
set_at : {n : ℕ} {P : ℕ → Bool} {words : List ℕ} → SetWhere n P words → (k : ℕ) → k < n → member_of words k ≡ P k
set_at {n} s k h = s.member k ∙ rw (lt-ltb k n h)

-- what stands at the front of a lent slice
laid_at : (rows old : List ℕ) (p : ℕ) → p < length rows → get_or (laid rows old) p 0 ≡ get_or rows p 0
laid_at rows old p h = get_or-append rows (drop (length rows) old) 0 p h

row_same : {id net net' fragment fragment' region region' : ℕ} {d d' q q' : Bool} → net ≡ net' → fragment ≡ fragment' → region ≡ region' → d ≡ d' → q ≡ q'
    → ◌≡◌ {A = List ℕ} (id ∷ net ∷ fragment ∷ region ∷ as_nat d ∷ as_nat q ∷ []) (id ∷ net' ∷ fragment' ∷ region' ∷ as_nat d' ∷ as_nat q' ∷ [])
row_same a b c d e = rw (a, b, c, d, e)

pair_same : {a a' b b' : Bool} → a ≡ a' → b ≡ b' → ◌≡◌ {A = List ℕ} (as_nat a ∷ as_nat b ∷ []) (as_nat a' ∷ as_nat b' ∷ [])
pair_same e f = rw (e, f)

module _ (rules : ℕ) (cs ps fs : List ℤ) where
  -- the entries laid their numbers at the front of lent slices, and answered two sets
  pub component_rows_lem : (nets fragments regions : List ℕ) {drives potentials : List ℕ}
      → SetWhere (component_count cs) (marked (drive cs (kept_list rules cs ps) fs)) drives
      → SetWhere (component_count cs) (marked (potential rules cs (kept_list rules cs ps) fs)) potentials
      → all_rows (component_row_by cs (laid (nets_of cs ps) nets) (laid (fragments_of cs ps) fragments) (laid (regions_of cs (kept_list rules cs ps)) regions) drives potentials)
      (component_count cs)
      ≡ component_rows rules cs ps fs (component_count cs)
  component_rows_lem nets fragments regions d q =
      let n = component_count cs in
      let region = region_of_place cs (kept_list rules cs ps) in
      rows_same _ _ n (λ p h.
      row_same
      (laid_at (nets_of cs ps) nets p (omega (arith, length_groups (forest_of cs ps net_kinds) n)))
      (laid_at (fragments_of cs ps) fragments p (omega (arith, length_groups (forest_of cs ps fragment_kinds) n)))
      (laid_at (regions_of cs (kept_list rules cs ps)) regions p (omega (arith, tab_length region n)) ∙ tab_at region n p h)
      (set_at d (ids.member_of cs p) (member_below cs p h))
      (set_at q (ids.member_of cs p) (member_below cs p h)))

  pub region_rows_lem : {cyclics drives : List ℕ} → SetWhere (region_count cs (kept_list rules cs ps)) (is_cyclic cs (kept_list rules cs ps)) cyclics
      → SetWhere (region_count cs (kept_list rules cs ps)) (holds_drive cs (kept_list rules cs ps) fs) drives
      → all_rows (region_row_by cyclics drives) (region_count cs (kept_list rules cs ps)) ≡ region_rows rules cs ps fs (region_count cs (kept_list rules cs ps))
  region_rows_lem c d = rows_same _ _ (region_count cs (kept_list rules cs ps)) (λ r h. pair_same (set_at c r h) (set_at d r h))

-- ---- the ids of a set's members, by the table of ids

-- the id of member m
member_is : {cs : List ℤ} {m r : ℕ} → MemberId cs m r → first_repeated cs ≡ None → r ≡ member_id cs m
unfolding member_id
member_is {cs} {m} {r} k once = go (first_from test 0 (component_count cs)) refl
  where
    test : ℕ → Bool
    test p = eqb (ids.member_of cs p) m

    go : (f : Option ℕ) → first_from test 0 (component_count cs) ≡ f → r ≡ id_at cs f
    go (Some p) e =
        let found = found_at test 0 (component_count cs) p e in
        member_id_lem k once p (omega (arith, found.below)) (eqb-true (ids.member_of cs p) m found.passes)
    go None e =
        never (sym (none_found test 0 (component_count cs) e k.place (omega arith) (omega (arith, k.stands.below)))
        ∙ eq-eqb (ids.member_of cs k.place) m (k.stands.member once))

module _ {cs : List ℤ} {keys words : List ℕ} {test : ℕ → Bool} (t : IdTable cs keys) (once : first_repeated cs ≡ None)
    (s : SetWhere (component_count cs) test words) where
  ids_below_lem : (n : ℕ) → n ≤ length keys → ids_from keys words 0 n ≡ ids_below cs test n
  unfolding ids_from ids_below
  ids_below_lem zero h = refl
  ids_below_lem (suc n) h =
      let kept = set_at s n (omega (arith, table_long t)) in
      let id = member_is (member_key t n (omega arith)) once in
      let zero-n : 0 + n ≡ n = omega arith in
      ids_snoc keys words 0 n ∙ rw (zero-n, ids_below_lem n (omega arith), kept, id)

  pub ids_are : ids_in keys words ≡ ids_where cs test
  ids_are = ids_below_lem (length keys) (omega arith) ∙ ap (ids_below cs test) (table_long t)
