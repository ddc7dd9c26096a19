-- Nets and fragments of a scene (document 01, "circuit.rs: groups").
--     joins           which list places the connections join, in order
--     forest_of        the forest that they leave, from single places
--     nets_of, ..      the number of each component's net and fragment, in list order, and how many there are
--     Grouped         what `from_parts` answers and leaves
--     shares_member    which nets share a member with a fragment
-- Assumes nothing: these are definitions.
use Rattle.std.specs.Prelude.{⊤, Option, Some, None, Result, Ok, Err}
use Rattle.lists.specs.declared.Refusal.{Refusal}
use Rattle.std.specs.Prelude.{ℕ, zero, suc, min, ◌≡◌, Bool, true, false, ◌&&◌, List, [], ◌∷◌, ◌++◌, eqb, leb, length, get_or, ℤ}
use Rattle.lists.specs.Records.{connection, component_count, connection_count}
use Rattle.lists.specs.First.{first_from, is_found}
use Rattle.lists.specs.Ids.{place_of}
use Rattle.checks.specs.Refusals.{grouping_refusal, refusal_numbers, numbers_by}
use Rattle.lists.specs.Slices.{laid, left_of}
use Rattle.circuit.specs.Forest.{Forest, singletons, unite_all}
use Rattle.circuit.specs.Groups.{roots_below, groups_of}
use Rattle.circuit.specs.declared.Counts.{Counts}

-- nets use kinds 0 to 4, fragments 0 to 8
abbrev pub net_kinds : ℕ
net_kinds = 4

abbrev pub fragment_kinds : ℕ
fragment_kinds = 8

-- what one connection joins: nothing where its kind does not count or an endpoint is no component
abbrev pub join_of : Bool → Option ℕ → Option ℕ → List (ℕ × ℕ)
join_of true (Some source) (Some sink) = (source, sink) ∷ []
join_of true (Some source) None = []
join_of true None sink = []
join_of false source sink = []

-- what the first m connections join, those of kinds 0 to `top`, in order
unfoldable pub joins : List ℤ → List ℤ → ℕ → ℕ → List (ℕ × ℕ)
joins cs ps top zero = []
joins cs ps top (suc k) =
    joins cs ps top k
    ++ join_of (leb (connection ps k).kind top) (place_of cs (connection ps k).source) (place_of cs (connection ps k).sink)

abbrev pub joins_of : List ℤ → List ℤ → ℕ → List (ℕ × ℕ)
joins_of cs ps top = joins cs ps top (connection_count ps)

-- each kind of group starts from single places
abbrev pub forest_of : List ℤ → List ℤ → ℕ → Forest
forest_of cs ps top = unite_all singletons (joins_of cs ps top)

abbrev pub nets_of : List ℤ → List ℤ → List ℕ
nets_of cs ps = groups_of (forest_of cs ps net_kinds) (component_count cs)

abbrev pub fragments_of : List ℤ → List ℤ → List ℕ
fragments_of cs ps = groups_of (forest_of cs ps fragment_kinds) (component_count cs)

abbrev pub net_count : List ℤ → List ℤ → ℕ
net_count cs ps = roots_below (forest_of cs ps net_kinds) (component_count cs)

abbrev pub fragment_count : List ℤ → List ℤ → ℕ
fragment_count cs ps = roots_below (forest_of cs ps fragment_kinds) (component_count cs)

-- ---- the entry

-- the refusal, or the counts of an accepted scene
abbrev pub answer_of : Result ⊤ Refusal → ℕ → ℕ → Result Counts Refusal
answer_of (Ok tt) nets fragments = Ok (record { nets = nets; fragments = fragments })
answer_of (Err refusal) nets fragments = Err refusal

-- the paper's numbers of each case: 0 and the two counts, or those of the refusal
abbrev pub numbers_of : Result Counts Refusal → List ℕ
numbers_of (Ok counts) = 0 ∷ counts.nets ∷ counts.fragments ∷ []
numbers_of (Err refusal) = refusal_numbers refusal

-- the groups of an accepted scene
pub record GroupedBy (cs ps : List ℤ) (nets nets' fragments fragments' : List ℕ) (r : Counts) : Type 0 where
  pub nets_laid : nets' ≡ laid (nets_of cs ps) nets
  pub fragments_laid : fragments' ≡ laid (fragments_of cs ps) fragments
  pub net_count_lem : r.nets ≡ net_count cs ps
  pub fragment_count_lem : r.fragments ≡ fragment_count cs ps

-- from a rules number, components cs, grouping connections ps and two lent slices
pub record Grouped (rules : ℕ) (cs ps : List ℤ) (nets nets' fragments fragments' : List ℕ) (r : Result Counts Refusal) : Type 0 where
  pub answer : r ≡ answer_of (grouping_refusal rules cs ps (length nets) (length fragments)) (net_count cs ps) (fragment_count cs ps)
  pub numbers : numbers_of r ≡ numbers_by (grouping_refusal rules cs ps (length nets) (length fragments)) (net_count cs ps ∷ fragment_count cs ps ∷ [])
  pub nets_left : nets' ≡ left_of (grouping_refusal rules cs ps (length nets) (length fragments)) (nets_of cs ps) nets
  pub fragments_left : fragments' ≡ left_of (grouping_refusal rules cs ps (length nets) (length fragments)) (fragments_of cs ps) fragments

-- ---- a fragment's nets

-- some component of the fragment has the net
unfoldable pub shares_member : List ℕ → List ℕ → ℕ → ℕ → Bool
shares_member nets fragments fragment net =
    is_found (first_from (λ v. eqb (get_or fragments v 0) fragment && eqb (get_or nets v 0) net) 0 (min (length nets) (length fragments)))
