-- Ids: the list place of an id, ids used twice (refusal 5), endpoints of port connections (refusal 7), the table of ids, and members.
-- Assumes nothing: these are definitions.
use Rattle.std.specs.Prelude.{Option, None}
use Rattle.std.specs.Prelude.{ℕ, zero, suc, ◌+◌, ◌/◌, ◌≤◌, ◌<◌, length, get_or, ◌≡◌, Bool, not, ◌&&◌, List, [], ◌∷◌, ◌++◌, eqb, ltb, ℤ}
use Rattle.tables.specs.Order.{Sorted}
use Rattle.tables.specs.Pairs.{pair, span}
use Rattle.sets.specs.Members.{count_below}
use Rattle.lists.specs.Records.{component, port_connection, component_count, port_count}
use Rattle.lists.specs.First.{first_from, is_found}

-- the first place below n whose component has the id
unfoldable pub place_below : List ℤ → ℕ → ℕ → Option ℕ
place_below cs n id = first_from (λ k. eqb (component cs k).id id) 0 n

-- the list place of an id
abbrev pub place_of : List ℤ → ℕ → Option ℕ
place_of cs id = place_below cs (component_count cs) id

abbrev pub has_component : List ℤ → ℕ → Bool
has_component cs id = is_found (place_of cs id)

-- 5: the id of component k is already used by an earlier component
abbrev pub used_earlier : List ℤ → ℕ → Bool
used_earlier cs k = is_found (place_below cs k (component cs k).id)

unfoldable pub first_repeated : List ℤ → Option ℕ
first_repeated cs = first_from (used_earlier cs) 0 (component_count cs)

-- 7: an endpoint of a non-support port connection is no component. Transfer 6 is StructuralSupport.
abbrev pub support_transfer : ℕ
support_transfer = 6

abbrev pub end_missing : List ℤ → List ℤ → ℕ → Bool
end_missing cs ps k =
    not (eqb (port_connection ps k).transfer support_transfer)
    && not (has_component cs (port_connection ps k).source && has_component cs (port_connection ps k).sink)

unfoldable pub first_end_missing : List ℤ → List ℤ → Option ℕ
first_end_missing cs ps = first_from (end_missing cs ps) 0 (port_count ps)

-- ---- the table of ids

-- a component's key: the pair of its id and its list place
abbrev pub id_key : List ℤ → ℕ → ℕ
id_key cs k = pair (component cs k).id k

-- the keys of the places below n
unfoldable pub keys_up_to : List ℤ → ℕ → List ℕ
keys_up_to cs zero = []
keys_up_to cs (suc n) = keys_up_to cs n ++ (id_key cs n ∷ [])

abbrev pub id_keys : List ℤ → List ℕ
id_keys cs = keys_up_to cs (component_count cs)

-- the keys of all components, rising
pub record IdTable (cs : List ℤ) (keys : List ℕ) : Type 0 where
  pub few : component_count cs ≤ span
  pub sorted : Sorted (id_keys cs) keys

-- the keys are the table of ids of some components
abbrev pub IsIdTable : List ℕ → Type 0
IsIdTable keys = (cs : List ℤ) × IdTable cs keys

-- no two neighbours in the table have one id
pub record Unrepeated (keys : List ℕ) : Type 0 where
  pub at : (i : ℕ) → i + 1 < length keys → get_or keys i 0 / span ≡ get_or keys (i + 1) 0 / span → ⊥

-- ---- members of a set of components: member k stands for the component with the k-th smallest id, k from 0

-- how many components have an id below `id`
unfoldable pub smaller_ids : List ℤ → ℕ → ℕ
smaller_ids cs id = count_below (λ k. ltb (component cs k).id id) (component_count cs)

-- the member that stands for component k
abbrev pub member_of : List ℤ → ℕ → ℕ
member_of cs k = smaller_ids cs (component cs k).id

-- r is the list place of the component that member k stands for, where no id is used twice
pub record MemberPlace (cs : List ℤ) (k r : ℕ) : Type 0 where
  pub below : r < component_count cs
  pub member : first_repeated cs ≡ None → member_of cs r ≡ k

-- r is its id
pub record MemberId (cs : List ℤ) (k r : ℕ) : Type 0 where
  pub place : ℕ
  pub stands : MemberPlace cs k place
  pub id : r ≡ (component cs place).id
