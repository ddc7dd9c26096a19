-- The entries for a host that calls through the C convention (document 01, "The scene taken in"): what each answers and leaves, by the
-- definitions of the entry on lists of numbers.
--     groups_refusal      the refusal of the grouping entry, number 1 by bytes, and number 11 before it
--     groups_number       its answer as one number
--     GroupsByBytes      what `dustroute_groups` answers and leaves
-- Assumes nothing: these are definitions.
use Rattle.lists.specs.declared.Fault.{Fault}
use Rattle.lists.specs.declared.Section.{Section}
use Rattle.std.specs.Prelude.{Some, None}
use Rattle.std.specs.Prelude.{⊤, Result, Ok, Err}
use Rattle.lists.specs.declared.Refusal.{Refusal}
use Rattle.std.specs.Prelude.{ℕ, ◌+◌, ◌*◌, ◌/◌, ◌≡◌, List, length, ℤ}
use Rattle.lists.specs.Limits.{component_limit, connection_limit, component_width, connection_width}
use Rattle.checks.specs.Refusals.{refuse, ◌or_else◌, not_whole, strange_rules, grouping_refusal, packed}
use Rattle.lists.specs.Slices.{left_of}
use Rattle.circuit.specs.Topology.{nets_of, fragments_of, net_count, fragment_count}
use Rattle.encoding.specs.Bytes.{number_bytes, numbers, bytes_of}

-- 11 and 1: the rules are known, and the bytes of both lists are whole records within their limits
abbrev pub groups_whole : ℕ → List ℕ → List ℕ → Result ⊤ Refusal
groups_whole rules components connections =
    refuse Fault.UnknownRules None (strange_rules rules)
    or_else refuse Fault.ListLength (Some Section.Components) (not_whole (number_bytes * component_width) component_limit (length components))
    or_else refuse Fault.ListLength (Some Section.Connections) (not_whole (number_bytes * connection_width) connection_limit (length connections))

-- given how many bytes each lent slice has; what is left of one past its whole numbers is no place
abbrev pub groups_refusal : ℕ → List ℕ → List ℕ → ℕ → ℕ → Result ⊤ Refusal
groups_refusal rules components connections nets fragments =
    groups_whole rules components connections
    or_else grouping_refusal rules (numbers components) (numbers connections) (nets / number_bytes) (fragments / number_bytes)

-- a refusal's number, list and item, or 0 in the sixteen lowest bits and then the counts of nets and fragments, sixteen bits each
abbrev pub groups_number : Result ⊤ Refusal → ℕ → ℕ → ℕ
groups_number (Ok tt) nets fragments = 65536 * nets + 4294967296 * fragments
groups_number (Err refusal) nets fragments = packed (Err refusal)

-- the groups of components cs and connections ps, unless they are refused, as bytes at the front of the two lent slices
pub record GroupsLaid (refusal : Result ⊤ Refusal) (cs ps : List ℤ) (nets nets' fragments fragments' : List ℕ) (r : ℕ) : Type 0 where
  pub answer : r ≡ groups_number refusal (net_count cs ps) (fragment_count cs ps)
  pub nets_left : nets' ≡ left_of refusal (bytes_of (nets_of cs ps)) nets
  pub fragments_left : fragments' ≡ left_of refusal (bytes_of (fragments_of cs ps)) fragments

-- from a rules number, the bytes of components and connections and two lent slices
abbrev pub GroupsByBytes : ℕ → List ℕ → List ℕ → List ℕ → List ℕ → List ℕ → List ℕ → ℕ → Type 0
GroupsByBytes rules components connections nets nets' fragments fragments' r =
    GroupsLaid (groups_refusal rules components connections (length nets) (length fragments)) (numbers components) (numbers connections) nets nets' fragments fragments' r
