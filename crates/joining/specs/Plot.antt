-- Two plots joined (R-9), as lists: what the sheets say, and what the joined sheet says.
--     JoinOf          what the join is
--     joined          the join: theorems `joined_is` (proofs/Accepts.antt), `join_unique` (proofs/Laws.antt)
--     join_refusal    14, and the checks of the joined lists
--     too_many        the only ones of these that can refuse (theorems `join_checks`, `join_refusal_lem`, proofs/Accepts.antt)
-- Assumes nothing: these are definitions.
use Rattle.std.specs.Prelude.{⊤, Option, Some, None, Result, Ok, ℕ, ◌≡◌, cond, List, ◌++◌, ltb, ℤ}
use Rattle.lists.specs.declared.Fault.{Fault}
use Rattle.lists.specs.declared.Section.{Section}
use Rattle.lists.specs.declared.Refusal.{Refusal}
use Rattle.lists.specs.Limits.{component_limit, connection_limit, frontier_limit, component_width, connection_width}
use Rattle.lists.specs.Records.{component_count, connection_count, frontier_count}
use Rattle.lists.specs.Order.{component_order, connection_order}
use Rattle.checks.specs.Refusals.{refuse, ◌or_else◌, sheet_refusal}
use Rattle.joining.specs.Merge.{Union, merged}
use Rattle.joining.specs.Conflict.{first_conflict}

-- the lists of a sheet: components, grouping connections, frontiers
pub record Plot : Type 0 where
  pub components : List ℤ
  pub connections : List ℤ
  pub frontiers : List ℤ

abbrev pub plot_of : List ℤ → List ℤ → List ℤ → Plot
plot_of cs ps fs = record { components = cs; connections = ps; frontiers = fs }

-- the checks of the lists of a sheet of these rules
abbrev pub refusal_of : ℕ → Plot → Result ⊤ Refusal
refusal_of rules p = sheet_refusal rules p.components p.connections p.frontiers

-- a plot whose sheet of these rules is valid
pub record Valid (rules : ℕ) (p : Plot) : Type 0 where
  pub accepted : refusal_of rules p ≡ Ok tt

-- ---- the join

-- "A component given in both with equal fields stands once. Connections are united, and frontiers are those of the first followed by those
-- of the second."
pub record JoinOf (p q whole : Plot) : Type 0 where
  pub components : Union component_order component_width p.components q.components whole.components
  pub connections : Union connection_order connection_width p.connections q.connections whole.connections
  pub frontiers : whole.frontiers ≡ p.frontiers ++ q.frontiers

abbrev pub joined : Plot → Plot → Plot
joined p q = record {
  components = merged component_order component_width p.components q.components;
  connections = merged connection_order connection_width p.connections q.connections;
  frontiers = p.frontiers ++ q.frontiers;
}

-- ---- its refusals, after those of the two sheets and 13

-- 14: one id has unequal fields
abbrev pub conflict_of : Plot → Plot → Result ⊤ Refusal
conflict_of p q = refuse Fault.UnequalFields (Some Section.Components) (first_conflict p.components q.components)

-- 14, and then the checks of the joined lists
abbrev pub join_refusal : ℕ → Plot → Plot → Result ⊤ Refusal
join_refusal rules p q = conflict_of p q or_else refusal_of rules (joined p q)

-- 1: more than the limit, which is the item
abbrev pub over : ℕ → ℕ → Option ℕ
over limit n = cond (ltb limit n) (Some limit) None

-- the joined lists are over their limits
abbrev pub too_many : Plot → Result ⊤ Refusal
too_many p =
    refuse Fault.ListLength (Some Section.Components) (over component_limit (component_count p.components))
    or_else refuse Fault.ListLength (Some Section.Connections) (over connection_limit (connection_count p.connections))
    or_else refuse Fault.ListLength (Some Section.Frontiers) (over frontier_limit (frontier_count p.frontiers))
