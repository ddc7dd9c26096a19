-- What an accepted check says.
--     refuse_none                          no fault was found
--     whole_few, whole_all                 the list is within its limit and of whole records
--     lengths_accept, ranges_accept        the lists are within their limits and ranges
--     scene_accept                         11 and 1 to 5 accept
--     settled                              4 and 5 accept: each id's list place is settled
--     scene_parts                          their chain, in the parts in which the code makes it
--     grouping_parts, liveness_parts       the chains of the entries
-- Assumes nothing.
use Rattle.lists.specs.declared.Fault.{Fault}
use Rattle.lists.specs.declared.Section.{Section}
use Rattle.std.specs.Prelude.{⊤, Option, Some, None, Result, Ok}
use Rattle.lists.specs.declared.Refusal.{Refusal}
use mathlib.Core.Path.{◌≡◌, refl, sym, ◌∙◌}
use mathlib.Core.Bool.{Bool, true, false, not, cond, ◌||◌}
use mathlib.Core.List.{List}
use Prim.Native.Nat.{ℕ, ◌/◌, ◌%◌, ◌≤◌, min}
use native.Mathlib.Omega.{arith}
use lib.Dec.{ltb, eqb}
use lib.ListN.{length}
use lib.IntN.{ℤ}
use borrow.Author.Tests.{ltb-false, eqb-true, not-false}
use Rattle.lists.specs.Limits.{component_limit, connection_limit, frontier_limit, component_width, connection_width, port_width, frontier_width}
use Rattle.lists.specs.Ranges.{first_out_of_range, component_low, component_high, connection_low, connection_high, port_low, port_high, frontier_low, frontier_high}
use Rattle.lists.specs.Order.{first_not_ascending, component_order, connection_order}
use Rattle.lists.specs.Ids.{first_repeated, first_end_missing}
use Rattle.lists.specs.Rules.{known_rules}
use Rattle.checks.specs.Refusals.{refuse, ◌or_else◌, not_whole, too_short, strange_rules, scene_lists, grouping_lists, liveness_lists}
use Rattle.checks.specs.Checks.{lengths_of, ranges_of, order_of, Ordered}
use Rattle.lists.specs.Places.{PlacesOfIds}
use Rattle.lists.proofs.Places.{settled_places}
use Rattle.checks.proofs.Chain.{both_accept, or_else_assoc}
use Rattle.lists.specs.Within.{Components}
use Rattle.lists.proofs.Fields.{within}

pub refuse_none : (fault : Fault) (list : Option Section) (f : Option ℕ) → refuse fault list f ≡ Ok tt → f ≡ None
refuse_none fault list (Some k) e = let z : ◌≡◌ {A = ℕ} 0 1 = cc in absurd (omega arith)
refuse_none fault list None e = refl

-- ---- 1

at_or_none : (t : Bool) (k : ℕ) → cond t (Some k) None ≡ None → t ≡ false
at_or_none true k e = let z : ◌≡◌ {A = ℕ} 0 1 = cc in absurd (omega arith)
at_or_none false k e = refl

or_false : (s t : Bool) → (s || t) ≡ false → (s ≡ false) × (t ≡ false)
or_false true t e = let z : ◌≡◌ {A = ℕ} 0 1 = cc in absurd (omega arith)
or_false false t e = (refl, e)

module _ (width limit n : ℕ) (e : not_whole width limit n ≡ None) where
  tests : (ltb limit (n / width) ≡ false) × (not (eqb (n % width) 0) ≡ false)
  unfolding not_whole
  tests = or_false _ _ (at_or_none (ltb limit (n / width) || not (eqb (n % width) 0)) (min limit (n / width)) e)

  pub whole_few : n / width ≤ limit
  whole_few = ltb-false limit (n / width) tests.0

  pub whole_all : n % width ≡ 0
  whole_all = eqb-true (n % width) 0 (not-false (eqb (n % width) 0) tests.1)

-- ---- 2

pub short_none : (enough : Bool) → too_short enough ≡ None → enough ≡ true
short_none true e = refl
short_none false e = let z : ◌≡◌ {A = ℕ} 0 1 = cc in absurd (omega arith)

-- ---- 11

pub known_none : (rules : ℕ) → strange_rules rules ≡ None → known_rules rules ≡ true
known_none rules e = known (known_rules rules) e
  where
    known : (b : Bool) → ◌≡◌ {A = Option ℕ} (cond b None (Some 0)) None → b ≡ true
    known true e = refl
    known false e = let z : ◌≡◌ {A = ℕ} 0 1 = cc in absurd (omega arith)

-- the rules, and the lengths of three lists, the second of records of a width
pub record Lengths (rules : ℕ) (components width connections frontiers : ℕ) (enough : Bool) : Type 0 where
  pub known : known_rules rules ≡ true
  pub components_few : components / component_width ≤ component_limit
  pub components_whole : components % component_width ≡ 0
  pub connections_few : connections / width ≤ connection_limit
  pub connections_whole : connections % width ≡ 0
  pub frontiers_few : frontiers / frontier_width ≤ frontier_limit
  pub frontiers_whole : frontiers % frontier_width ≡ 0
  pub room : enough ≡ true

pub lengths_accept : (rules : ℕ) (components width connections frontiers : ℕ) (enough : Bool)
    → lengths_of rules components width connections frontiers enough ≡ Ok tt → Lengths rules components width connections frontiers enough
lengths_accept rules components width connections frontiers enough e =
    let ruled = both_accept _ _ e in
    let first = both_accept _ _ ruled.1 in
    let second = both_accept _ _ first.1 in
    let third = both_accept _ _ second.1 in
    let c = refuse_none Fault.ListLength (Some Section.Components) _ first.0 in
    let p = refuse_none Fault.ListLength (Some Section.Connections) _ second.0 in
    let f = refuse_none Fault.ListLength (Some Section.Frontiers) _ third.0 in
    record {
      known = known_none rules (refuse_none Fault.UnknownRules None _ ruled.0);
      components_few = whole_few _ _ _ c;
      components_whole = whole_all _ _ _ c;
      connections_few = whole_few _ _ _ p;
      connections_whole = whole_all _ _ _ p;
      frontiers_few = whole_few _ _ _ f;
      frontiers_whole = whole_all _ _ _ f;
      room = short_none enough (refuse_none Fault.ShortSlice None _ third.1);
    }

-- ---- 3

-- the ranges of three lists, given what was found in the second
pub record Ranged (cs : List ℤ) (found : Option ℕ) (fs : List ℤ) : Type 0 where
  pub components : first_out_of_range component_low component_high cs ≡ None
  pub connections : found ≡ None
  pub frontiers : first_out_of_range frontier_low frontier_high fs ≡ None

pub ranges_accept : (cs : List ℤ) (found : Option ℕ) (fs : List ℤ) → ranges_of cs found fs ≡ Ok tt → Ranged cs found fs
ranges_accept cs found fs e =
    let first = both_accept _ _ e in
    let second = both_accept _ _ first.1 in
    record {
      components = refuse_none Fault.OutOfRange (Some Section.Components) _ first.0;
      connections = refuse_none Fault.OutOfRange (Some Section.Connections) _ second.0;
      frontiers = refuse_none Fault.OutOfRange (Some Section.Frontiers) _ second.1;
    }

-- where both accept, the components are within their limit and ranges
pub components_pass : (rules : ℕ) (cs : List ℤ) (width connections : ℕ) (found : Option ℕ) (fs : List ℤ) (enough : Bool)
    → lengths_of rules (length cs) width connections (length fs) enough ≡ Ok tt → ranges_of cs found fs ≡ Ok tt → Components cs
components_pass rules cs width connections found fs enough lengths ranges =
    within component_limit component_low component_high cs (lengths_accept rules (length cs) width connections (length fs) enough lengths).components_few (ranges_accept _ _ _ ranges).components

-- ---- the chains in the parts in which the code makes them

pub scene_parts : (rules : ℕ) (cs : List ℤ) (width connections : ℕ) (found : Option ℕ) (fs : List ℤ) (enough : Bool)
    → (lengths_of rules (length cs) width connections (length fs) enough or_else ranges_of cs found fs) or_else order_of cs
    ≡ scene_lists rules cs width connections found fs enough
unfolding scene_lists
scene_parts rules cs width connections found fs enough = simp or_else_assoc

pub grouping_parts : (rules : ℕ) (cs ps fs : List ℤ) (enough : Bool)
    → scene_lists rules cs connection_width (length ps) (first_out_of_range connection_low connection_high ps) fs enough
    or_else refuse Fault.UnsortedConnections (Some Section.Connections) (first_not_ascending connection_order connection_width ps)
    ≡ grouping_lists rules cs ps fs enough
unfolding grouping_lists
grouping_parts rules cs ps fs enough = refl

pub liveness_parts : (rules : ℕ) (cs ps fs : List ℤ) (enough : Bool)
    → scene_lists rules cs port_width (length ps) (first_out_of_range port_low port_high ps) fs enough
    or_else refuse Fault.MissingEnd (Some Section.Connections) (first_end_missing cs ps)
    ≡ liveness_lists rules cs ps fs enough
unfolding liveness_lists
liveness_parts rules cs ps fs enough = refl

-- 11 and 1 to 5 accept: the rules are known, and the lists are within their limits and ranges
pub record Scene (rules : ℕ) (cs : List ℤ) (width connections : ℕ) (found : Option ℕ) (fs : List ℤ) (enough : Bool) : Type 0 where
  pub lengths : Lengths rules (length cs) width connections (length fs) enough
  pub ranges : Ranged cs found fs
  pub ascending : first_not_ascending component_order component_width cs ≡ None
  pub once : first_repeated cs ≡ None

pub scene_accept : (rules : ℕ) (cs : List ℤ) (width connections : ℕ) (found : Option ℕ) (fs : List ℤ) (enough : Bool)
    → scene_lists rules cs width connections found fs enough ≡ Ok tt → Scene rules cs width connections found fs enough
scene_accept rules cs width connections found fs enough e =
    let lengths = lengths_of rules (length cs) width connections (length fs) enough in
    let outer = both_accept (lengths or_else ranges_of cs found fs) (order_of cs) (scene_parts rules cs width connections found fs enough ∙ e) in
    let inner = both_accept lengths (ranges_of cs found fs) outer.0 in
    let order = both_accept (refuse Fault.UnsortedComponents (Some Section.Components) (first_not_ascending component_order component_width cs)) (refuse Fault.RepeatedId (Some Section.Components) (first_repeated cs)) outer.1 in
    record {
      lengths = lengths_accept _ _ _ _ _ _ inner.0;
      ranges = ranges_accept _ _ _ inner.1;
      ascending = refuse_none Fault.UnsortedComponents (Some Section.Components) _ order.0;
      once = refuse_none Fault.RepeatedId (Some Section.Components) _ order.1;
    }

-- where 4 and 5 accept, each id's list place is settled in the table of ids
pub settled : {cs : List ℤ} {keys : List ℕ} {r : Result ⊤ Refusal} → Ordered cs keys r → r ≡ Ok tt → PlacesOfIds cs keys
settled {cs} ordered accepted =
    let order = both_accept (refuse Fault.UnsortedComponents (Some Section.Components) (first_not_ascending component_order component_width cs)) (refuse Fault.RepeatedId (Some Section.Components) (first_repeated cs)) (sym ordered.answer ∙ accepted) in
    settled_places ordered.table (refuse_none Fault.RepeatedId (Some Section.Components) _ order.1)
