-- What the checks answer fits one number (`Small`): the item of a refusal is at most its list's limit. Numbers 3 to 7 are reached only
-- where number 1 passed, so that their items are below a limit.
--     small_or_else, few_or_else           a chain of two checks
--     Few, few_small                       an item of at most the greatest limit has room
--     strange_small                        number 11
--     rules_small, whole_small             numbers 11 and 1
--     grouping_few                         the checks of the lists of a grouping
--     grouping_small, liveness_small       the checks of the lists
-- Assumes nothing.
use Rattle.lists.specs.declared.Fault.{Fault}
use Rattle.lists.specs.declared.Section.{Section}
use Rattle.std.specs.Prelude.{⊤, Option, Some, None, Result, Ok, Err}
use Rattle.lists.specs.declared.Refusal.{Refusal}
use Rattle.lists.specs.Refusal.{fault_number, list_number}
use mathlib.Core.Path.{◌≡◌, refl}
use mathlib.Core.Bool.{Bool, true, false, not, cond, ◌||◌}
use mathlib.Core.List.{List}
use Prim.Native.Nat.{ℕ, ◌*◌, ◌-◌, ◌/◌, ◌%◌, ◌≤◌, ◌<◌, min}
use native.Mathlib.Omega.{arith}
use lib.Dec.{ltb, eqb, lit<, lit≤}
use lib.ListN.{length}
use lib.IntN.{ℤ}
use Rattle.lists.specs.Limits.{component_limit, connection_limit, frontier_limit, component_width, connection_width, port_width, frontier_width}
use Rattle.lists.specs.Records.{component_count, port_count}
use Rattle.lists.specs.Rules.{known_rules}
use Rattle.lists.specs.Ranges.{record_in_range, first_out_of_range, component_low, component_high, connection_low, connection_high, port_low, port_high, frontier_low, frontier_high}
use Rattle.lists.specs.Order.{record_before, first_not_ascending, component_order, connection_order}
use Rattle.lists.specs.Ids.{used_earlier, first_repeated, end_missing, first_end_missing}
use Rattle.checks.specs.Refusals.{refuse, ◌or_else◌, not_whole, too_short, strange_rules, scene_lists, grouping_lists, liveness_lists, Small}
use Rattle.checks.specs.Checks.{lengths_of, ranges_of, order_of}
use Rattle.lists.proofs.Search.{found_at}
use Rattle.checks.proofs.Chain.{both_accept}
use Rattle.checks.proofs.Accepts.{Lengths, lengths_accept, scene_accept, scene_parts, grouping_parts, liveness_parts}

-- ---- a chain of checks

pub small_or_else : (a b : Result ⊤ Refusal) → Small a → (a ≡ Ok tt → Small b) → Small (a or_else b)
small_or_else (Ok tt) b s t = t refl
small_or_else (Err r) b s t = s

-- the item of a refusal is at most the greatest limit
abbrev pub Few : Result ⊤ Refusal → Type 0
Few (Ok tt) = Unit
Few (Err r) = r.item ≤ connection_limit

pub few_small : (a : Result ⊤ Refusal) → Few a → Small a
few_small (Ok tt) f = tt
few_small (Err r) f = omega arith

pub few_or_else : (a b : Result ⊤ Refusal) → Few a → (a ≡ Ok tt → Few b) → Few (a or_else b)
few_or_else (Ok tt) b s t = t refl
few_or_else (Err r) b s t = s

-- the same as a record, from which the check can be inferred
record Fit (a : Result ⊤ Refusal) : Type 0 where
  few : Few a

then : {a b : Result ⊤ Refusal} → Fit a → (a ≡ Ok tt → Fit b) → Fit (a or_else b)
then {a} {b} s t = record { few = few_or_else a b s.few (λ e. (t e).few) }

-- an item that was found is at most n
record AtMost (n : ℕ) (f : Option ℕ) : Type 0 where
  item : (k : ℕ) → f ≡ Some k → k ≤ n

fit_refuse : (fault : Fault) (list : Option Section) {f : Option ℕ} {n : ℕ} → AtMost n f → n ≤ connection_limit → Fit (refuse fault list f)
fit_refuse fault list {f} {n} m h = record { few = go f m.item }
  where
    go : (g : Option ℕ) → ((k : ℕ) → g ≡ Some k → k ≤ n) → Few (refuse fault list g)
    go (Some k) most = let l = most k refl in omega arith
    go None most = tt

-- ---- numbers of faults and lists have room in their digits

pub fault_within : (fault : Fault) → (0 < fault_number fault) × (fault_number fault < 256)
fault_within Fault.ListLength = (lit< tt, lit< tt)
fault_within Fault.ShortSlice = (lit< tt, lit< tt)
fault_within Fault.OutOfRange = (lit< tt, lit< tt)
fault_within Fault.UnsortedComponents = (lit< tt, lit< tt)
fault_within Fault.RepeatedId = (lit< tt, lit< tt)
fault_within Fault.UnsortedConnections = (lit< tt, lit< tt)
fault_within Fault.MissingEnd = (lit< tt, lit< tt)
fault_within Fault.NoVerdictRow = (lit< tt, lit< tt)
fault_within Fault.BadLine = (lit< tt, lit< tt)
fault_within Fault.NotDriven = (lit< tt, lit< tt)
fault_within Fault.UnknownRules = (lit< tt, lit< tt)
fault_within Fault.UnknownForm = (lit< tt, lit< tt)
fault_within Fault.OtherRules = (lit< tt, lit< tt)
fault_within Fault.UnequalFields = (lit< tt, lit< tt)
fault_within Fault.FullPlot = (lit< tt, lit< tt)
fault_within Fault.PresentId = (lit< tt, lit< tt)
fault_within Fault.AbsentId = (lit< tt, lit< tt)
fault_within Fault.StrangePlot = (lit< tt, lit< tt)

pub list_few : (list : Option Section) → list_number list < 256
list_few (Some Section.Components) = lit< tt
list_few (Some Section.Connections) = lit< tt
list_few (Some Section.Frontiers) = lit< tt
list_few None = lit< tt

-- ---- the item of each check

same_item : {j k : ℕ} → Some j ≡ Some k → j ≡ k
same_item e = cc

cond_item : (t : Bool) (j k : ℕ) → cond t (Some j) None ≡ Some k → j ≡ k
cond_item true j k e = same_item e
cond_item false j k e = let z : ◌≡◌ {A = ℕ} 0 1 = cc in absurd (omega arith)

whole_item : (width limit n : ℕ) → AtMost limit (not_whole width limit n)
unfolding not_whole
whole_item width limit n = record {
  item = λ k e. omega (arith, cond_item (ltb limit (n / width) || not (eqb (n % width) 0)) (min limit (n / width)) k e);
}

pub whole_small : (list : Option Section) (width limit n : ℕ) → limit ≤ connection_limit → Small (refuse Fault.ListLength list (not_whole width limit n))
whole_small list width limit n h = few_small _ (fit_refuse Fault.ListLength list (whole_item width limit n) h).few

short_item : (enough : Bool) → AtMost 0 (too_short enough)
short_item true = record { item = λ k e. let z : ◌≡◌ {A = ℕ} 0 1 = cc in absurd (omega arith) }
short_item false = record { item = λ k e. omega (arith, same_item e) }

rules_item : (rules : ℕ) → AtMost 0 (strange_rules rules)
rules_item rules = record { item = λ k e. go (known_rules rules) k e }
  where
    go : (b : Bool) (k : ℕ) → cond b None (Some 0) ≡ Some k → k ≤ 0
    go true k e = let z : ◌≡◌ {A = ℕ} 0 1 = cc in absurd (omega arith)
    go false k e = omega (arith, same_item e)

pub strange_small : (rules : ℕ) → Small (refuse Fault.UnknownRules None (strange_rules rules))
strange_small rules = few_small _ (fit_refuse Fault.UnknownRules None (rules_item rules) (lit≤ tt)).few

pub rules_small : (rules : ℕ) → Small (refuse Fault.UnknownRules None (strange_rules rules))
rules_small rules = few_small _ (fit_refuse Fault.UnknownRules None (rules_item rules) (lit≤ tt)).few

range_item : (low high list : List ℤ) → AtMost (length list / length low) (first_out_of_range low high list)
unfolding first_out_of_range
range_item low high list = record {
  item = λ k e. omega (arith, (found_at (λ j. not (record_in_range low high list (j * length low))) 0 (length list / length low) k e).below);
}

order_item : (fields : List ℕ) (width : ℕ) (list : List ℤ) → AtMost (length list / width) (first_not_ascending fields width list)
unfolding first_not_ascending
order_item fields width list = record {
  item = λ k e.
      let f = found_at (λ j. not (record_before fields list ((j - 1) * width) (j * width))) 1 (length list / width - 1) k e in
      omega (arith, f.from, f.below);
}

repeated_item : (cs : List ℤ) → AtMost (component_count cs) (first_repeated cs)
unfolding first_repeated
repeated_item cs = record { item = λ k e. omega (arith, (found_at (used_earlier cs) 0 (component_count cs) k e).below) }

end_item : (cs ps : List ℤ) → AtMost (port_count ps) (first_end_missing cs ps)
unfolding first_end_missing
end_item cs ps = record { item = λ k e. omega (arith, (found_at (end_missing cs ps) 0 (port_count ps) k e).below) }

-- ---- the checks in their parts

lengths_fit : (rules : ℕ) (components width connections frontiers : ℕ) (enough : Bool)
    → Fit (lengths_of rules components width connections frontiers enough)
lengths_fit rules components width connections frontiers enough =
    then (fit_refuse Fault.UnknownRules None (rules_item rules) (lit≤ tt)) (λ _.
    then (fit_refuse Fault.ListLength (Some Section.Components) (whole_item component_width component_limit components) (lit≤ tt)) (λ _.
    then (fit_refuse Fault.ListLength (Some Section.Connections) (whole_item width connection_limit connections) (lit≤ tt)) (λ _.
    then (fit_refuse Fault.ListLength (Some Section.Frontiers) (whole_item frontier_width frontier_limit frontiers) (lit≤ tt)) (λ _.
    fit_refuse Fault.ShortSlice None (short_item enough) (lit≤ tt)))))

module _ (rules : ℕ) (cs : List ℤ) (width connections : ℕ) (found : Option ℕ) (fs : List ℤ) (enough : Bool) (most : AtMost (connections / width) found) where
  module _ (l : Lengths rules (length cs) width connections (length fs) enough) where
    components_few : component_count cs ≤ connection_limit
    components_few = omega (arith, l.components_few)

    ranges_fit : Fit (ranges_of cs found fs)
    ranges_fit =
        then (fit_refuse Fault.OutOfRange (Some Section.Components) (range_item component_low component_high cs) components_few) (λ _.
        then (fit_refuse Fault.OutOfRange (Some Section.Connections) most l.connections_few) (λ _.
        fit_refuse Fault.OutOfRange (Some Section.Frontiers) (range_item frontier_low frontier_high fs) (omega (arith, l.frontiers_few))))

    order_fit : Fit (order_of cs)
    order_fit =
        then (fit_refuse Fault.UnsortedComponents (Some Section.Components) (order_item component_order component_width cs) components_few) (λ _.
        fit_refuse Fault.RepeatedId (Some Section.Components) (repeated_item cs) components_few)

  scene_fit : Fit (scene_lists rules cs width connections found fs enough)
  scene_fit =
      let lengths = lengths_of rules (length cs) width connections (length fs) enough in
      let all = then (then (lengths_fit rules (length cs) width connections (length fs) enough) (λ e. ranges_fit (lengths_accept _ _ _ _ _ _ e)))
      (λ e. order_fit (lengths_accept _ _ _ _ _ _ (both_accept lengths (ranges_of cs found fs) e).0)) in
      rw (scene_parts rules cs width connections found fs enough) at all

-- ---- the checks of the lists

module _ (rules : ℕ) (cs ps fs : List ℤ) (enough : Bool) where
  pub grouping_few : Few (grouping_lists rules cs ps fs enough)
  grouping_few =
      let found = first_out_of_range connection_low connection_high ps in
      let all = then (scene_fit rules cs connection_width (length ps) found fs enough (range_item connection_low connection_high ps)) (λ e.
      fit_refuse Fault.UnsortedConnections (Some Section.Connections) (order_item connection_order connection_width ps)
      (scene_accept rules cs connection_width (length ps) found fs enough e).lengths.connections_few) in
      rw (grouping_parts rules cs ps fs enough) at all.few

  pub grouping_small : Small (grouping_lists rules cs ps fs enough)
  grouping_small = few_small (grouping_lists rules cs ps fs enough) grouping_few

  liveness_few : Few (liveness_lists rules cs ps fs enough)
  liveness_few =
      let found = first_out_of_range port_low port_high ps in
      let all = then (scene_fit rules cs port_width (length ps) found fs enough (range_item port_low port_high ps)) (λ e.
      fit_refuse Fault.MissingEnd (Some Section.Connections) (end_item cs ps)
      (scene_accept rules cs port_width (length ps) found fs enough e).lengths.connections_few) in
      rw (liveness_parts rules cs ps fs enough) at all.few

  pub liveness_small : Small (liveness_lists rules cs ps fs enough)
  liveness_small = few_small (liveness_lists rules cs ps fs enough) liveness_few
