-- The joined lists pass the checks 3 to 6, and number 1 asks only how many records there are.
--     bounds_of, bounds_pass      number 3, a record at a time
--     union_ranges                it passes for the union of two lists where it does for both
--     union_once                  5 passes for the union of components
--     append_records              the records of one list followed by those of another
--     whole_over                  1, for whole records
--     scene                       what a valid plot is
--     joined_is                   `joined` is the join
--     join_checks                 the checks of the joined lists, which are number 1 alone
--     join_refusal_lem            and 14 before them
-- Assumes nothing.
use Prim.Native.Nat.{ℕ, ◌+◌, ◌*◌, ◌/◌, ◌%◌, ◌<◌, min}
use native.Mathlib.Omega.{arith}
use mathlib.Core.Path.{◌≡◌, refl, sym, ap, ◌∙◌, subst}
use mathlib.Core.Bool.{Bool, true, false, not}
use mathlib.Core.List.Memᴰ
use mathlib.Core.List.{List, [], ◌∷◌, ◌++◌, append_assoc, Memᴰ}
use mathlib.Core.Logic.{⊎_elim}
use lib.ListN.{length, get_or, length-append}
use lib.IntN.{ℤ}
use lib.Dec.{eqb, ltb}
use borrow.Author.Tests.{ltb-true, ne_eqb}
use Rattle.lists.specs.Limits.{component_limit, connection_limit, frontier_limit, component_width, connection_width, frontier_width}
use Rattle.lists.specs.Signed.{at, in_range}
use Rattle.lists.specs.First.{is_found}
use Rattle.lists.specs.Records.{component, component_count}
use Rattle.lists.specs.Ranges.{record_in_range, first_out_of_range, component_low, component_high, connection_low, connection_high, frontier_low, frontier_high}
use Rattle.lists.specs.Rules.{known_rules}
use Rattle.lists.specs.declared.Refusal.{Refusal}
use Rattle.std.specs.Prelude.{⊤, Option, Some, None, Result, Ok, Err}
use Rattle.lists.specs.Within.{Within}
use Rattle.joining.specs.Cursor.{FieldsBelow}
use Rattle.lists.specs.Order.{first_not_ascending, component_order, connection_order}
use Rattle.lists.specs.Ids.{place_below, used_earlier, first_repeated}
use Rattle.checks.specs.Refusals.{◌or_else◌, not_whole, scene_lists, grouping_lists}
use Rattle.checks.proofs.Accepted.{GroupingScene, grouping_accept}
use Rattle.lists.proofs.Search.{never, first_nothing}
use Rattle.joining.specs.Split.{records_of, flat}
use Rattle.joining.specs.Merge.{Has, Union, comes_before}
use Rattle.joining.specs.Conflict.{first_conflict}
use Rattle.joining.specs.Plot.{Plot, Valid, refusal_of, JoinOf, joined, over, too_many, conflict_of, join_refusal}
use Rattle.joining.proofs.Merges.{rising_at}
use Rattle.joining.proofs.Splits.{Wide, records_length, field_at, has_place, place_has, has_width, records_flat, flat_records}
use Rattle.joining.proofs.Orders.{before_self, ascending_rising}
use Rattle.joining.proofs.Unions.{merged_union}
use Rattle.joining.proofs.Agrees.{all_true, id_at_lem, one_id, components_agree, connections_agree}

-- ---- the fields of the orders

pub component_fields : FieldsBelow component_width component_order
unfolding FieldsBelow
component_fields = (omega arith, (omega arith, (omega arith, (omega arith, tt))))

pub connection_fields : FieldsBelow connection_width connection_order
unfolding FieldsBelow
connection_fields = (omega arith, (omega arith, (omega arith, tt)))

-- ---- 3

-- each field of a record is in its range
pub record InBounds (low high r : List ℤ) : Type 0 where
  pub field : (f : ℕ) → f < length low → in_range (at low f) (at high f) (at r f) ≡ true

pub bounds_of : {limit : ℕ} {low high list : List ℤ} → Within limit low high list → {r : List ℤ} → Has (length low) list r → InBounds low high r
bounds_of {limit} {low} {high} {list} w {r} m =
    let p = has_place (length low) list m in
    record {
      field = λ f l.
          subst (λ (s : List ℤ). in_range (at low f) (at high f) (at s f) ≡ true) p.2
          (rw (field_at (length low) list p.0 f p.1 l) (w.field p.0 f p.1 l));
    }

pub bounds_pass : (low high list : List ℤ) → ((r : List ℤ) → Has (length low) list r → InBounds low high r) → first_out_of_range low high list ≡ None
unfolding first_out_of_range record_in_range
bounds_pass low high list each =
    first_nothing (λ k. not (record_in_range low high list (k * length low))) 0 (length list / length low) (λ k a b.
    ap not (all_true (λ f. in_range (at low f) (at high f) (at list (k * length low + f))) 0 (length low) (λ f c d.
    let h : k < length list / length low = omega arith in
    let l : f < length low = omega arith in
    rw (← field_at (length low) list k f h l) ((each _ (place_has (length low) list k h)).field f l))))

pub union_ranges : {limit limit' : ℕ} {fields : List ℕ} {low high a b u : List ℤ} → Within limit low high a → Within limit' low high b
    → Union fields (length low) a b u → first_out_of_range low high u ≡ None
union_ranges {low = low} {high} {a} {b} {u} wa wb union =
    bounds_pass low high u (λ r m. ⊎_elim (λ n. bounds_of wa n) (λ n. bounds_of wb n) (union.of_either r m))

-- ---- 5

pub union_once : {cs ds us : List ℤ} → first_repeated cs ≡ None → first_repeated ds ≡ None → first_conflict cs ds ≡ None
    → Union component_order component_width cs ds us → first_repeated us ≡ None
unfolding first_repeated place_below
union_once {cs} {ds} {us} once once' none union =
    let rises = ascending_rising component_width us component_order component_fields union.ascending in
    first_nothing (used_earlier us) 0 (component_count us) (λ k a b.
    ap is_found (first_nothing (λ j. eqb (component us j).id (component us k).id) 0 k (λ j c d.
    ne_eqb (component us j).id (component us k).id (λ same.
    let hj : j < component_count us = omega arith in
    let hk : k < component_count us = omega arith in
    let r = get_or (records_of component_width us) j [] in
    let s = get_or (records_of component_width us) k [] in
    let equal = one_id cs ds once once' none (union.of_either r (place_has component_width us j hj)) (union.of_either s (place_has component_width us k hk))
    (id_at_lem us j hj ∙ same ∙ sym (id_at_lem us k hk)) in
    let less = rising_at (comes_before component_order) [] (records_of component_width us) rises j k (omega arith) (omega (arith, records_length component_width (component_count us) us)) in
    never (sym (before_self component_order s) ∙ (rw equal at less))))))

-- ---- frontiers

flat_append : (rs ss : List (List ℤ)) → flat (rs ++ ss) ≡ flat rs ++ flat ss
unfolding flat
flat_append [] ss = refl
flat_append (r ∷ rs) ss = rw (flat_append rs ss, append_assoc r (flat rs) (flat ss))

pub append_records : (w : ℕ) → 0 < w → (a b : List ℤ) → length a % w ≡ 0 → length b % w ≡ 0 → records_of w (a ++ b) ≡ records_of w a ++ records_of w b
append_records w positive a b ea eb =
    let wide : Wide w (records_of w a ++ records_of w b) = record {
      each = λ m. ⊎_elim (λ n. has_width w a n) (λ n. has_width w b n) (Memᴰ.append_cases (records_of w a) m);
    } in
    let same : flat (records_of w a ++ records_of w b) ≡ a ++ b = flat_append (records_of w a) (records_of w b) ∙ rw (flat_records w a ea, flat_records w b eb) in
    ap (records_of w) (sym same) ∙ records_flat w positive (records_of w a ++ records_of w b) wide

pub append_ranges : {limit limit' : ℕ} {low high a b : List ℤ} → 0 < length low → Within limit low high a → Within limit' low high b
    → length a % length low ≡ 0 → length b % length low ≡ 0 → first_out_of_range low high (a ++ b) ≡ None
append_ranges {low = low} {high} {a} {b} positive wa wb ea eb =
    bounds_pass low high (a ++ b) (λ r m.
    ⊎_elim (λ n. bounds_of wa n) (λ n. bounds_of wb n)
    (Memᴰ.append_cases (records_of (length low) a) (subst (Memᴰ r) (append_records (length low) positive a b ea eb) m)))

-- ---- 1

pub whole_over : (width limit n : ℕ) → n % width ≡ 0 → not_whole width limit n ≡ over limit (n / width)
unfolding not_whole
whole_over width limit n e = go (ltb limit (n / width)) refl
  where
    go : (t : Bool) → ltb limit (n / width) ≡ t → not_whole width limit n ≡ over limit (n / width)
    go true q =
        let least : min limit (n / width) ≡ limit = omega (arith, ltb-true limit (n / width) q) in
        rw (e, q, least)
    go false q = rw (e, q)

-- ---- the whole chain

or_accepted : (c : Result ⊤ Refusal) → c or_else Ok tt ≡ c
or_accepted (Ok tt) = refl
or_accepted (Err r) = refl

-- the rest of a sheet's checks accept
pub only_one : (rules : ℕ) (cs ps fs : List ℤ) → known_rules rules ≡ true
    → length cs % component_width ≡ 0 → length ps % connection_width ≡ 0 → length fs % frontier_width ≡ 0
    → first_out_of_range component_low component_high cs ≡ None → first_out_of_range connection_low connection_high ps ≡ None → first_out_of_range frontier_low frontier_high fs ≡ None
    → first_not_ascending component_order component_width cs ≡ None → first_repeated cs ≡ None → first_not_ascending connection_order connection_width ps ≡ None
    → grouping_lists rules cs ps fs true ≡ too_many (record { components = cs; connections = ps; frontiers = fs })
unfolding grouping_lists scene_lists
only_one rules cs ps fs known wc wp wf rc rp rf ac once ap' =
    rw (
      known,
      whole_over component_width component_limit (length cs) wc,
      whole_over connection_width connection_limit (length ps) wp,
      whole_over frontier_width frontier_limit (length fs) wf,
      rc,
      rp,
      rf,
      ac,
      once,
      ap',
    )
    (simp or_accepted)

-- ---- the join

-- what is known of the lists of a valid plot
pub scene : {rules : ℕ} {p : Plot} → Valid rules p → GroupingScene rules p.components p.connections p.frontiers true
scene {rules} {p} v = grouping_accept rules p.components p.connections p.frontiers true v.accepted

module _ {rules : ℕ} (p q : Plot) (vp : Valid rules p) (vq : Valid rules q) (none : first_conflict p.components q.components ≡ None) where
  pub joined_is : JoinOf p q (joined p q)
  joined_is =
      let sp = scene vp in
      let sq = scene vq in
      record {
        components = merged_union component_order component_width (omega arith) component_fields p.components q.components
            sp.scene.ascending sq.scene.ascending (components_agree p.components q.components sp.scene.once none);
        connections = merged_union connection_order connection_width (omega arith) connection_fields p.connections q.connections
            sp.ascending sq.ascending (connections_agree p.connections q.connections);
        frontiers = refl;
      }

  pub join_checks : refusal_of rules (joined p q) ≡ too_many (joined p q)
  join_checks =
      let sp = scene vp in
      let sq = scene vq in
      let j = joined_is in
      let fp = sp.scene.lengths.frontiers_whole in
      let fq = sq.scene.lengths.frontiers_whole in
      only_one rules (joined p q).components (joined p q).connections (joined p q).frontiers
      sp.scene.lengths.known
      j.components.whole
      j.connections.whole
      (frontier_whole p.frontiers q.frontiers fp fq)
      (union_ranges sp.components sq.components j.components)
      (union_ranges sp.connections sq.connections j.connections)
      (append_ranges (omega arith) sp.frontiers sq.frontiers fp fq)
      j.components.ascending
      (union_once sp.scene.once sq.scene.once none j.components)
      j.connections.ascending
    where
      frontier_whole : (a b : List ℤ) → length a % frontier_width ≡ 0 → length b % frontier_width ≡ 0 → length (a ++ b) % frontier_width ≡ 0
      frontier_whole a b ea eb = omega (arith, length-append a b)

-- 14, and then number 1 alone
pub join_refusal_lem : {rules : ℕ} (p q : Plot) → Valid rules p → Valid rules q → join_refusal rules p q ≡ conflict_of p q or_else too_many (joined p q)
join_refusal_lem {rules} p q vp vq = go (first_conflict p.components q.components) refl
  where
    go : (f : Option ℕ) → first_conflict p.components q.components ≡ f → join_refusal rules p q ≡ conflict_of p q or_else too_many (joined p q)
    go (Some k) e = rw e
    go None e = rw e (join_checks p q vp vq e)
