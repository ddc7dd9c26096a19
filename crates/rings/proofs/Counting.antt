-- The passes that count joined pairs.
--     Passed                    the nodes of a row before a place are passed
--     pass_none, pass_more, pass_seen, pass_foreign, pass_all     none of a row yet; one more; all
--     both_near                 two rows
--     joins_none, joins_more    the pairs of each region, a node more
--     rings_flagged             the flags
-- Assumes nothing.
use mathlib.Core.Path.{◌≡◌, refl, sym, ap, ap₂, ◌∙◌}
use mathlib.Core.Bool.{Bool, true, false, ◌&&◌, ◌||◌, or-false, and-false, or-true}
use mathlib.Core.List.{List, [], ◌∷◌}
use mathlib.Core.Logic.{⊎_elim}
use Prim.Native.Nat.{ℕ, zero, suc, ◌+◌, ◌*◌, ◌≤◌, ◌<◌}
use native.Mathlib.Numerals.{add-one}
use native.Mathlib.Omega.{arith}
use lib.Dec.{eqb, leb}
use lib.ListN.{length, length-set, get_or, set, take, replicate, length-replicate, get_or-replicate}
use lib.Seq.{get_or-set_same, get_or-set_other}
use borrow.Author.Tests.{eq-eqb, ne_eqb}
use Rattle.sets.specs.Members.{count_below}
use Rattle.sets.proofs.Counts.{count_cong, count_more, count_none, count_le}
use Rattle.tables.specs.Order.{Ascending, member}
use Rattle.tables.specs.Laws.{same?}
use Rattle.lists.specs.Limits.{component_limit}
use Rattle.regions.specs.Graph.{Edges, at}
use Rattle.signals.specs.Flags.{Flags, Counted}
use Rattle.signals.proofs.Neighbours.{member_one}
use Rattle.rings.specs.Rings.{join_count}
use Rattle.rings.specs.Counts.{is_seen, near_by, near_either, near_in, SeenUpTo, RowSeen, JoinsCounted}

-- ---- a row

row_all : (v at : ℕ) (row : List ℕ) → ((k : ℕ) → at ≤ k → k < length row → get_or row k 0 ≡ v → ⊥) → member v (take at row) ≡ member v row
unfolding member
row_all v zero [] h = refl
row_all v zero (x ∷ row) h =
    sym (ap (λ (t : Bool). t || member v row) (ne_eqb v x (λ e. h 0 (omega arith) (omega arith) (sym e)))
    ∙ sym (row_all v zero row (λ k l m. h (suc k) (omega arith) (omega arith))))
row_all v (suc at) [] h = refl
row_all v (suc at) (x ∷ row) h =
    ap (λ (t : Bool). eqb v x || t) (row_all v at row (λ k l m. h (suc k) (omega arith) (omega arith)))

pub record Passed (labels row : List ℕ) (b : ℕ) (seen₀ : List ℕ) (place : ℕ) (seen : List ℕ) (found : ℕ) : Type 0 where
  pub long : length seen ≡ length seen₀
  pub marks : (a : ℕ) → a ≤ b
      → is_seen seen b a ≡ (is_seen seen₀ b a || (eqb (at labels a) (at labels b) && member a (take place row)))
  pub low : SeenUpTo (b + 1) seen
  pub count : found ≡ count_below (is_seen seen b) (suc b)

-- one node more
taken_in : (s l m : Bool) → ((s || (l && m)) || l) ≡ (s || (l && (m || true)))
taken_in true l m = refl
taken_in false true m = refl
taken_in false false m = refl

module _ (labels row : List ℕ) (b : ℕ) (seen₀ : List ℕ) where
  abbrev same : ℕ → Bool
  same a = eqb (at labels a) (at labels b)

  pub pass_none : {found : ℕ} → SeenUpTo (b + 1) seen₀ → found ≡ count_below (is_seen seen₀ b) (suc b) → Passed labels row b seen₀ 0 seen₀ found
  unfolding member
  pass_none up count = record {
    long = refl;
    marks = λ a h. sym (ap (λ (t : Bool). is_seen seen₀ b a || t) (and-false (same a)) ∙ or-false (is_seen seen₀ b a));
    low = up;
    count = count;
  }

  module _ {place found : ℕ} {seen : List ℕ} (p : Passed labels row b seen₀ place seen found) (inside : place < length row)
      (to : get_or row place 0 ≤ b) where
    abbrev node : ℕ
    node = get_or row place 0

    more : (a : ℕ) → member a (take (place + 1) row) ≡ (member a (take place row) || eqb a node)
    more a = rw add-one (member_one a place row inside)

    marks_more : (seen' : List ℕ) → ((a : ℕ) → (a ≡ node → ⊥) → is_seen seen' b a ≡ is_seen seen b a)
        → is_seen seen' b node ≡ (is_seen seen b node || same node) → (a : ℕ) → a ≤ b
        → is_seen seen' b a ≡ (is_seen seen₀ b a || (same a && member a (take (place + 1) row)))
    marks_more seen' others here a h = ⊎_elim
        (λ (e : a ≡ node).
        ap (is_seen seen' b) e ∙ here ∙ ap (λ (k : ℕ). is_seen seen b k || same k) (sym e)
        ∙ ap (λ (t : Bool). t || same a) (p.marks a h)
        ∙ taken_in (is_seen seen₀ b a) (same a) (member a (take place row))
        ∙ ap (λ (t : Bool). is_seen seen₀ b a || (same a && t))
        (sym (more a ∙ ap (λ (t : Bool). member a (take place row) || t) (eq-eqb a node e))))
        (λ (ne : a ≡ node → ⊥).
        others a ne ∙ p.marks a h
        ∙ ap (λ (t : Bool). is_seen seen₀ b a || (same a && t))
        (sym (more a ∙ ap (λ (t : Bool). member a (take place row) || t) (ne_eqb a node ne) ∙ or-false (member a (take place row)))))
        (same? a node)

    -- a node of b's label that is not seen yet
    pub pass_more : b < length seen₀ → at labels node ≡ at labels b → (at seen node ≡ b + 1 → ⊥)
        → Passed labels row b seen₀ (place + 1) (set seen node (b + 1)) (found + 1)
    pass_more room l fresh = record {
      long = length-set seen node (b + 1) ∙ p.long;
      marks = marks_more (set seen node (b + 1)) others (mark ∙ sym (ap (λ (t : Bool). is_seen seen b node || t) (eq-eqb _ _ l) ∙ or-true (is_seen seen b node)));
      low = λ a. ⊎_elim
          (λ (e : a ≡ node). rw (e, written) (omega arith))
          (λ (ne : a ≡ node → ⊥). rw (get_or-set_other seen node a (b + 1) 0 ne) (p.low a))
          (same? a node);
      count = omega (
        arith,
        p.count,
        count_more (is_seen seen b) (is_seen (set seen node (b + 1)) b) node (suc b) (omega (arith, to)) (ne_eqb (at seen node) (b + 1) fresh) mark others,
      );
    }
      where
        written : at (set seen node (b + 1)) node ≡ b + 1
        written = get_or-set_same seen node (b + 1) 0 (omega (arith, p.long, to))

        mark : is_seen (set seen node (b + 1)) b node ≡ true
        mark = eq-eqb _ _ written

        others : (a : ℕ) → (a ≡ node → ⊥) → is_seen (set seen node (b + 1)) b a ≡ is_seen seen b a
        others a ne = ap (λ (k : ℕ). eqb k (b + 1)) (get_or-set_other seen node a (b + 1) 0 ne)

    -- a node that is seen already, or of another label
    pass_over : is_seen seen b node ≡ (is_seen seen b node || same node) → Passed labels row b seen₀ (place + 1) seen found
    pass_over here = record { long = p.long; marks = marks_more seen (λ a ne. refl) here; low = p.low; count = p.count }

    pub pass_seen : at seen node ≡ b + 1 → Passed labels row b seen₀ (place + 1) seen found
    pass_seen e = let is = eq-eqb (at seen node) (b + 1) e in pass_over (is ∙ sym (ap (λ (t : Bool). t || same node) is))

    pub pass_foreign : (at labels node ≡ at labels b → ⊥) → Passed labels row b seen₀ (place + 1) seen found
    pass_foreign ne =
        pass_over (sym (ap (λ (t : Bool). is_seen seen b node || t) (ne_eqb _ _ ne) ∙ or-false (is_seen seen b node)))

  -- the nodes up to b's own end before the place
  pub pass_all : {place found : ℕ} {seen : List ℕ} → Ascending row → (place < length row → b < get_or row place 0)
      → Passed labels row b seen₀ place seen found → RowSeen labels row b seen₀ seen found
  pass_all {place} rising past p = record {
    marks = λ a h.
        let all = row_all a place row (λ k l m e. omega (arith, past (omega arith), rising.at place k l m, e)) in
        p.marks a h ∙ ap (λ (t : Bool). is_seen seen₀ b a || (same a && t)) all;
    low = p.low;
    count = p.count;
  }

-- ---- both rows

near_both : (l f b : Bool) → ((l && f) || (l && b)) ≡ (l && (f || b))
near_both true f b = refl
near_both false f b = refl

-- no node is seen from b yet
pub unseen : (seen : List ℕ) (b : ℕ) → SeenUpTo b seen → (a : ℕ) → is_seen seen b a ≡ false
unseen seen b up a = ne_eqb (at seen a) (b + 1) (λ e. omega (arith, up a))

pub none_seen : (seen : List ℕ) (b : ℕ) → SeenUpTo b seen → 0 ≡ count_below (is_seen seen b) (suc b)
none_seen seen b up = sym (count_none (is_seen seen b) (suc b) (λ a h. unseen seen b up a))

pub both_near : (edge : Edges) {inward outward labels : List ℕ} {b r r' : ℕ} (s₀ : List ℕ) {s₁ s₂ : List ℕ} → SeenUpTo b s₀
    → ((a : ℕ) → member a inward ≡ edge b a) → ((a : ℕ) → member a outward ≡ edge a b)
    → RowSeen labels inward b s₀ s₁ r → RowSeen labels outward b s₁ s₂ r' → r' ≡ count_below (λ a. near_either edge labels a b) (suc b)
both_near edge {inward} {outward} {labels} {b} s₀ {s₁} {s₂} up forward backward p q =
    q.count ∙ count_cong (is_seen s₂ b) (λ a. near_either edge labels a b) (suc b) (λ a h.
    q.marks a (omega arith)
    ∙ ap (λ (t : Bool). t || near_by labels outward b a) (p.marks a (omega arith) ∙ ap (λ (t : Bool). t || near_by labels inward b a) (unseen s₀ b up a))
    ∙ near_both (eqb (at labels a) (at labels b)) (member a inward) (member a outward)
    ∙ ap₂ (λ (f g : Bool). eqb (at labels a) (at labels b) && (f || g)) (forward a) (backward a))

-- ---- the joined pairs of each region

pub join_few : (test : Edges) (n : ℕ) → n ≤ component_limit → join_count test n ≤ n * component_limit
unfolding join_count
join_few test zero h = omega arith
join_few test (suc b) h = omega (arith, join_few test b (omega arith), count_le (λ a. test a b) (suc b))

pub joins_none : (edge : Edges) (labels : List ℕ) (m : ℕ) → JoinsCounted edge labels 0 (replicate m 0)
unfolding join_count
joins_none edge labels m = record { is = λ r h. get_or-replicate m r 0 0 (omega (arith, length-replicate {A = ℕ} m 0)) }

pub zeros : (m a : ℕ) → at (replicate m 0) a ≡ 0
zeros zero a = refl
zeros (suc m) zero = refl
zeros (suc m) (suc a) = zeros m a

pub joins_more : {edge : Edges} {labels joins : List ℕ} {b count : ℕ} → JoinsCounted edge labels b joins
    → count ≡ count_below (λ a. near_either edge labels a b) (suc b) → at labels b < length joins
    → JoinsCounted edge labels (b + 1) (set joins (at labels b) (get_or joins (at labels b) 0 + count))
unfolding join_count
joins_more {edge} {labels} {joins} {b} {count} p c low = rw add-one record {
  is = λ r h.
      let inside : r < length joins = omega (arith, length-set joins (at labels b) (get_or joins (at labels b) 0 + count)) in
      ⊎_elim
      (λ (e : r ≡ at labels b).
      rw e (get_or-set_same joins (at labels b) (get_or joins (at labels b) 0 + count) 0 low)
      ∙ ap₂ ◌+◌ (p.is (at labels b) low) (c ∙ count_cong _ _ (suc b) (λ a h. ap (λ (t : Bool). t && near_either edge labels a b) (sym (eq-eqb (at labels b) (at labels b) refl))))
      ∙ ap (λ (k : ℕ). join_count (near_in edge labels k) b + count_below (λ a. near_in edge labels k a b) (suc b)) (sym e))
      (λ (ne : r ≡ at labels b → ⊥).
      get_or-set_other joins (at labels b) r (get_or joins (at labels b) 0 + count) 0 ne
      ∙ p.is r inside
      ∙ omega (
        arith,
        count_none (λ a. near_in edge labels r a b) (suc b) (λ a h.
            ap (λ (t : Bool). t && near_either edge labels a b) (ne_eqb (at labels b) r (λ q. ne (sym q)))),
      ))
      (same? r (at labels b));
}

pub rings_flagged : {edge : Edges} {labels sizes joins : List ℕ} {flags : List Bool} {m : ℕ} → length sizes ≡ m → length joins ≡ m
    → Counted (length labels) labels sizes → JoinsCounted edge labels (length labels) joins
    → Flags m (λ r. leb (get_or sizes r 0) (get_or joins r 0)) flags
    → Flags m (λ r. leb (count_below (λ a. eqb (at labels a) r) (length labels)) (join_count (near_in edge labels r) (length labels))) flags
rings_flagged e f c p flagged = record {
  long = flagged.long;
  at = λ r h. flagged.at r h ∙ ap₂ leb (c.at r (omega (arith, e))) (p.is r (omega (arith, f)));
}
