-- Lists of links, as they join n nodes: each link joins two parts or stands between nodes that are joined already.
--     Links, Has, size         a list of links
--     Linked                   a chain of links, in either direction
--     labels                   the representative of each node's part
--     roots_most               there are at least as many parts as nodes less links
--     redundant?               and exactly as many, or some link stands between nodes that earlier ones join
-- Assumes nothing.
use mathlib.Core.Path.{◌≡◌, refl, sym, ap, ap₂, subst, ◌∙◌}
use mathlib.Core.Bool.{Bool, true, false, cond, not, ◌&&◌}
use mathlib.Core.Logic.{◌⊎◌, inl, inr, ⊎_elim}
use Prim.Native.Nat.{ℕ, zero, suc, ◌+◌, ◌≤◌, ◌<◌}
use native.Mathlib.Omega.{arith}
use lib.Dec.{eqb}
use borrow.Author.Tests.{eqb-true, eq-eqb, ne_eqb}
use Rattle.sets.specs.Members.{count_below}
use Rattle.sets.proofs.Counts.{count_cong, count_more}
use Rattle.lists.proofs.Members.{count_once}
use Rattle.lists.proofs.Search.{both}
use Rattle.tables.specs.Laws.{same?}

pub data Links : Type 0 where
  none : Links
  join : ℕ → ℕ → Links → Links

unfoldable pub size : Links → ℕ
size none = zero
size (join a b e) = suc (size e)

abbrev pub Has : Links → ℕ → ℕ → Type 0
Has none x y = ⊥
Has (join a b e) x y = ((x ≡ a) × (y ≡ b)) ⊎ Has e x y

-- either way round
abbrev pub Joins : Links → ℕ → ℕ → Type 0
Joins e x y = Has e x y ⊎ Has e y x

pub data Linked (e : Links) : ℕ → ℕ → Type 0 where
  stay : {x : ℕ} → Linked e x x
  link : {x y z : ℕ} → Joins e x y → Linked e y z → Linked e x z

pub linked_trans : {e : Links} {x y z : ℕ} → Linked e x y → Linked e y z → Linked e x z
linked_trans stay q = q
linked_trans (link j p) q = link j (linked_trans p q)

turn : (e : Links) (x y : ℕ) → Joins e x y → Joins e y x
turn e x y (inl h) = inr h
turn e x y (inr h) = inl h

pub linked_sym : {e : Links} {x y : ℕ} → Linked e x y → Linked e y x
linked_sym stay = stay
linked_sym {e} (link {x} {y} j p) = linked_trans (linked_sym p) (link (turn e x y j) stay)

pub linked_same : {e : Links} {x y : ℕ} → x ≡ y → Linked e x y
linked_same {e} {x} q = subst (λ (z : ℕ). Linked e x z) q stay

linked_more : {e : Links} (a b : ℕ) {x y : ℕ} → Linked e x y → Linked (join a b e) x y
linked_more a b stay = stay
linked_more a b (link (inl h) p) = link (inl (inr h)) (linked_more a b p)
linked_more a b (link (inr h) p) = link (inr (inr h)) (linked_more a b p)

-- ---- representatives

unfoldable pub labels : Links → ℕ → ℕ
labels none x = x
labels (join a b e) x = cond (eqb (labels e x) (labels e a)) (labels e b) (labels e x)

-- of one more link
moved : (a b : ℕ) (e : Links) (x : ℕ) → labels e x ≡ labels e a → labels (join a b e) x ≡ labels e b
unfolding labels
moved a b e x q = rw (eq-eqb (labels e x) (labels e a) q)

kept : (a b : ℕ) (e : Links) (x : ℕ) → ¬ (labels e x ≡ labels e a) → labels (join a b e) x ≡ labels e x
unfolding labels
kept a b e x q = rw (ne_eqb (labels e x) (labels e a) q)

pub idem : (e : Links) (x : ℕ) → labels e (labels e x) ≡ labels e x
unfolding labels
idem none x = refl
idem (join a b e) x = ⊎_elim
    (λ (q : labels e x ≡ labels e a).
    rw (moved a b e x q) (again b (idem e b)))
    (λ (q : ¬ (labels e x ≡ labels e a)).
    rw (kept a b e x q) (kept a b e (labels e x) (λ p. q (sym (idem e x) ∙ p)) ∙ idem e x))
    (same? (labels e x) (labels e a))
  where
    again : (b : ℕ) → labels e (labels e b) ≡ labels e b → labels (join a b e) (labels e b) ≡ labels e b
    again b i = ⊎_elim
        (λ (p : labels e (labels e b) ≡ labels e a). moved a b e (labels e b) p)
        (λ (p : ¬ (labels e (labels e b) ≡ labels e a)). kept a b e (labels e b) p ∙ i)
        (same? (labels e (labels e b)) (labels e a))

-- a node and its representative are linked
pub linked_label : (e : Links) (x : ℕ) → Linked e x (labels e x)
unfolding labels
linked_label none x = stay
linked_label (join a b e) x = go (linked_label e x) (linked_label e a) (linked_label e b)
  where
    go : Linked e x (labels e x) → Linked e a (labels e a) → Linked e b (labels e b) → Linked (join a b e) x (labels (join a b e) x)
    go px pa pb = ⊎_elim
        (λ (q : labels e x ≡ labels e a).
        rw (moved a b e x q)
        (linked_trans (linked_more a b (linked_trans px (linked_trans (linked_same q) (linked_sym pa))))
        (link (inl (inl (refl, refl))) (linked_more a b pb))))
        (λ (q : ¬ (labels e x ≡ labels e a)). rw (kept a b e x q) (linked_more a b px))
        (same? (labels e x) (labels e a))

pub label_linked : (e : Links) (x y : ℕ) → labels e x ≡ labels e y → Linked e x y
label_linked e x y q = linked_trans (linked_label e x) (linked_trans (linked_same q) (linked_sym (linked_label e y)))

-- the ends of a link have one representative, and so have linked nodes
has_label : (e : Links) (x y : ℕ) → Has e x y → labels e x ≡ labels e y
unfolding labels
has_label none x y h = absurd h
has_label (join a b e) x y (inl p) =
    ap (labels (join a b e)) p.0 ∙ moved a b e a refl ∙ ⊎_elim
    (λ (q : labels e b ≡ labels e a). sym (moved a b e b q))
    (λ (q : ¬ (labels e b ≡ labels e a)). sym (kept a b e b q))
    (same? (labels e b) (labels e a)) ∙ ap (labels (join a b e)) (sym p.1)
has_label (join a b e) x y (inr h) = ap (λ (k : ℕ). cond (eqb k (labels e a)) (labels e b) k) (has_label e x y h)

pub linked_labels : {e : Links} {x y : ℕ} → Linked e x y → labels e x ≡ labels e y
linked_labels stay = refl
linked_labels {e} (link {x} {y} (inl h) p) = has_label e x y h ∙ linked_labels p
linked_labels {e} (link {x} {y} (inr h) p) = sym (has_label e y x h) ∙ linked_labels p

-- ---- how many parts there are, of the nodes below n that pass the test

module _ (n : ℕ) (part : ℕ → Bool) (low : (x : ℕ) → part x ≡ true → x < n) where
  -- all links are between such nodes
  abbrev pub Inside : Links → Type 0
  Inside e = (x y : ℕ) → Has e x y → (part x ≡ true) × (part y ≡ true)

  pub label_part : (e : Links) → Inside e → (x : ℕ) → part x ≡ true → part (labels e x) ≡ true
  unfolding labels
  label_part none i x h = h
  label_part (join a b e) i x h = go (label_part e (λ x y k. i x y (inr k)) x h) (label_part e (λ x y k. i x y (inr k)) b (i a b (inl (refl, refl))).1)
    where
      go : part (labels e x) ≡ true → part (labels e b) ≡ true → part (labels (join a b e) x) ≡ true
      go px pb = ⊎_elim
          (λ (q : labels e x ≡ labels e a). rw (moved a b e x q) pb)
          (λ (q : ¬ (labels e x ≡ labels e a)). rw (kept a b e x q) px)
          (same? (labels e x) (labels e a))

  -- a node that represents its part
  abbrev pub root : Links → ℕ → Bool
  root e x = part x && eqb (labels e x) x

  abbrev pub roots : Links → ℕ
  roots e = count_below (root e) n

  roots_none : roots none ≡ count_below part n
  unfolding labels
  roots_none = count_cong (root none) part n (λ x h. ap (λ b. part x && b) (eq-eqb x x refl) ∙ and_true (part x))
    where
      and_true : (b : Bool) → (b && true) ≡ b
      and_true true = refl
      and_true false = refl

  -- a link between nodes that are joined already
  roots_same : (a b : ℕ) (e : Links) → labels e a ≡ labels e b → roots (join a b e) ≡ roots e
  roots_same a b e q = count_cong (root (join a b e)) (root e) n (λ x h. ap (λ (k : ℕ). part x && eqb k x) (⊎_elim
      (λ (p : labels e x ≡ labels e a). moved a b e x p ∙ sym (p ∙ q))
      (λ (p : ¬ (labels e x ≡ labels e a)). kept a b e x p)
      (same? (labels e x) (labels e a))))

  -- a link that joins two parts
  roots_less : (a b : ℕ) (e : Links) → Inside (join a b e) → ¬ (labels e a ≡ labels e b) → roots e ≡ roots (join a b e) + 1
  roots_less a b e i ne =
      count_more (root (join a b e)) (root e) (labels e a) n (low (labels e a) pa)
      (ap (λ (k : ℕ). part (labels e a) && eqb k (labels e a)) (moved a b e (labels e a) (idem e a))
      ∙ ap (λ t. part (labels e a) && t) (ne_eqb (labels e b) (labels e a) (λ p. ne (sym p))) ∙ and_false (part (labels e a)))
      (ap₂ ◌&&◌ pa (eq-eqb (labels e (labels e a)) (labels e a) (idem e a)))
      (λ x d. ap (λ t. part x && t) (other x d))
    where
      and_false : (b : Bool) → (b && false) ≡ false
      and_false true = refl
      and_false false = refl

      pa : part (labels e a) ≡ true
      pa = label_part e (λ x y k. i x y (inr k)) a (i a b (inl (refl, refl))).0

      other : (x : ℕ) → ¬ (x ≡ labels e a) → eqb (labels e x) x ≡ eqb (labels (join a b e) x) x
      other x d = ⊎_elim
          (λ (p : labels e x ≡ labels e a).
          ne_eqb (labels e x) x (λ q. d (sym q ∙ p))
          ∙ sym (ne_eqb (labels (join a b e) x) x (λ q.
          let r : labels e b ≡ x = sym (moved a b e x p) ∙ q in
          ne (sym p ∙ ap (labels e) (sym r) ∙ idem e b))))
          (λ (p : ¬ (labels e x ≡ labels e a)). ap (λ (k : ℕ). eqb k x) (sym (kept a b e x p)))
          (same? (labels e x) (labels e a))

  pub roots_most : (e : Links) → Inside e → count_below part n ≤ roots e + size e
  unfolding size
  roots_most none i = omega (arith, roots_none)
  roots_most (join a b e) i = ⊎_elim
      (λ (q : labels e a ≡ labels e b). omega (arith, roots_most e (λ x y k. i x y (inr k)), roots_same a b e q))
      (λ (q : ¬ (labels e a ≡ labels e b)). omega (arith, roots_most e (λ x y k. i x y (inr k)), roots_less a b e i q))
      (same? (labels e a) (labels e b))

  -- where all nodes are linked there is one part
  pub roots_one : (e : Links) → ((x y : ℕ) → part x ≡ true → part y ≡ true → Linked e x y) → roots e ≤ 1
  roots_one e all = count_once (root e) n (λ x y l h p q.
      let px = both (part x) (eqb (labels e x) x) p in
      let py = both (part y) (eqb (labels e y) y) q in
      let same = sym (eqb-true (labels e x) x px.1) ∙ linked_labels (all x y px.0 py.0) ∙ eqb-true (labels e y) y py.1 in
      omega arith)

  -- where there is a node there is a part
  pub roots_some : (e : Links) → Inside e → (x : ℕ) → part x ≡ true → 1 ≤ roots e
  roots_some e i x h =
      let r = labels e x in
      let p = label_part e i x h in
      let one = count_more (λ y. root e y && not (eqb y r)) (root e) r n (low r p)
      (ap (λ t. root e r && not t) (eq-eqb r r refl) ∙ and_false (root e r))
      (ap₂ ◌&&◌ p (eq-eqb (labels e r) r (idem e x)))
      (λ y d. sym (ap (λ t. root e y && not t) (ne_eqb y r d) ∙ and_true (root e y))) in
      omega arith
    where
      and_true : (b : Bool) → (b && true) ≡ b
      and_true true = refl
      and_true false = refl

      and_false : (b : Bool) → (b && false) ≡ false
      and_false true = refl
      and_false false = refl

-- ---- a link between nodes that earlier ones join

-- no link is there twice, or both ways round
abbrev pub Clean : Links → Type 0
Clean none = Unit {0}
Clean (join a b e) = (¬ Joins e a b) × Clean e

pub record Redundant (whole : Links) : Type 0 where
  pub a : ℕ
  pub b : ℕ
  pub before : Links
  pub has : Has whole a b
  pub part_of : (x y : ℕ) → Has before x y → Has whole x y
  pub new : ¬ Joins before a b
  pub linked : Linked before a b

redundant_more : (a b : ℕ) {e : Links} → Redundant e → Redundant (join a b e)
redundant_more a b r = record {
  a = r.a;
  b = r.b;
  before = r.before;
  has = inr r.has;
  part_of = λ x y h. inr (r.part_of x y h);
  new = r.new;
  linked = r.linked;
}

module _ (n : ℕ) (part : ℕ → Bool) (low : (x : ℕ) → part x ≡ true → x < n) where
  pub redundant? : (e : Links) → Inside n part low e → Clean e → Redundant e ⊎ (roots n part low e + size e ≡ count_below part n)
  unfolding size
  redundant? none i c = inr (omega (arith, roots_none n part low))
  redundant? (join a b e) i c = go (redundant? e (λ x y k. i x y (inr k)) c.1)
    where
      go : Redundant e ⊎ (roots n part low e + size e ≡ count_below part n)
          → Redundant (join a b e) ⊎ (roots n part low (join a b e) + suc (size e) ≡ count_below part n)
      go (inl r) = inl (redundant_more a b r)
      go (inr m) = ⊎_elim
          (λ (q : labels e a ≡ labels e b).
          inl (record { a = a; b = b; before = e; has = inl (refl, refl); part_of = λ x y h. inr h; new = c.0; linked = label_linked e a b q }))
          (λ (q : ¬ (labels e a ≡ labels e b)). inr (omega (arith, m, roots_less n part low a b e i q)))
          (same? (labels e a) (labels e b))
