-- What a valid plot is, by its parts, and that the test `valid` says exactly this.
--     Sound                       the parts
--     sound_of_valid, valid_of_sound
-- Assumes nothing.
use Rattle.std.specs.Prelude.{⊤, Result, Ok, Err}
use Rattle.lists.specs.declared.Refusal.{Refusal}
use mathlib.Core.Path.{◌≡◌, refl, sym, ap, ◌∙◌, subst}
use mathlib.Core.Bool.{Bool, true, false, not, ◌&&◌, ◌||◌}
use mathlib.Core.List.{List, [], ◌∷◌}
use Prim.Native.Nat.{ℕ, zero, suc, ◌+◌, ◌≤◌, ◌<◌}
use native.Mathlib.Omega.{arith}
use lib.ListN.{length}
use lib.Dec.{eqb, leb, ltb}
use borrow.Author.Tests.{eqb-false, ne_eqb, leb-true, le-leb, ltb-true, lt-ltb, not-true}
use Rattle.tables.specs.Order.{member}
use Rattle.lists.specs.Limits.{component_limit, connection_limit}
use Rattle.lists.specs.First.{all_from}
use Rattle.lists.proofs.Search.{never, both, all_at}
use Rattle.lists.proofs.Some.{and_true}
use Rattle.held.specs.Tests.{any, every, distinct, same_numbers}
use Rattle.held.specs.Plot.{Record, Place, free, taken, Plot, at, blocks, id_of, block_fits, connection_fits, ends_present, opening}
use Rattle.held.specs.Left.{is_accepted, is_free, same_id, was_freed, valid_places, valid_freed, valid_connections, valid}
use Rattle.held.proofs.Lists.{or_neither, or_left, or_right, every_member, member_every}
use Rattle.held.proofs.Places.{not_both, same_block}

-- ---- the parts

-- components in range, no id twice
pub record SoundPlaces (ps : List Place) : Type 0 where
  pub few : length ps ≤ component_limit
  pub fit : (k : ℕ) (r : Record) → at ps k ≡ taken r → block_fits r ≡ true
  pub one : (j k : ℕ) (r s : Record) → at ps j ≡ taken r → at ps k ≡ taken s → id_of r ≡ id_of s → j ≡ k

-- the freed places are the free ones, each once
pub record SoundFreed (ps : List Place) (freed : List ℕ) : Type 0 where
  pub once : distinct eqb freed ≡ true
  pub used : (k : ℕ) → member k freed ≡ true → k < length ps
  pub frees : (k : ℕ) → member k freed ≡ true → at ps k ≡ free
  pub all : (k : ℕ) → k < length ps → at ps k ≡ free → member k freed ≡ true

pub record SoundConnections (ps : List Place) (cs : List Record) : Type 0 where
  pub few : length cs ≤ connection_limit
  pub fit : every connection_fits cs ≡ true
  pub once : distinct same_numbers cs ≡ true
  pub ends : every (ends_present ps) cs ≡ true

pub record Sound (plot : Plot) : Type 0 where
  pub opens : opening plot.rules plot.frontiers true ≡ Ok tt
  pub places_sound : SoundPlaces plot.places
  pub freed_sound : SoundFreed plot.places plot.freed
  pub connections_sound : SoundConnections plot.places plot.connections

-- ---- components

-- each block that stands somewhere passes
pub every_at : (test : Record → Bool) (ps : List Place) → every test (blocks ps) ≡ true → (k : ℕ) (r : Record) → at ps k ≡ taken r → test r ≡ true
unfolding blocks every
every_at test [] e k r h = not_both free r h refl
every_at test (free ∷ ps) e zero r h = not_both free r h refl
every_at test (free ∷ ps) e (suc k) r h = every_at test ps e k r h
every_at test (taken s ∷ ps) e zero r h = subst (λ (x : Record). test x ≡ true) (same_block s r h) (both (test s) (every test (blocks ps)) e).0
every_at test (taken s ∷ ps) e (suc k) r h = every_at test ps (both (test s) (every test (blocks ps)) e).1 k r h

pub at_every : (test : Record → Bool) (ps : List Place) → ((k : ℕ) (r : Record) → at ps k ≡ taken r → test r ≡ true) → every test (blocks ps) ≡ true
unfolding blocks every
at_every test [] h = refl
at_every test (free ∷ ps) h = at_every test ps (λ k r e. h (suc k) r e)
at_every test (taken s ∷ ps) h = and_true _ _ (h 0 s refl) (at_every test ps (λ k r e. h (suc k) r e))

-- no block that stands somewhere passes
none_at : (test : Record → Bool) (ps : List Place) → any test (blocks ps) ≡ false → (k : ℕ) (r : Record) → at ps k ≡ taken r → test r ≡ false
unfolding blocks any
none_at test [] e k r h = not_both free r h refl
none_at test (free ∷ ps) e zero r h = not_both free r h refl
none_at test (free ∷ ps) e (suc k) r h = none_at test ps e k r h
none_at test (taken s ∷ ps) e zero r h = subst (λ (x : Record). test x ≡ false) (same_block s r h) (or_neither (test s) (any test (blocks ps)) e).0
none_at test (taken s ∷ ps) e (suc k) r h = none_at test ps (or_neither (test s) (any test (blocks ps)) e).1 k r h

at_none : (test : Record → Bool) (ps : List Place) → ((k : ℕ) (r : Record) → at ps k ≡ taken r → test r ≡ false) → any test (blocks ps) ≡ false
unfolding blocks any
at_none test [] h = refl
at_none test (free ∷ ps) h = at_none test ps (λ k r e. h (suc k) r e)
at_none test (taken s ∷ ps) h = rw (h 0 s refl) (at_none test ps (λ k r e. h (suc k) r e))

suc_same : (j k : ℕ) → suc j ≡ suc k → j ≡ k
suc_same j k e = omega arith

one_of : (ps : List Place) → distinct same_id (blocks ps) ≡ true → (j k : ℕ) (r s : Record) → at ps j ≡ taken r → at ps k ≡ taken s → id_of r ≡ id_of s → j ≡ k
unfolding blocks distinct
one_of [] e j k r s p q i = not_both free r p refl
one_of (free ∷ ps) e zero k r s p q i = not_both free r p refl
one_of (free ∷ ps) e (suc j) zero r s p q i = not_both free s q refl
one_of (free ∷ ps) e (suc j) (suc k) r s p q i = ap suc (one_of ps e j k r s p q i)
one_of (taken b ∷ ps) e zero zero r s p q i = refl
one_of (taken b ∷ ps) e zero (suc k) r s p q i =
    let none = none_at (λ later. same_id later b) ps (not-true _ (both (not (any (λ later. same_id later b) (blocks ps))) (distinct same_id (blocks ps)) e).0) k s q in
    absurd (eqb-false (id_of s) (id_of b) none (sym i ∙ sym (ap id_of (same_block b r p))))
one_of (taken b ∷ ps) e (suc j) zero r s p q i =
    let none = none_at (λ later. same_id later b) ps (not-true _ (both (not (any (λ later. same_id later b) (blocks ps))) (distinct same_id (blocks ps)) e).0) j r p in
    absurd (eqb-false (id_of r) (id_of b) none (i ∙ sym (ap id_of (same_block b s q))))
one_of (taken b ∷ ps) e (suc j) (suc k) r s p q i =
    ap suc (one_of ps (both (not (any (λ later. same_id later b) (blocks ps))) (distinct same_id (blocks ps)) e).1 j k r s p q i)

pub of_one : (ps : List Place) → ((j k : ℕ) (r s : Record) → at ps j ≡ taken r → at ps k ≡ taken s → id_of r ≡ id_of s → j ≡ k) → distinct same_id (blocks ps) ≡ true
unfolding blocks distinct
of_one [] h = refl
of_one (free ∷ ps) h = of_one ps (λ j k r s p q i. suc_same j k (h (suc j) (suc k) r s p q i))
of_one (taken b ∷ ps) h =
    and_true _ _
    (ap not (at_none (λ later. same_id later b) ps (λ k r e. ne_eqb (id_of r) (id_of b) (λ i. let z : suc k ≡ 0 = h (suc k) 0 r b e refl i in omega arith))))
    (of_one ps (λ j k r s p q i. suc_same j k (h (suc j) (suc k) r s p q i)))

pub places_of : (ps : List Place) → valid_places ps ≡ true → SoundPlaces ps
unfolding valid_places
places_of ps e =
    let p = both (leb (length ps) component_limit) (every block_fits (blocks ps) && distinct same_id (blocks ps)) e in
    let q = both (every block_fits (blocks ps)) (distinct same_id (blocks ps)) p.1 in
    record { few = leb-true (length ps) component_limit p.0; fit = every_at block_fits ps q.0; one = one_of ps q.1 }

pub of_places : (ps : List Place) → SoundPlaces ps → valid_places ps ≡ true
unfolding valid_places
of_places ps s =
    and_true _ _ (le-leb (length ps) component_limit s.few) (and_true _ _ (at_every block_fits ps s.fit) (of_one ps s.one))

-- ---- freed places

free_is : (p : Place) → is_free p ≡ true → p ≡ free
free_is free e = refl
free_is (taken r) e = never e

stands_free : (p : Place) → p ≡ free → is_free p ≡ true
stands_free p e = rw e

-- a test that holds at each place of a run
pub from_all : (test : ℕ → Bool) (k n : ℕ) → ((j : ℕ) → k ≤ j → j < k + n → test j ≡ true) → all_from test k n ≡ true
unfolding all_from
from_all test k zero h = refl
from_all test k (suc n) h = and_true _ _ (h k (omega arith) (omega arith)) (from_all test (suc k) n (λ j a b. h j (omega arith) (omega arith)))

pub freed_of : (ps : List Place) (freed : List ℕ) → valid_freed ps freed ≡ true → SoundFreed ps freed
unfolding valid_freed
freed_of ps freed e = record { once = p.0; used = λ k m. ltb-true k (length ps) (was k m).0; frees = λ k m. free_is (at ps k) (was k m).1; all = covers }
  where
    p : (distinct eqb freed ≡ true) × ((every (was_freed ps) freed && all_from (λ k. not (is_free (at ps k)) || member k freed) 0 (length ps)) ≡ true)
    p = both (distinct eqb freed) (every (was_freed ps) freed && all_from (λ k. not (is_free (at ps k)) || member k freed) 0 (length ps)) e

    q : (every (was_freed ps) freed ≡ true) × (all_from (λ k. not (is_free (at ps k)) || member k freed) 0 (length ps) ≡ true)
    q = both (every (was_freed ps) freed) (all_from (λ k. not (is_free (at ps k)) || member k freed) 0 (length ps)) p.1

    was : (k : ℕ) → member k freed ≡ true → (ltb k (length ps) ≡ true) × (is_free (at ps k) ≡ true)
    was k m = both (ltb k (length ps)) (is_free (at ps k)) (every_member (was_freed ps) freed q.0 k m)

    covers : (k : ℕ) → k < length ps → at ps k ≡ free → member k freed ≡ true
    covers k h f =
        let t : (not (is_free (at ps k)) || member k freed) ≡ true = all_at (λ k. not (is_free (at ps k)) || member k freed) 0 (length ps) q.1 k (omega arith) (omega arith) in
        rw f at t

pub of_freed : (ps : List Place) (freed : List ℕ) → SoundFreed ps freed → valid_freed ps freed ≡ true
unfolding valid_freed
of_freed ps freed s =
    and_true _ _ s.once
    (and_true _ _
    (member_every (was_freed ps) freed (λ k m. and_true _ _ (lt-ltb k (length ps) (s.used k m)) (stands_free (at ps k) (s.frees k m))))
    (from_all (λ k. not (is_free (at ps k)) || member k freed) 0 (length ps) (λ k a b. go k (omega arith) (at ps k) refl)))
  where
    go : (k : ℕ) → k < length ps → (p : Place) → at ps k ≡ p → (not (is_free (at ps k)) || member k freed) ≡ true
    go k h free e = or_right (not (is_free (at ps k))) (member k freed) (s.all k h e)
    go k h (taken r) e = or_left (not (is_free (at ps k))) (member k freed) (rw e)

-- ---- connections

pub connections_of_lem : (ps : List Place) (cs : List Record) → valid_connections ps cs ≡ true → SoundConnections ps cs
unfolding valid_connections
connections_of_lem ps cs e =
    let p = both (leb (length cs) connection_limit) (every connection_fits cs && (distinct same_numbers cs && every (ends_present ps) cs)) e in
    let q = both (every connection_fits cs) (distinct same_numbers cs && every (ends_present ps) cs) p.1 in
    let r = both (distinct same_numbers cs) (every (ends_present ps) cs) q.1 in
    record { few = leb-true (length cs) connection_limit p.0; fit = q.0; once = r.0; ends = r.1 }

pub of_connections : (ps : List Place) (cs : List Record) → SoundConnections ps cs → valid_connections ps cs ≡ true
unfolding valid_connections
of_connections ps cs s =
    and_true _ _ (le-leb (length cs) connection_limit s.few) (and_true _ _ s.fit (and_true _ _ s.once s.ends))

-- ---- the plot

accepted_is : (c : Result ⊤ Refusal) → is_accepted c ≡ true → c ≡ Ok tt
accepted_is (Ok tt) e = refl
accepted_is (Err r) e = never e

pub sound_of_valid : (plot : Plot) → valid plot ≡ true → Sound plot
unfolding valid
sound_of_valid plot e =
    let p = both (is_accepted (opening plot.rules plot.frontiers true)) (valid_places plot.places && (valid_freed plot.places plot.freed && valid_connections plot.places plot.connections)) e in
    let q = both (valid_places plot.places) (valid_freed plot.places plot.freed && valid_connections plot.places plot.connections) p.1 in
    let r = both (valid_freed plot.places plot.freed) (valid_connections plot.places plot.connections) q.1 in
    record {
      opens = accepted_is _ p.0;
      places_sound = places_of plot.places q.0;
      freed_sound = freed_of plot.places plot.freed r.0;
      connections_sound = connections_of_lem plot.places plot.connections r.1;
    }

pub valid_of_sound : (plot : Plot) → Sound plot → valid plot ≡ true
unfolding valid
valid_of_sound plot s =
    and_true _ _ (ap is_accepted s.opens)
    (and_true _ _ (of_places plot.places s.places_sound)
    (and_true _ _ (of_freed plot.places plot.freed s.freed_sound) (of_connections plot.places plot.connections s.connections_sound)))
