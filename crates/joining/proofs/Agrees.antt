-- What number 14 leaves: a component of the one list and one of the other with one id are the same record.
--     place_own                        where no id is repeated, a component stands at the place of its id
--     ids_agree, one_id                one id, one record: between the lists, and in either
--     components_agree                 so two components of which neither comes first are the same
--     connections_agree                and so are two connections, which are ordered by all their fields
--     conflict_at                      what 14 says of its item
--     conflict_repeats                 where 14 applies, no list with the components of both uses each id once
--     conflict_self, conflict_none, none_conflict    no plot is in conflict with itself, nor with the empty one
-- Assumes nothing.
use Rattle.std.specs.Prelude.{Option, Some, None}
use Prim.Native.Nat.{ℕ, zero, suc, ◌+◌, ◌*◌, ◌/◌, ◌≤◌, ◌<◌}
use native.Mathlib.Nat.{add-zero}
use native.Mathlib.Omega.{arith}
use mathlib.Core.Path.{◌≡◌, refl, sym, ap, ◌∙◌}
use mathlib.Core.Bool.{Bool, true, false, not}
use mathlib.Core.List.Memᴰ
use mathlib.Core.List.{List, []}
use mathlib.Core.Logic.{◌⊎◌, inl, inr}
use lib.ListN.{length, get_or}
use lib.Seq.{ext_get_or}
use lib.IntN.{ℤ, pos, nat_abs}
use lib.Dec.{eqb}
use borrow.Author.Tests.{eqb-true, eqb-false, not-true, not-false}
use Rattle.lists.specs.Limits.{component_width, connection_width}
use Rattle.lists.specs.Signed.{at, eq_z}
use Rattle.lists.specs.First.{all_from}
use Rattle.lists.specs.Records.{component, component_count}
use Rattle.lists.specs.Order.{component_order, connection_order}
use Rattle.lists.specs.Ids.{place_below, place_of, first_repeated}
use Rattle.lists.proofs.Search.{FoundAt, never, all_at, none_found, found_at, first_nothing}
use Rattle.lists.proofs.Signed.{eq_z_same, eq_z_self}
use Rattle.lists.proofs.Members.{ids_distinct}
use Rattle.joining.specs.Split.{records_of}
use Rattle.joining.specs.Merge.{Has, comes_before}
use Rattle.joining.specs.Conflict.{same_record, differs_from, conflicts, first_conflict}
use Rattle.joining.proofs.Merges.{Agree}
use Rattle.joining.proofs.Splits.{field_at, record_width, has_place, place_has, has_width}
use Rattle.joining.proofs.Orders.{neither_same}

-- ---- tests at every place

pub all_true : (test : ℕ → Bool) (k n : ℕ) → ((j : ℕ) → k ≤ j → j < k + n → test j ≡ true) → all_from test k n ≡ true
unfolding all_from
all_true test k zero each = refl
all_true test k (suc n) each =
    rw (each k (omega arith) (omega arith)) (all_true test (suc k) n (λ j a b. each j (omega arith) (omega arith)))

-- ---- a record and its id

pub record_same : (w : ℕ) (a : List ℤ) (i : ℕ) (b : List ℤ) (j : ℕ) → i < length a / w → j < length b / w → same_record w a i b j ≡ true
    → get_or (records_of w a) i [] ≡ get_or (records_of w b) j []
unfolding same_record
record_same w a i b j hi hj e =
    ext_get_or (pos 0) (get_or (records_of w a) i []) (get_or (records_of w b) j []) (record_width w a i hi ∙ sym (record_width w b j hj)) (λ f h.
    let l : f < w = omega (arith, record_width w a i hi) in
    field_at w a i f hi l
    ∙ eq_z_same (at a (i * w + f)) (at b (j * w + f)) (all_at (λ g. eq_z (at a (i * w + g)) (at b (j * w + g))) 0 w e f (omega arith) (omega arith))
    ∙ sym (field_at w b j f hj l))

same_record_lem : (w : ℕ) (a : List ℤ) (i : ℕ) (b : List ℤ) (j : ℕ) → i < length a / w → j < length b / w
    → get_or (records_of w a) i [] ≡ get_or (records_of w b) j [] → same_record w a i b j ≡ true
unfolding same_record
same_record_lem w a i b j hi hj e =
    all_true (λ f. eq_z (at a (i * w + f)) (at b (j * w + f))) 0 w (λ f c d.
    let l : f < w = omega arith in
    let same : at a (i * w + f) ≡ at b (j * w + f) = sym (field_at w a i f hi l) ∙ ap (λ (r : List ℤ). at r f) e ∙ field_at w b j f hj l in
    rw same (eq_z_self (at b (j * w + f))))

-- the id of a record
abbrev pub id_of : List ℤ → ℕ
id_of r = nat_abs (at r 0)

pub id_at_lem : (cs : List ℤ) (k : ℕ) → k < component_count cs → id_of (get_or (records_of component_width cs) k []) ≡ (component cs k).id
id_at_lem cs k h = ap nat_abs (field_at component_width cs k 0 h (omega arith)) ∙ rw (add-zero (k * component_width))

pub place_id : (cs : List ℤ) (id p : ℕ) → place_of cs id ≡ Some p → (component cs p).id ≡ id
unfolding place_below
place_id cs id p e = eqb-true (component cs p).id id (found_at (λ k. eqb (component cs k).id id) 0 (component_count cs) p e).passes

place_in : (cs : List ℤ) (id p : ℕ) → place_of cs id ≡ Some p → p < component_count cs
unfolding place_below
place_in cs id p e = omega (arith, (found_at (λ k. eqb (component cs k).id id) 0 (component_count cs) p e).below)

place_not : (cs : List ℤ) (id p : ℕ) → p < component_count cs → (component cs p).id ≡ id → place_of cs id ≡ None → ⊥
unfolding place_below
place_not cs id p h same e =
    eqb-false (component cs p).id id (none_found (λ k. eqb (component cs k).id id) 0 (component_count cs) e p (omega arith) (omega arith)) same

pub place_own : (cs : List ℤ) → first_repeated cs ≡ None → (p : ℕ) → p < component_count cs → (id : ℕ) → (component cs p).id ≡ id → place_of cs id ≡ Some p
place_own cs once p h id same = go (place_of cs id) refl
  where
    go : (f : Option ℕ) → place_of cs id ≡ f → place_of cs id ≡ Some p
    go (Some q) e = e ∙ ap Some (ids_distinct cs once q p (place_in cs id q e) h (place_id cs id q e ∙ sym same))
    go None e = absurd (place_not cs id p h same e)

-- ---- one id, one record

module _ (cs ds : List ℤ) (once : first_repeated cs ≡ None) (none : first_conflict cs ds ≡ None) where
  places_agree : (p k : ℕ) → p < component_count cs → k < component_count ds → (component cs p).id ≡ (component ds k).id
      → get_or (records_of component_width cs) p [] ≡ get_or (records_of component_width ds) k []
  unfolding first_conflict
  places_agree p k hp hk same =
      let fails = none_found (conflicts cs ds) 0 (component_count ds) none k (omega arith) (omega arith) in
      let here = place_own cs once p hp (component ds k).id same in
      let test : not (same_record component_width cs p ds k) ≡ false = rw here at fails in
      record_same component_width cs p ds k hp hk (not-false (same_record component_width cs p ds k) test)

  pub ids_agree : {r s : List ℤ} → Has component_width cs r → Has component_width ds s → id_of r ≡ id_of s → r ≡ s
  ids_agree m n e =
      let p = has_place component_width cs m in
      let k = has_place component_width ds n in
      sym p.2
      ∙ places_agree p.0 k.0 p.1 k.1 (sym (id_at_lem cs p.0 p.1) ∙ ap id_of p.2 ∙ e ∙ sym (ap id_of k.2) ∙ id_at_lem ds k.0 k.1)
      ∙ k.2

  pub components_agree : Agree (comes_before component_order) (records_of component_width cs) (records_of component_width ds)
  components_agree = record {
    same = λ {x = r} {y = s} m n e f.
        ids_agree m n (ap nat_abs (neither_same component_order r s e f (Memᴰ.tail (Memᴰ.tail (Memᴰ.tail (Memᴰ.head refl))))));
  }

pub own_id : (cs : List ℤ) → first_repeated cs ≡ None → {r s : List ℤ} → Has component_width cs r → Has component_width cs s → id_of r ≡ id_of s → r ≡ s
own_id cs once m n e =
    let p = has_place component_width cs m in
    let k = has_place component_width cs n in
    let same = ids_distinct cs once p.0 k.0 p.1 k.1 (sym (id_at_lem cs p.0 p.1) ∙ ap id_of p.2 ∙ e ∙ sym (ap id_of k.2) ∙ id_at_lem cs k.0 k.1) in
    sym p.2 ∙ ap (λ (j : ℕ). get_or (records_of component_width cs) j []) same ∙ k.2

-- a record of either list is known by its id
pub one_id : (cs ds : List ℤ) → first_repeated cs ≡ None → first_repeated ds ≡ None → first_conflict cs ds ≡ None
    → {r s : List ℤ} → Has component_width cs r ⊎ Has component_width ds r → Has component_width cs s ⊎ Has component_width ds s → id_of r ≡ id_of s → r ≡ s
one_id cs ds once once' none (inl m) (inl n) e = own_id cs once m n e
one_id cs ds once once' none (inl m) (inr n) e = ids_agree cs ds once none m n e
one_id cs ds once once' none (inr m) (inl n) e = sym (ids_agree cs ds once none n m (sym e))
one_id cs ds once once' none (inr m) (inr n) e = own_id ds once' m n e

-- ---- where 14 applies

-- two records of one id that differ stand in no list that uses each id once
pub conflict_repeats : (cs ds us : List ℤ) (k : ℕ) → first_conflict cs ds ≡ Some k → first_repeated us ≡ None
    → ((r : List ℤ) → Has component_width cs r → Has component_width us r) → ((r : List ℤ) → Has component_width ds r → Has component_width us r) → ⊥
unfolding first_conflict
conflict_repeats cs ds us k e once of_first of_second =
    let f = found_at (conflicts cs ds) 0 (component_count ds) k e in
    go (place_of cs (component ds k).id) refl f.passes (omega (arith, f.below))
  where
    go : (x : Option ℕ) → place_of cs (component ds k).id ≡ x → differs_from cs ds k x ≡ true → k < component_count ds → ⊥
    go None q t h = never t
    go (Some p) q t h =
        let here = place_in cs (component ds k).id p q in
        let same = own_id us once (of_first _ (place_has component_width cs p here)) (of_second _ (place_has component_width ds k h))
        (id_at_lem cs p here ∙ place_id cs (component ds k).id p q ∙ sym (id_at_lem ds k h)) in
        never (sym (not-true (same_record component_width cs p ds k) t) ∙ same_record_lem component_width cs p ds k here h same)

-- what 14 says of its item
pub record ConflictAt (cs ds : List ℤ) (k : ℕ) : Type 0 where
  pub place : ℕ
  pub in_first : place < component_count cs
  pub in_second : k < component_count ds
  pub one : (component cs place).id ≡ (component ds k).id
  pub unequal : get_or (records_of component_width cs) place [] ≡ get_or (records_of component_width ds) k [] → ⊥
  pub earliest : (j p : ℕ) → j < k → p < component_count cs → (component cs p).id ≡ (component ds j).id
      → get_or (records_of component_width cs) p [] ≡ get_or (records_of component_width ds) j []

pub conflict_at : (cs ds : List ℤ) → first_repeated cs ≡ None → (k : ℕ) → first_conflict cs ds ≡ Some k → ConflictAt cs ds k
unfolding first_conflict
conflict_at cs ds once k e = go (place_of cs (component ds k).id) refl f.passes
  where
    f : FoundAt (conflicts cs ds) 0 (component_count ds) k
    f = found_at (conflicts cs ds) 0 (component_count ds) k e

    inside : k < component_count ds
    inside = omega (arith, f.below)

    before : (j p : ℕ) → j < k → p < component_count cs → (component cs p).id ≡ (component ds j).id
        → get_or (records_of component_width cs) p [] ≡ get_or (records_of component_width ds) j []
    before j p l h same =
        let here = place_own cs once p h (component ds j).id same in
        let test : not (same_record component_width cs p ds j) ≡ false = rw here at (f.first j (omega arith) l) in
        record_same component_width cs p ds j h (omega (arith, inside)) (not-false (same_record component_width cs p ds j) test)

    go : (x : Option ℕ) → place_of cs (component ds k).id ≡ x → differs_from cs ds k x ≡ true → ConflictAt cs ds k
    go None q t = never t
    go (Some p) q t =
        let here = place_in cs (component ds k).id p q in
        record {
          place = p;
          in_first = here;
          in_second = inside;
          one = place_id cs (component ds k).id p q;
          unequal = λ same. never (sym (not-true (same_record component_width cs p ds k) t) ∙ same_record_lem component_width cs p ds k here inside same);
          earliest = before;
        }

-- ---- connections

pub connections_agree : (ps qs : List ℤ) → Agree (comes_before connection_order) (records_of connection_width ps) (records_of connection_width qs)
connections_agree ps qs = record {
  same = λ {x = r} {y = s} m n e f.
      ext_get_or (pos 0) r s (has_width connection_width ps m ∙ sym (has_width connection_width qs n)) (λ i h.
      field r s
      (neither_same connection_order r s e f (Memᴰ.head refl))
      (neither_same connection_order r s e f (Memᴰ.tail (Memᴰ.head refl)))
      (neither_same connection_order r s e f (Memᴰ.tail (Memᴰ.tail (Memᴰ.head refl))))
      i
      (omega (arith, has_width connection_width ps m)));
}
  where
    field : (r s : List ℤ) → at r 0 ≡ at s 0 → at r 1 ≡ at s 1 → at r 2 ≡ at s 2 → (i : ℕ) → i < 3 → at r i ≡ at s i
    field r s a b c zero h = a
    field r s a b c (suc zero) h = b
    field r s a b c (suc (suc zero)) h = c
    field r s a b c (suc (suc (suc i))) h = absurd (omega arith)

-- ---- with itself, and with nothing

pub conflict_self : (cs : List ℤ) → first_repeated cs ≡ None → first_conflict cs cs ≡ None
unfolding first_conflict same_record
conflict_self cs once = first_nothing (conflicts cs cs) 0 (component_count cs) (λ k a b.
    rw (place_own cs once k (omega arith) (component cs k).id refl)
    (ap not (all_true (λ f. eq_z (at cs (k * component_width + f)) (at cs (k * component_width + f))) 0 component_width (λ f c d. eq_z_self (at cs (k * component_width + f))))))

pub conflict_none : (cs : List ℤ) → first_conflict cs [] ≡ None
unfolding first_conflict
conflict_none cs = first_nothing (conflicts cs []) 0 (component_count []) (λ k a b. absurd (omega arith))

no_place : (id : ℕ) → place_of [] id ≡ None
unfolding place_below
no_place id = first_nothing (λ k. eqb (component [] k).id id) 0 (component_count []) (λ k a b. absurd (omega arith))

pub none_conflict : (ds : List ℤ) → first_conflict [] ds ≡ None
unfolding first_conflict
none_conflict ds = first_nothing (conflicts [] ds) 0 (component_count ds) (λ k a b. ap (differs_from [] ds k) (no_place (component ds k).id))
