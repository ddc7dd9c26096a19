-- The ids of a set's members, a member at a time.
--     ids_snoc                  a member more at the end
--     ids_more, ids_same        the next member of a walk is one more; there is none up to the table's end
--     between, spaced_snoc      a blank before each id but the first
--     Listing, listing_none, listing_more, listing_done     the ids written in a walk
-- Assumes nothing.
use Rattle.std.specs.Prelude.{Some}
use mathlib.Core.Path.{◌≡◌, refl, sym, ap, ◌∙◌, subst}
use mathlib.Core.Bool.{Bool, true, false, cond}
use mathlib.Core.List.{List, [], ◌∷◌, ◌++◌, append-nil}
use Prim.Native.Nat.{ℕ, zero, suc, ◌+◌, ◌-◌, ◌/◌, ◌≤◌, ◌<◌}
use native.Mathlib.Nat.{add-zero, zero-add}
use native.Mathlib.Numerals.{add-one}
use native.Mathlib.Omega.{arith}
use lib.ListN.{length, get_or}
use Rattle.tables.specs.Pairs.{span}
use Rattle.sets.specs.Members.{member_of, NoneIn, FirstFrom}
use Rattle.lines.specs.Decimal.{digits}
use Rattle.lines.proofs.Digits.{digits_append}
use Rattle.blocks.specs.Printed.{Printed}
use Rattle.blocks.specs.Lines.{spaced}
use Rattle.blocks.specs.Blocks.{ids_from, ids_in}
use Rattle.blocks.proofs.Printing.{printed_then}

-- a blank where an id stands before
abbrev pub between : List ℕ → List ℕ
between [] = []
between (n ∷ ns) = 32 ∷ []

between_snoc : (ids : List ℕ) (id : ℕ) → 32 ∷ [] ≡ between (ids ++ (id ∷ []))
between_snoc [] id = refl
between_snoc (n ∷ ids) id = refl

pub spaced_snoc : (ids : List ℕ) (id : ℕ) → spaced (ids ++ (id ∷ [])) ≡ spaced ids ++ (between ids ++ digits id [])
unfolding spaced
spaced_snoc [] id = refl
spaced_snoc (n ∷ []) id = sym (digits_append 19 n [] (32 ∷ digits id []))
spaced_snoc (n ∷ m ∷ ids) id =
    ap (λ (t : List ℕ). digits n (32 ∷ t)) (spaced_snoc (m ∷ ids) id) ∙ sym (digits_append 19 n (32 ∷ spaced (m ∷ ids)) (32 ∷ digits id []))

module _ (keys words : List ℕ) where
  pub ids_snoc : (m k : ℕ) → ids_from keys words m (suc k) ≡ ids_from keys words m k ++ cond (member_of words (m + k)) (get_or keys (m + k) 0 / span ∷ []) []
  unfolding ids_from
  ids_snoc m zero = rw (add-zero m)
  ids_snoc m (suc k) =
      let i : m + suc k ≡ suc m + k = omega arith in
      rw i (go (member_of words m) (ids_snoc (suc m) k))
    where
      go : (t : Bool) → ids_from keys words (suc m) (suc k) ≡ ids_from keys words (suc m) k ++ cond (member_of words (suc m + k)) (get_or keys (suc m + k) 0 / span ∷ []) []
          → cond t (get_or keys m 0 / span ∷ ids_from keys words (suc m) (suc k)) (ids_from keys words (suc m) (suc k))
          ≡ cond t (get_or keys m 0 / span ∷ ids_from keys words (suc m) k) (ids_from keys words (suc m) k)
          ++ cond (member_of words (suc m + k)) (get_or keys (suc m + k) 0 / span ∷ []) []
      go true e = ap (λ (l : List ℕ). get_or keys m 0 / span ∷ l) e
      go false e = e

  -- the ids of the members below a number
  abbrev pub ids_to : ℕ → List ℕ
  ids_to k = ids_from keys words 0 k

  ids_step : (k : ℕ) → ids_to (suc k) ≡ ids_to k ++ cond (member_of words k) (get_or keys k 0 / span ∷ []) []
  ids_step k =
      subst (λ (j : ℕ). ids_to (suc k) ≡ ids_to k ++ cond (member_of words j) (get_or keys j 0 / span ∷ []) []) (zero-add k) (ids_snoc 0 k)

  ids_past : (start d : ℕ) → NoneIn words start (start + d) → ids_to (start + d) ≡ ids_to start
  ids_past start zero none = ap ids_to (omega arith)
  ids_past start (suc d) none =
      let e : start + suc d ≡ suc (start + d) = omega arith in
      rw (e, ids_step (start + d), none (start + d) (omega arith) (omega arith), append-nil (ids_to (start + d)))
      (ids_past start d (λ k h l. none k h (omega arith)))

  -- there is no member from `start` up to n
  pub ids_same : (start n : ℕ) → start ≤ n → NoneIn words start n → ids_to n ≡ ids_to start
  ids_same start n h none =
      let e : n ≡ start + (n - start) = omega arith in
      ap ids_to e ∙ ids_past start (n - start) (λ k b l. none k b (omega arith))

  -- there is one at m, and none before it
  pub ids_more : (start m : ℕ) → FirstFrom words start (Some m) → ids_to (m + 1) ≡ ids_to start ++ (get_or keys m 0 / span ∷ [])
  ids_more start m f =
      let is : member_of words m ≡ true = f.1 in
      rw (add-one m, ids_step m, is, ids_same start m f.0 f.2)

  -- ---- written in a walk from member to member

  -- the ids of the members before `start` stand from `at` on, and `blank` is what comes before the next
  pub record Listing (at : ℕ) (old new : List ℕ) (p : ℕ) (blank : List ℕ) (start : ℕ) : Type 0 where
    pub below : start ≤ length keys
    pub printed : Printed at (spaced (ids_to start)) old new p
    pub blank_is : blank ≡ between (ids_to start)

  pub listing_none : {at start : ℕ} {out : List ℕ} → start ≡ 0 → Printed at [] out out at → Listing at out out at [] start
  unfolding ids_from spaced
  listing_none e p = rw e (record { below = omega arith; printed = p; blank_is = refl })

  module _ {at : ℕ} {old new blank : List ℕ} {p start : ℕ} (l : Listing at old new p blank start) where
    -- the walk comes to m
    pub listing_more : (m : ℕ) {last : ℕ} {newer newest : List ℕ} {q r : ℕ} → FirstFrom words start (Some m) → m < length keys → last ≡ m + 1
        → Printed p blank new newer q → Printed q (digits (get_or keys m 0 / span) []) newer newest r
        → Listing at old newest r (32 ∷ []) last
    listing_more m f h e b d =
        let more = ids_more start m f in
        let id = get_or keys m 0 / span in
        rw e
        (record {
          below = omega (arith, h);
          printed = rw (more, spaced_snoc (ids_to start) id, ← l.blank_is) (printed_then l.printed (printed_then b d));
          blank_is = rw more (between_snoc (ids_to start) id);
        })

    -- it comes to none that the table has
    pub listing_done : NoneIn words start (length keys) → Printed at (spaced (ids_in keys words)) old new p
    listing_done none = rw (ids_same start (length keys) l.below none) l.printed
