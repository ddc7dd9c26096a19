-- Connections that are dropped, in a list of numbers.
--     paste_behind_at       what stands behind a copy is as it was
--     record_field          a field of a record
--     paste_same            a record copied onto itself
--     keep_snoc             one record more
-- Assumes nothing.
use mathlib.Core.Path.{◌≡◌, refl, sym, ap, ◌∙◌, subst}
use mathlib.Core.Bool.{Bool, true, false, cond}
use mathlib.Core.List.{List, [], ◌∷◌, ◌++◌, append_assoc}
use Prim.Native.Nat.{ℕ, ◌+◌, ◌*◌, ◌-◌, ◌≤◌, ◌<◌}
use native.Mathlib.Nat.{add-zero}
use native.Mathlib.Omega.{arith}
use native.Mathlib.Numerals.{add-one}
use lib.ListN.{length, take, drop, replicate, length-append, length-drop, length-replicate, take-append-drop}
use lib.Seq.{paste, get_or-append-add, get_or-drop, get_or-take, length_paste_head, take-take, take-add, take-length, take-paste, drop-paste, length-paste, length-take-le, drop-drop}
use lib.IntN.{ℤ, pos}
use Rattle.lists.specs.Limits.{port_width}
use Rattle.lists.specs.Signed.{at}
use Rattle.lists.specs.First.{tabulate}
use Rattle.held.specs.Tests.{keep}
use Rattle.held.specs.Plot.{Record, clear_of}
use Rattle.held.specs.Lent.{flat, record_at}
use Rattle.held.specs.Writes.{clear_at, KeptOne, kept_of, Dropped}
use Rattle.held.proofs.Flat.{flat_snoc}

pub paste_behind_at : (d : List ℤ) (to : ℕ) (s : List ℤ) (f i : ℕ) → to ≤ length d → f ≤ length s → to + f ≤ i → at (paste d to s f) i ≡ at d i
paste_behind_at d to s f i a b h =
    let head : List ℤ = take to d ++ take f s in
    let long : length head ≡ to + f = length_paste_head d to s f a b in
    let j : ℕ = i - (to + f) in
    let place : i ≡ length head + j = omega arith in
    let there : i ≡ to + f + j = omega arith in
    ap (at (paste d to s f)) place ∙ (get_or-append-add head (drop (to + f) d) j (pos 0) ∙ (get_or-drop (to + f) d j (pos 0) ∙ ap (at d) (sym there)))

pub record_field : (w : ℕ) (list : List ℤ) (k f : ℕ) → f < w → at (record_at w list k) f ≡ at list (k * w + f)
record_field w list k f h = get_or-take w (drop (k * w) list) f (pos 0) h ∙ get_or-drop (k * w) list f (pos 0)

pub record_first : (w : ℕ) (list : List ℤ) (k : ℕ) → 0 < w → at (record_at w list k) 0 ≡ at list (k * w)
record_first w list k h = record_field w list k 0 h ∙ ap (at list) (add-zero (k * w))

pub paste_same : (list : List ℤ) (i w : ℕ) → i + w ≤ length list → paste list i (take w (drop i list)) w ≡ list
paste_same list i w h =
    let whole : take w (take w (drop i list)) ≡ take w (drop i list) = take-take w w (drop i list) (omega arith) in
    ap (λ (t : List ℤ). (take i list ++ t) ++ drop (i + w) list) whole
    ∙ (ap (λ (t : List ℤ). t ++ drop (i + w) list) (sym (take-add i w list)) ∙ take-append-drop (i + w) list)

pub keep_snoc : (test : Record → Bool) (rs : List Record) (r : Record) → keep test (rs ++ (r ∷ [])) ≡ cond (test r) (keep test rs ++ (r ∷ [])) (keep test rs)
unfolding keep
keep_snoc test [] r = go (test r)
  where
    go : (b : Bool) → cond b (r ∷ []) [] ≡ cond b (r ∷ []) []
    go b = refl
keep_snoc test (s ∷ rs) r = go (test s) (test r) (keep_snoc test rs r)
  where
    go : (a b : Bool) → keep test (rs ++ (r ∷ [])) ≡ cond b (keep test rs ++ (r ∷ [])) (keep test rs)
        → cond a (s ∷ keep test (rs ++ (r ∷ []))) (keep test (rs ++ (r ∷ []))) ≡ cond b (cond a (s ∷ keep test rs) (keep test rs) ++ (r ∷ [])) (cond a (s ∷ keep test rs) (keep test rs))
    go true true e = ap (λ (l : List Record). s ∷ l) e
    go true false e = ap (λ (l : List Record). s ∷ l) e
    go false true e = e
    go false false e = e

pub drop_paste_behind : (d : List ℤ) (to : ℕ) (s : List ℤ) (f i : ℕ) → to ≤ length d → f ≤ length s → to + f ≤ i → drop i (paste d to s f) ≡ drop i d
drop_paste_behind d to s f i a b h =
    let j : ℕ = i - (to + f) in
    let there : i ≡ to + f + j = omega arith in
    ap (λ (k : ℕ). drop k (paste d to s f)) there
    ∙ (sym (drop-drop j (to + f) (paste d to s f)) ∙ (ap (drop j) (drop-paste d to s f a b) ∙ (drop-drop j (to + f) d ∙ ap (λ (k : ℕ). drop k d) (sym there))))

-- ---- the first k connections are done

pub record KeptSo (start list : List ℤ) (id k count : ℕ) : Type 0 where
  pub long : length list ≡ length start
  pub few : count ≤ k
  pub count_is : count ≡ length (kept_of start k id)
  pub front : take (count * port_width) list ≡ flat (kept_of start k id)
  pub rest : drop (k * port_width) list ≡ drop (k * port_width) start

pub kept_start : (start : List ℤ) (id : ℕ) → KeptSo start start id 0 0
unfolding tabulate keep flat
kept_start start id = record { long = refl; few = omega arith; count_is = refl; front = refl; rest = refl }

-- a number of a connection that is still to come
pub still_at : (start list : List ℤ) (id k count : ℕ) → KeptSo start list id k count → (f : ℕ) → at list (k * port_width + f) ≡ at start (k * port_width + f)
still_at start list id k count s f =
    sym (get_or-drop (k * port_width) list f (pos 0)) ∙ (ap (λ (l : List ℤ). at l f) s.rest ∙ get_or-drop (k * port_width) start f (pos 0))

pub kept_more : (start list list' : List ℤ) (id k count r : ℕ) → k * port_width + port_width ≤ length start → KeptSo start list id k count
    → KeptOne list list' (clear_at id list k) k count r → KeptSo start list' id (k + 1) r
unfolding tabulate
kept_more start list list' id k count r room s one = go (clear_of id block) refl (one.count_is ∙ ap (λ (b : Bool). cond b (count + 1) count) same_test) (one.list_is ∙ moved)
  where
    block : Record
    block = record_at port_width start k

    same : record_at port_width list k ≡ block
    same = ap (take port_width) s.rest

    same_test : clear_at id list k ≡ clear_of id block
    same_test = ap (clear_of id) same

    moved : cond (clear_at id list k) (paste list (count * port_width) (record_at port_width list k) port_width) list ≡ cond (clear_of id block) (paste list (count * port_width) block port_width) list
    moved = ap (λ (t : Record). cond (clear_of id t) (paste list (count * port_width) t port_width) list) same

    size : length block ≡ port_width
    size = length-take-le port_width (drop (k * port_width) start) (omega (arith, length-drop (k * port_width) start))

    grown : kept_of start (k + 1) id ≡ cond (clear_of id block) (kept_of start k id ++ (block ∷ [])) (kept_of start k id)
    grown = ap (λ (n : ℕ). kept_of start n id) (add-one k) ∙ keep_snoc (clear_of id) (tabulate (record_at port_width start) k) block

    later : drop ((k + 1) * port_width) list ≡ drop ((k + 1) * port_width) start
    later =
        let more : (k + 1) * port_width ≡ k * port_width + port_width = omega arith in
        ap (λ (i : ℕ). drop i list) more ∙ (sym (drop-drop port_width (k * port_width) list) ∙ (ap (drop port_width) s.rest ∙ (drop-drop port_width (k * port_width) start ∙ ap (λ (i : ℕ). drop i start) (sym more))))

    go : (b : Bool) → clear_of id block ≡ b → r ≡ cond (clear_of id block) (count + 1) count → list' ≡ cond (clear_of id block) (paste list (count * port_width) block port_width) list
        → KeptSo start list' id (k + 1) r
    go true e c l =
        let c' : r ≡ count + 1 = c ∙ rw e in
        let l' : list' ≡ paste list (count * port_width) block port_width = l ∙ rw e in
        let kept : kept_of start (k + 1) id ≡ kept_of start k id ++ (block ∷ []) = grown ∙ rw e in
        let whole : take port_width block ≡ block = subst (λ (n : ℕ). take n block ≡ block) size (take-length block) in
        let fits : count * port_width + port_width ≤ length list = omega (arith, s.long, s.few) in
        let next : (count + 1) * port_width ≡ count * port_width + port_width = omega arith in
        record {
          long = ap length l' ∙ (length-paste list (count * port_width) block port_width fits (omega (arith, size)) ∙ s.long);
          few = omega (arith, c', s.few);
          count_is = c' ∙ (omega (arith, s.count_is, length-append (kept_of start k id) (block ∷ [])) ∙ ap length (sym kept));
          front = rw (c', l', next, kept)
              (take-paste list (count * port_width) block port_width (omega (arith, fits)) (omega (arith, size)) ∙ (rw (whole, s.front) (sym (flat_snoc (kept_of start k id) block))));
          rest = rw l' (drop_paste_behind list (count * port_width) block port_width ((k + 1) * port_width) (omega (arith, fits)) (omega (arith, size)) (omega (arith, s.few)) ∙ later);
        }
    go false e c l =
        let c' : r ≡ count = c ∙ rw e in
        let l' : list' ≡ list = l ∙ rw e in
        let kept : kept_of start (k + 1) id ≡ kept_of start k id = grown ∙ rw e in
        record {
          long = ap length l' ∙ s.long;
          few = omega (arith, c', s.few);
          count_is = c' ∙ (s.count_is ∙ ap length (sym kept));
          front = rw (c', l', kept) s.front;
          rest = rw l' later;
        }

-- zeros behind what is kept
pub kept_done : (start list list' : List ℤ) (id n count : ℕ) → n * port_width ≤ length start → KeptSo start list id n count
    → list' ≡ paste list (count * port_width) (replicate ((n - count) * port_width) (pos 0)) ((n - count) * port_width) → Dropped start list' n id count
kept_done start list list' id n count room s e =
    let m : ℕ = (n - count) * port_width in
    let zeros : take m (replicate m (pos 0)) ≡ replicate m (pos 0) = subst (λ (k : ℕ). take k (replicate m (pos 0)) ≡ replicate m (pos 0)) (length-replicate m (pos 0)) (take-length (replicate m (pos 0))) in
    let end : count * port_width + m ≡ n * port_width = omega (arith, s.few) in
    record {
      count_is = s.count_is;
      few = s.few;
      list_is = e ∙ (rw (zeros, end, s.front, s.rest) (append_assoc (flat (kept_of start n id)) (replicate m (pos 0)) (drop (n * port_width) start)));
    }
