-- A list of numbers as records, and back.
--     records_length, record_at, field_at      how many there are, and what stands in each
--     record_width, has_width                  each is of the width
--     Wide, flat_length, records_flat          records of the width, put one after the other and taken apart again
--     flat_records                             a list of whole records is its records
-- Assumes nothing.
use Prim.Native.Nat.{ℕ, zero, suc, ◌+◌, ◌*◌, ◌/◌, ◌%◌, ◌≤◌, ◌<◌}
use native.Mathlib.Nat.{zero-mul, suc-mul, add_comm, mul-div_cancel, mul-mod_left, div-add-mod'}
use native.Mathlib.Omega.{arith}
use mathlib.Core.Path.{◌≡◌, refl, sym, ap, ◌∙◌}
use mathlib.Core.List.{List, [], ◌∷◌, ◌++◌, Memᴰ}
use lib.ListN.{length, get_or, take, drop, length-append, length-drop}
use lib.Seq.{length-take-le, take_all, take_at, drop_at, take-add, drop-drop, get_or-take, get_or-drop}
use lib.IntN.{ℤ}
use Rattle.lists.specs.Signed.{at}
use Rattle.lists.proofs.Search.{record_within}
use Rattle.joining.specs.Split.{records, records_of, flat}
use Rattle.joining.specs.Merge.{Has}
use Rattle.joining.proofs.Merges.{has_at, at_has}

-- ---- what the records are

pub records_length : (w n : ℕ) (list : List ℤ) → length (records w n list) ≡ n
unfolding records
records_length w zero list = refl
records_length w (suc n) list = ap suc (records_length w n (drop w list))

pub record_at : (w n : ℕ) (list : List ℤ) (k : ℕ) → k < n → get_or (records w n list) k [] ≡ take w (drop (k * w) list)
unfolding records
record_at w zero list k h = absurd (omega arith)
record_at w (suc n) list zero h = rw (zero-mul w)
record_at w (suc n) list (suc k) h =
    record_at w n (drop w list) k (omega arith)
    ∙ ap (take w) (drop-drop (k * w) w list ∙ ap (λ (m : ℕ). drop m list) (add_comm w (k * w) ∙ sym (suc-mul k w)))

module _ (w : ℕ) (list : List ℤ) where
  pub field_at : (k f : ℕ) → k < length list / w → f < w → at (get_or (records_of w list) k []) f ≡ at list (k * w + f)
  field_at k f h l = rw (record_at w (length list / w) list k h, get_or-take, get_or-drop)

  pub record_width : (k : ℕ) → k < length list / w → length (get_or (records_of w list) k []) ≡ w
  record_width k h =
      let fits : w ≤ length (drop (k * w) list) = omega (arith, length-drop (k * w) list, record_within k (length list) w h) in
      rw (record_at w (length list / w) list k h) (length-take-le w (drop (k * w) list) fits)

  pub has_place : {r : List ℤ} → Has w list r → (k : ℕ) × (k < length list / w) × (get_or (records_of w list) k [] ≡ r)
  has_place m = let p = has_at [] (records_of w list) m in (p.0, omega (arith, p.1, records_length w (length list / w) list), p.2)

  pub place_has : (k : ℕ) → k < length list / w → Has w list (get_or (records_of w list) k [])
  place_has k h = at_has [] (records_of w list) k (omega (arith, records_length w (length list / w) list))

  pub has_width : {r : List ℤ} → Has w list r → length r ≡ w
  has_width m = let p = has_place m in ap length (sym p.2) ∙ record_width p.0 p.1

-- ---- put together, and taken apart

pub record Wide (w : ℕ) (rs : List (List ℤ)) : Type 0 where
  pub each : {r : List ℤ} → Memᴰ r rs → length r ≡ w

wide_tail : {w : ℕ} {r : List ℤ} {rs : List (List ℤ)} → Wide w (r ∷ rs) → Wide w rs
wide_tail wide = record { each = λ m. wide.each (Memᴰ.tail m) }

pub flat_length : (w : ℕ) (rs : List (List ℤ)) → Wide w rs → length (flat rs) ≡ length rs * w
unfolding flat
flat_length w [] wide = sym (zero-mul w)
flat_length w (r ∷ rs) wide =
    omega (arith, length-append r (flat rs), wide.each (Memᴰ.head refl), flat_length w rs (wide_tail wide), suc-mul (length rs) w)

flat_apart : (w : ℕ) (rs : List (List ℤ)) → Wide w rs → records w (length rs) (flat rs) ≡ rs
unfolding records flat
flat_apart w [] wide = refl
flat_apart w (r ∷ rs) wide =
    let long = wide.each (Memᴰ.head refl) in
    rw (take_at r (flat rs) w long, drop_at r (flat rs) w long) (ap (λ (t : List (List ℤ)). r ∷ t) (flat_apart w rs (wide_tail wide)))

module _ (w : ℕ) (positive : 0 < w) where
  pub flat_count : (rs : List (List ℤ)) → Wide w rs → length (flat rs) / w ≡ length rs
  flat_count rs wide = rw (flat_length w rs wide) (mul-div_cancel (length rs) positive)

  pub flat_whole : (rs : List (List ℤ)) → Wide w rs → length (flat rs) % w ≡ 0
  flat_whole rs wide = rw (flat_length w rs wide) (mul-mod_left (length rs) w)

  pub records_flat : (rs : List (List ℤ)) → Wide w rs → records_of w (flat rs) ≡ rs
  records_flat rs wide = rw (flat_count rs wide) (flat_apart w rs wide)

flat_front : (w n : ℕ) (list : List ℤ) → n * w ≤ length list → flat (records w n list) ≡ take (n * w) list
unfolding records flat
flat_front w zero list h = rw (zero-mul w)
flat_front w (suc n) list h =
    let same : suc n * w ≡ w + n * w = suc-mul n w ∙ add_comm (n * w) w in
    rw (same, take-add w (n * w) list) (ap (λ (t : List ℤ). take w list ++ t) (flat_front w n (drop w list) (omega (arith, length-drop w list))))

pub flat_records : (w : ℕ) (list : List ℤ) → length list % w ≡ 0 → flat (records_of w list) ≡ list
flat_records w list whole =
    let all : length list / w * w ≡ length list = omega (arith, div-add-mod' (length list) w) in
    flat_front w (length list / w) list (omega arith) ∙ take_all (length list / w * w) list (omega arith)
