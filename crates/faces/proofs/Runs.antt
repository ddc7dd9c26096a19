-- A number above the kinds is the number of none.
--     no_kind
-- Assumes nothing.
use mathlib.Core.Path.{◌≡◌, refl, sym, ◌∙◌}
use mathlib.Core.List.{List, [], ◌∷◌}
use Prim.Native.Nat.{ℕ, zero, suc, ◌+◌, ◌-◌, ◌<◌}
use native.Mathlib.Omega.{arith}
use lib.Dec.{eqb}
use lib.ListN.{get_or}
use lib.Seq.{get_or-drop}
use Rattle.faces.specs.Ports.{Port, face_or, North, Down, ports_by_kind, ports_by_facing}

module _ (kind facing support conducts : ℕ) where
  last_or_none : (n : ℕ) → get_or {A = List Port} ([] ∷ []) n [] ≡ []
  last_or_none zero = refl
  last_or_none (suc n) = refl

  pub no_kind : 11 < kind → ports_by_facing kind facing support conducts ≡ []
  unfolding ports_by_facing
  no_kind p =
      let e : kind ≡ 12 + (kind - 12) = omega arith in
      rw e (sym (get_or-drop 12 (ports_by_kind (face_or North facing) (face_or Down support) (eqb conducts 1)) (kind - 12) []) ∙ last_or_none (kind - 12))
