-- A scene whose components and connections are all in another: what its connections join, those of the other join too (A-118: more joins
-- only merge).
--     join_member, member_join      the pairs of `joins`
--     carried                       the theorem, of places
--     numbers_carried               and of the numbers of groups
-- Assumes nothing.
use Rattle.std.specs.Prelude.{Option, Some, None}
use Prim.Native.Nat.{ℕ, zero, suc, ◌≤◌, ◌<◌}
use native.Mathlib.Nat.{le_of_suc-le-suc, not-suc-le-zero, eq-or-lt_of_le}
use native.Mathlib.Omega.{arith}
use mathlib.Core.Path.{◌≡◌, refl, sym, ap, ◌∙◌, subst}
use mathlib.Core.Bool.{Bool, true, false}
use mathlib.Core.List.Memᴰ
use mathlib.Core.List.{List, Memᴰ}
use mathlib.Core.Logic.{⊎_elim}
use lib.Dec.{leb}
use lib.ListN.{get_or}
use lib.IntN.{ℤ}
use Rattle.lists.specs.Limits.{component_limit}
use Rattle.lists.specs.Records.{Connection, component, connection, component_count, connection_count}
use Rattle.lists.specs.Ids.{place_of, first_repeated}
use Rattle.circuit.specs.Connected.{Joined, pair, same, flip, chain}
use Rattle.circuit.specs.Topology.{join_of, joins, joins_of, forest_of}
use Rattle.circuit.specs.Groups.{groups_of}
use Rattle.circuit.proofs.Nets.{numbers_joined}
use Rattle.lists.proofs.Table.{place_below_lem}
use Rattle.joining.proofs.Agrees.{place_id, place_own}

-- connection k counts, and joins the places a and b
pub record Links (cs ps : List ℤ) (top k a b : ℕ) : Type 0 where
  pub counts : leb (connection ps k).kind top ≡ true
  pub from : place_of cs (connection ps k).source ≡ Some a
  pub to : place_of cs (connection ps k).sink ≡ Some b

pub join_member : (cs ps : List ℤ) (top m k a b : ℕ) → k < m → Links cs ps top k a b → Memᴰ {A = ℕ × ℕ} (a, b) (joins cs ps top m)
unfolding joins
join_member cs ps top zero k a b h l = absurd (not-suc-le-zero h)
join_member cs ps top (suc m) k a b h l =
    ⊎_elim
    (λ (e : k ≡ m). Memᴰ.append_right (joins cs ps top m) (last (subst (λ (i : ℕ). Links cs ps top i a b) e l)))
    (λ less. Memᴰ.append_left _ (join_member cs ps top m k a b less l))
    (eq-or-lt_of_le (le_of_suc-le-suc h))
  where
    last : Links cs ps top m a b → Memᴰ {A = ℕ × ℕ} (a, b)
        (join_of (leb (connection ps m).kind top) (place_of cs (connection ps m).source) (place_of cs (connection ps m).sink))
    last n = rw (n.counts, n.from, n.to) (Memᴰ.head refl)

one_join : (t : Bool) (x y : Option ℕ) (a b : ℕ) → Memᴰ {A = ℕ × ℕ} (a, b) (join_of t x y) → (t ≡ true) × ((x ≡ Some a) × (y ≡ Some b))
one_join true (Some p) (Some q) a b m =
    let e : ◌≡◌ {A = ℕ × ℕ} (a, b) (p, q) = Memᴰ.eq_of_singleton m in
    (refl, (ap Some (sym (ap (λ (t : ℕ × ℕ). t.0) e)), ap Some (sym (ap (λ (t : ℕ × ℕ). t.1) e))))
one_join true (Some p) None a b m = absurd (Memᴰ.not-nil m)
one_join true None y a b m = absurd (Memᴰ.not-nil m)
one_join false x y a b m = absurd (Memᴰ.not-nil m)

pub member_join : (cs ps : List ℤ) (top m a b : ℕ) → Memᴰ {A = ℕ × ℕ} (a, b) (joins cs ps top m) → (k : ℕ) × (k < m) × Links cs ps top k a b
unfolding joins
member_join cs ps top zero a b h = absurd (Memᴰ.not-nil h)
member_join cs ps top (suc m) a b h =
    ⊎_elim
    (λ early. let r = member_join cs ps top m a b early in (r.0, omega (arith, r.1), r.2))
    (λ late.
    let o = one_join (leb (connection ps m).kind top) (place_of cs (connection ps m).source) (place_of cs (connection ps m).sink) a b late in
    (m, omega arith, record { counts = o.0; from = o.1.0; to = o.1.1 }))
    (Memᴰ.append_cases (joins cs ps top m) h)

-- ---- from a scene to one that has all of it

-- a place that was found
place_or : Option ℕ → ℕ
place_or (Some k) = k
place_or None = 0

-- where the component at place p stands in other components
pub moved : List ℤ → List ℤ → ℕ → ℕ
moved cs ds p = place_or (place_of ds (component cs p).id)

-- every component and every connection of (cs, ps) is in (ds, qs)
pub record PartOf (cs ps ds qs : List ℤ) : Type 0 where
  pub ids : (p : ℕ) → p < component_count cs → (v : ℕ) × (place_of ds (component cs p).id ≡ Some v)
  pub links : (k : ℕ) → k < connection_count ps → (j : ℕ) × (j < connection_count qs) × (connection qs j ≡ connection ps k)

module _ (cs ps ds qs : List ℤ) (part : PartOf cs ps ds qs) (top : ℕ) where
  -- an id that stands in the one stands in the other
  place_moved : (id a : ℕ) → place_of cs id ≡ Some a → place_of ds id ≡ Some (moved cs ds a)
  unfolding moved place_or
  place_moved id a e =
      let v = part.ids a (place_below_lem cs id a e) in
      ap (place_of ds) (sym (place_id cs id a e)) ∙ v.1 ∙ ap Some (sym (ap place_or v.1))

  pair_carried : (a b : ℕ) → Memᴰ {A = ℕ × ℕ} (a, b) (joins_of cs ps top) → Memᴰ {A = ℕ × ℕ} (moved cs ds a, moved cs ds b) (joins_of ds qs top)
  pair_carried a b m =
      let r = member_join cs ps top (connection_count ps) a b m in
      let j = part.links r.0 r.1 in
      let e = j.2 in
      join_member ds qs top (connection_count qs) j.0 (moved cs ds a) (moved cs ds b) j.1 (record {
        counts = ap (λ (c : Connection). leb c.kind top) e ∙ r.2.counts;
        from = ap (λ (c : Connection). place_of ds c.source) e ∙ place_moved _ a r.2.from;
        to = ap (λ (c : Connection). place_of ds c.sink) e ∙ place_moved _ b r.2.to;
      })

  pub carried : {a b : ℕ} → Joined (joins_of cs ps top) a b → Joined (joins_of ds qs top) (moved cs ds a) (moved cs ds b)
  carried (pair {a} {b} m) = pair (pair_carried a b m)
  carried same = same
  carried (flip j) = flip (carried j)
  carried (chain i j) = chain (carried i) (carried j)

  -- numbers of groups: those that are one stay one
  pub numbers_carried : component_count cs ≤ component_limit → component_count ds ≤ component_limit → first_repeated ds ≡ None
      → (v v' w w' : ℕ) → v < component_count cs → v' < component_count ds → w < component_count cs → w' < component_count ds
      → (component ds v').id ≡ (component cs v).id → (component ds w').id ≡ (component cs w).id
      → get_or (groups_of (forest_of cs ps top) (component_count cs)) v 0 ≡ get_or (groups_of (forest_of cs ps top) (component_count cs)) w 0
      → get_or (groups_of (forest_of ds qs top) (component_count ds)) v' 0 ≡ get_or (groups_of (forest_of ds qs top) (component_count ds)) w' 0
  unfolding moved place_or
  numbers_carried few few' once v v' w w' hv hv' hw hw' ev ew e =
      let j = carried ((numbers_joined cs ps few top v w hv hw).0 e) in
      let pv : moved cs ds v ≡ v' = ap place_or (place_own ds once v' hv' (component cs v).id ev) in
      let pw : moved cs ds w ≡ w' = ap place_or (place_own ds once w' hw' (component cs w).id ew) in
      (numbers_joined ds qs few' top v' w' hv' hw').1
      (subst (λ (x : ℕ). Joined (joins_of ds qs top) x w') pv (subst (λ (x : ℕ). Joined (joins_of ds qs top) (moved cs ds v) x) pw j))
