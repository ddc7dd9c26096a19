-- The answer of reading a sheet and what it leaves, where its lists are stored: how many records each has, and the room for them.
-- Assumes nothing.
use Prim.Native.Nat.{ℕ}
use native.Mathlib.Omega.{arith}
use mathlib.Core.Path.{◌≡◌, refl}
use mathlib.Core.Bool.{Bool, true, false, ◌&&◌}
use mathlib.Core.List.{List}
use lib.IntN.{ℤ}
use lib.ListN.{length}
use Rattle.lists.specs.Limits.{component_width, connection_width, frontier_width}
use Rattle.lists.specs.Records.{component_count, connection_count, frontier_count}
use Rattle.lists.specs.Slices.{laid}
use Rattle.lists.specs.declared.Section.TheVariants.{Components, Connections, Frontiers}
use Rattle.checks.specs.Refusals.{room_for}
use Rattle.forms.specs.declared.Style.{Style}
use Rattle.forms.specs.declared.sheet.Sheet as found
use Rattle.forms.specs.Sheet.{Parsed, Sheet}
use Rattle.forms.specs.Places.{AllStand}
use Rattle.forms.proofs.Tables.{same_width}
use Rattle.sheet.specs.Entry.{enough_room, SheetRead}
use Rattle.std.specs.Prelude.{Ok}

module _ (p : Parsed) (a b c : List ℤ) {style : Style} {rules : ℕ} {cs ps fs : List ℤ} (e : p ≡ Sheet style rules cs ps fs) where
  pub read : {a' b' c' : List ℤ} {x y z : ℕ} → enough_room cs ps fs (length a) (length b) (length c) ≡ true
      → a' ≡ laid cs a → b' ≡ laid ps b → c' ≡ laid fs c
      → x ≡ component_count cs → y ≡ connection_count ps → z ≡ frontier_count fs
      → SheetRead p a a' b b' c c'
      (Ok (record { style = style; rules = rules; counts = record { components = x; connections = y; frontiers = z } }))
  read h i j l k m n = record {
    answer = rw (e, h, k, m, n);
    numbers = rw (e, h, k, m, n);
    components_left = rw (e, h) i;
    connections_left = rw (e, h) j;
    frontiers_left = rw (e, h) l;
  }

-- ---- the counts, and the room

module _ {text : List ℕ} {cs ps fs : List ℤ} {x : found.Sheet} (s : AllStand text cs ps fs x) where
  pub components_count : x.components.count ≡ component_count cs
  components_count = omega (arith, rw (same_width x.style Components) at s.of_components.total)

  pub connections_count : x.connections.count ≡ connection_count ps
  connections_count = omega (arith, rw (same_width x.style Connections) at s.of_connections.total)

  pub frontiers_count : x.frontiers.count ≡ frontier_count fs
  frontiers_count = omega (arith, rw (same_width x.style Frontiers) at s.of_frontiers.total)

joined : (x y z : Bool) → x && (y && z) ≡ (x && y) && z
joined true y z = refl
joined false y z = refl

module _ {text : List ℕ} {cs ps fs : List ℤ} {q : found.Sheet} (s : AllStand text cs ps fs q) (components connections frontiers : ℕ) where
  -- as the code tests it
  pub tested : {x y z : Bool} → x ≡ room_for q.components.count component_width components → y ≡ room_for q.connections.count connection_width connections
      → z ≡ room_for q.frontiers.count frontier_width frontiers → enough_room cs ps fs components connections frontiers ≡ ((x && y) && z)
  tested {x} {y} {z} e f g =
      rw (← components_count s, ← connections_count s, ← frontiers_count s, ← e, ← f, ← g) (joined x y z)
