-- What becomes of connections at a device whose facing was left blank (document 02, R-7), as statements. The theorems are in
-- proofs/Unread.antt.
--     UnreadDropped     of one connection
--     ReadKept          of all, under rules 1 and 2
-- Assumes nothing: these are definitions.
use Rattle.std.specs.Prelude.{Some}
use Rattle.std.specs.Prelude.{ℕ, ◌≡◌, ◌≤◌, ◌<◌, ◌⊎◌, true, false, List, [], ℤ}
use Rattle.lists.specs.Records.{component, connection}
use Rattle.lists.specs.Ids.{place_of}
use Rattle.faces.specs.Ports.{piston_kind, unread}
use Rattle.scene.specs.Kept.{link_of, kept_row, kept_rows, sloped_row, sloped_rows}

-- connection k gives no row
pub record Dropped (rules : ℕ) (cs ps : List ℤ) (k : ℕ) : Type 0 where
  pub kept : kept_row rules cs ps k ≡ []
  pub sloped : sloped_row rules cs ps k ≡ []

-- of connection k, whose source or sink is the component at a place
pub record UnreadDropped (rules : ℕ) (cs ps : List ℤ) (k : ℕ) : Type 0 where
  -- what leads from an unread device is dropped
  pub from : (a : ℕ) → place_of cs (connection ps k).source ≡ Some a → unread rules (component cs a) ≡ true → Dropped rules cs ps k
  -- and what leads to one, unless it is a Piston
  pub into : (b : ℕ) → place_of cs (connection ps k).sink ≡ Some b → unread rules (component cs b) ≡ true → ((component cs b).kind ≡ piston_kind → ⊥)
      → Dropped rules cs ps k
  -- a connection between any others, and from any other to a Piston, keeps the ports, if any, that it has under rules 1
  pub stays : (a b : ℕ) → place_of cs (connection ps k).source ≡ Some a → place_of cs (connection ps k).sink ≡ Some b
      → unread rules (component cs a) ≡ false → (unread rules (component cs b) ≡ false) ⊎ ((component cs b).kind ≡ piston_kind)
      → link_of rules cs (connection ps k) ≡ link_of 1 cs (connection ps k)
  -- and at an unread Piston it is one of the four sides
  pub sides : (b i j : ℕ) → place_of cs (connection ps k).sink ≡ Some b → unread rules (component cs b) ≡ true → (component cs b).kind ≡ piston_kind
      → link_of rules cs (connection ps k) ≡ Some (i, j) → j < 4

-- what is kept of a scene
pub record ReadKept (rules : ℕ) (cs ps : List ℤ) : Type 0 where
  pub kept : rules ≤ 2 → kept_rows rules cs ps ≡ kept_rows 1 cs ps
  pub sloped : rules ≤ 2 → sloped_rows rules cs ps ≡ sloped_rows 1 cs ps
