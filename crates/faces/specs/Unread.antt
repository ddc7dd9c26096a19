-- What facings left blank do to ports (document 02, R-7), as statements. The theorems are in proofs/Unread.antt.
--     UnreadPorts      of any rules number and component
--     ReadPorts        of rules 1 and 2
-- Assumes nothing: these are definitions.
use Rattle.std.specs.Prelude.{ℕ, ◌≡◌, ◌≤◌, ◌⊎◌, false, [], ◌∷◌, length}
use Rattle.lists.specs.Records.{Component}
use Rattle.faces.specs.Ports.{Input, Support, RedstoneSignal, Structural, NoFace, North, East, South, West, Down, port, ports_by_facing, piston_kind, unread, ports_of}

pub record UnreadPorts (rules : ℕ) (c : Component) : Type 0 where
  -- "facing 0 gives a Repeater or Comparator its Support port only, as port 0"
  pub repeater : 3 ≤ rules → c.facing ≡ NoFace → (c.kind ≡ 1) ⊎ (c.kind ≡ 2) → ports_of rules c ≡ port Support Down Structural ∷ []
  -- "and gives a Piston its four Inputs only"
  pub piston : 3 ≤ rules → c.facing ≡ NoFace → c.kind ≡ piston_kind
      → ports_of rules c
      ≡ port Input North RedstoneSignal ∷ port Input East RedstoneSignal ∷ port Input South RedstoneSignal ∷ port Input West RedstoneSignal ∷ []
  -- so one port, or four
  pub one : 3 ≤ rules → c.facing ≡ NoFace → (c.kind ≡ 1) ⊎ (c.kind ≡ 2) → length (ports_of rules c) ≡ 1
  pub four_sides : 3 ≤ rules → c.facing ≡ NoFace → c.kind ≡ piston_kind → length (ports_of rules c) ≡ 4
  -- every other component has its ports by facing
  pub other : unread rules c ≡ false → ports_of rules c ≡ ports_by_facing c.kind c.facing c.support c.conducts

-- under rules 1 and 2 every component has, and so the same under both
pub record ReadPorts (c : Component) : Type 0 where
  pub by_facing : (rules : ℕ) → rules ≤ 2 → ports_of rules c ≡ ports_by_facing c.kind c.facing c.support c.conducts
  pub same : ports_of 2 c ≡ ports_of 1 c
