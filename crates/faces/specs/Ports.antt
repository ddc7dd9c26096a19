-- The ports of a component (document 01, "scene.rs: ports"). Role and channel are coded in the Rust's order, the face as in "The scene taken in".
-- Assumes nothing: these are definitions.
use Rattle.std.specs.Prelude.{ℕ, Bool, cond, ◌&&◌, ◌||◌, List, [], ◌∷◌, ◌++◌, eqb, leb, get_or}
use Rattle.lists.specs.Records.{Component}
use Rattle.lists.specs.Rules.{blanks_unread}

-- ---- roles

abbrev pub Input : ℕ
Input = 0

abbrev pub Output : ℕ
Output = 1

abbrev pub Bidirectional : ℕ
Bidirectional = 2

abbrev pub Control : ℕ
Control = 3

abbrev pub Support : ℕ
Support = 4

-- ---- channels

abbrev pub RedstoneSignal : ℕ
RedstoneSignal = 0

abbrev pub WeakPower : ℕ
WeakPower = 1

abbrev pub StrongPower : ℕ
StrongPower = 2

abbrev pub Mechanical : ℕ
Mechanical = 3

abbrev pub Structural : ℕ
Structural = 4

-- ---- faces, with 0 for none

abbrev pub NoFace : ℕ
NoFace = 0

abbrev pub North : ℕ
North = 1

abbrev pub East : ℕ
East = 2

abbrev pub South : ℕ
South = 3

abbrev pub West : ℕ
West = 4

abbrev pub Up : ℕ
Up = 5

abbrev pub Down : ℕ
Down = 6

unfoldable pub opposite : ℕ → ℕ
opposite face = get_or (NoFace ∷ South ∷ West ∷ North ∷ East ∷ Down ∷ Up ∷ []) face NoFace

-- a face, or `none` where the number names no face
unfoldable pub face_or : ℕ → ℕ → ℕ
face_or none face = cond (leb North face && leb face Down) face none

-- ---- ports, numbered from 0 by their place in the list

pub record Port : Type 0 where
  pub role : ℕ
  pub face : ℕ
  pub channel : ℕ

abbrev pub port : ℕ → ℕ → ℕ → Port
port role face channel = record { role = role; face = face; channel = channel }

-- North, East, South, West
abbrev pub four : ℕ → ℕ → List Port
four role channel = port role North channel ∷ port role East channel ∷ port role South channel ∷ port role West channel ∷ []

abbrev pub up_down : ℕ → ℕ → List Port
up_down role channel = port role Up channel ∷ port role Down channel ∷ []

-- those at neither of two faces
unfoldable pub neither : ℕ → ℕ → List Port → List Port
neither a b [] = []
neither a b (p ∷ ps) = cond (eqb p.face a || eqb p.face b) (neither a b ps) (p ∷ neither a b ps)

abbrev pub support_down : List Port
support_down = port Support Down Structural ∷ []

-- four Bidirectional, Up, Down Bidirectional, then Support Down
abbrev pub wire_ports : List Port
wire_ports = four Bidirectional RedstoneSignal ++ up_down Bidirectional RedstoneSignal ++ support_down

-- Output at facing, Input opposite, Control on each of the four that is neither, Support Down
unfoldable pub repeater_ports : ℕ → List Port
repeater_ports facing =
    port Output facing RedstoneSignal
    ∷ port Input (opposite facing) RedstoneSignal
    ∷ (neither facing (opposite facing) (four Control RedstoneSignal) ++ support_down)

-- four Output, then Control at the support face
abbrev pub torch_ports : ℕ → List Port
torch_ports support = four Output RedstoneSignal ++ (port Control support RedstoneSignal ∷ [])

abbrev pub lever_ports : List Port
lever_ports = four Output StrongPower

-- four Input, then Output at facing
abbrev pub piston_ports : ℕ → List Port
piston_ports facing = four Input RedstoneSignal ++ (port Output facing Mechanical ∷ [])

-- if it conducts, four, Up, Down Bidirectional; else none
abbrev pub solid_ports : Bool → List Port
solid_ports conducts = cond conducts (four Bidirectional WeakPower ++ up_down Bidirectional WeakPower) []

-- each kind's, in the order of the kinds
abbrev pub ports_by_kind : ℕ → ℕ → Bool → List (List Port)
ports_by_kind facing support conducts =
    let repeater = repeater_ports facing in
    let solid = solid_ports conducts in
    wire_ports  -- RedstoneWire
    ∷ repeater ∷ repeater  -- Repeater, Comparator
    ∷ torch_ports support  -- RedstoneTorch
    ∷ lever_ports ∷ lever_ports ∷ lever_ports ∷ lever_ports  -- Lever, Button, PressurePlate, RedstoneBlock
    ∷ piston_ports facing  -- Piston
    ∷ solid ∷ solid ∷ solid  -- Solid, Transparent, RedstoneLamp
    ∷ [] ∷ []  -- Air

-- A facing of none is North, a support of none is Down. A number that is no kind has no port.
unfoldable pub ports_by_facing : ℕ → ℕ → ℕ → ℕ → List Port
ports_by_facing kind facing support conducts = get_or (ports_by_kind (face_or North facing) (face_or Down support) (eqb conducts 1)) kind []

-- ---- facings left blank (document 02, R-7)

abbrev pub piston_kind : ℕ
piston_kind = 8

-- the kinds that turn with their facing: Repeater, Comparator, Piston
abbrev pub turns : ℕ → Bool
turns kind = eqb kind 1 || (eqb kind 2 || eqb kind piston_kind)

-- by the rules number: of such a kind with a facing of none, where that is not taken as North
abbrev pub is_unread : ℕ → ℕ → ℕ → Bool
is_unread rules kind facing = blanks_unread rules && (eqb facing NoFace && turns kind)

abbrev pub unread : ℕ → Component → Bool
unread rules c = is_unread rules c.kind c.facing

-- "facing 0 gives a Repeater or Comparator its Support port only, as port 0, and gives a Piston its four Inputs only"
abbrev pub blank_ports : ℕ → List Port
blank_ports kind = cond (eqb kind piston_kind) (four Input RedstoneSignal) support_down

-- ---- under each rules number

unfoldable pub ports_for : ℕ → ℕ → ℕ → ℕ → ℕ → List Port
ports_for rules kind facing support conducts =
    cond (is_unread rules kind facing) (blank_ports kind) (ports_by_facing kind facing support conducts)

abbrev pub ports_of : ℕ → Component → List Port
ports_of rules c = ports_for rules c.kind c.facing c.support c.conducts
