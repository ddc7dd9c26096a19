-- The numbers that stand for roles, channels and faces (specs/Ports.antt), for slopes (specs/Step.antt), and for the places of a
-- component's ports.
-- Assumes nothing: these are definitions.
use Rattle.std.specs.Prelude.{ℕ, ◌<◌, ◌≡◌, ◌⊎◌, List, [], ◌∷◌, Option, Some, None, Result, MatchResult}
use Rattle.faces.specs.Ports.{port}
use Rattle.faces.specs.Ports.{Port as Numbers}
use Rattle.faces.specs.declared.face.Face.{Face}
use Rattle.faces.specs.declared.face.Face.TheVariants.{North, East, South, West, Up, Down}
use Rattle.faces.specs.declared.face.UnknownFace.{UnknownFace}
use Rattle.faces.specs.declared.ports.Role.{Role}
use Rattle.faces.specs.declared.ports.Role.TheVariants.{Input, Output, Bidirectional, Control, Support}
use Rattle.faces.specs.declared.ports.Channel.{Channel}
use Rattle.faces.specs.declared.ports.Channel.TheVariants.{RedstoneSignal, WeakPower, StrongPower, Mechanical, Structural}
use Rattle.faces.specs.declared.ports.Port.{Port}
use Rattle.faces.specs.declared.step.Slope.{Slope}
use Rattle.faces.specs.declared.step.Slope.TheVariants.{Level, Rising, Falling}

abbrev pub role_code : Role → ℕ
role_code Input = 0
role_code Output = 1
role_code Bidirectional = 2
role_code Control = 3
role_code Support = 4

abbrev pub channel_code : Channel → ℕ
channel_code RedstoneSignal = 0
channel_code WeakPower = 1
channel_code StrongPower = 2
channel_code Mechanical = 3
channel_code Structural = 4

abbrev pub face_code : Face → ℕ
face_code North = 1
face_code East = 2
face_code South = 3
face_code West = 4
face_code Up = 5
face_code Down = 6

abbrev pub slope_code : Slope → ℕ
slope_code Level = 0
slope_code Rising = 1
slope_code Falling = 2

-- 0 for none
abbrev pub face_number : Option Face → ℕ
face_number (Some face) = face_code face
face_number None = 0

-- the face with this number, or an error with a number that no face has
abbrev pub NamesFace : ℕ → Result Face UnknownFace → Type 0
NamesFace number r = MatchResult r (λ face. face_code face ≡ number) (λ e. (e.0 ≡ number) × ((number ≡ 0) ⊎ (6 < number)))

-- a port by its numbers
abbrev pub port_code : Port → Numbers
port_code p = port (role_code p.role) (face_code p.face) (channel_code p.channel)

-- a place by the numbers of its port, if it has one
abbrev pub numbers_at : Option Port → Option Numbers
numbers_at (Some p) = Some (port_code p)
numbers_at None = None

-- the ports before the first place without one
abbrev pub ports_in : List (Option Port) → List Numbers
ports_in [] = []
ports_in (Some p ∷ places) = port_code p ∷ ports_in places
ports_in (None ∷ places) = []
