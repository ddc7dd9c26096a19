-- The face of a step (document 01, "scene.rs: ports", and W3) and its slope (document 02, R-2). A step is sink minus source: East is x + 1,
-- South z + 1, Up y + 1.
-- Assumes nothing: these are definitions.
use Rattle.std.specs.Prelude.{ℕ, zero, suc, Bool, cond, ◌&&◌, eqb, ℤ, pos, negsuc, ◌-ℤ◌}
use Rattle.lists.specs.Signed.{in_range}
use Rattle.lists.specs.Ranges.{least_coordinate, greatest_coordinate}
use Rattle.lists.specs.Records.{Component}
use Rattle.faces.specs.Ports.{NoFace, North, East, South, West, Up, Down}
use Rattle.faces.specs.declared.step.Shift.{Shift}
use Rattle.faces.specs.declared.step.Shift.TheVariants.{Back, Same, Ahead, Far}

-- a difference: -1, 0, 1, or no single step
abbrev pub shift : ℤ → Shift
shift (negsuc zero) = Back
shift (pos zero) = Same
shift (pos (suc zero)) = Ahead
shift (pos (suc (suc n))) = Far
shift (negsuc (suc n)) = Far

-- the horizontal face by x and z, or `vertical` where neither moves
abbrev pub level_face : ℕ → Shift → Shift → ℕ
level_face vertical Same Back = North
level_face vertical Ahead Same = East
level_face vertical Same Ahead = South
level_face vertical Back Same = West
level_face vertical Same Same = vertical
level_face vertical Same Far = NoFace
level_face vertical Back Back = NoFace
level_face vertical Back Ahead = NoFace
level_face vertical Back Far = NoFace
level_face vertical Ahead Back = NoFace
level_face vertical Ahead Ahead = NoFace
level_face vertical Ahead Far = NoFace
level_face vertical Far z = NoFace

-- a horizontal step of one may rise or fall by one and keeps its face; a pure y step of one is Up or Down
abbrev pub face_of : Shift → Shift → Shift → ℕ
face_of x Same z = level_face NoFace x z
face_of x Ahead z = level_face Up x z
face_of x Back z = level_face Down x z
face_of x Far z = NoFace

-- ---- slopes

abbrev pub Level : ℕ
Level = 0

abbrev pub Rising : ℕ
Rising = 1

abbrev pub Falling : ℕ
Falling = 2

-- by the shift of y, of a step that has a face: one that is pure Up rises, one that is pure Down falls
abbrev pub slope_of : Shift → ℕ
slope_of Same = Level
slope_of Ahead = Rising
slope_of Back = Falling
slope_of Far = Level

-- ---- from source to sink

abbrev pub is_coordinate : ℤ → Bool
is_coordinate v = in_range least_coordinate greatest_coordinate v

abbrev pub is_position : ℤ → ℤ → ℤ → Bool
is_position x y z = is_coordinate x && (is_coordinate y && is_coordinate z)

-- along one axis
unfoldable pub shift_between : ℤ → ℤ → Shift
shift_between source sink = cond (is_coordinate source && is_coordinate sink) (shift (sink -ℤ source)) Far

-- coordinates out of range give no face; the entries never ask that
unfoldable pub facing_between : ℤ → ℤ → ℤ → ℤ → ℤ → ℤ → ℕ
facing_between x y z x' y' z' =
    cond (is_position x y z && is_position x' y' z') (face_of (shift (x' -ℤ x)) (shift (y' -ℤ y)) (shift (z' -ℤ z))) NoFace

abbrev pub step_face : Component → Component → ℕ
step_face source sink = facing_between source.x source.y source.z sink.x sink.y sink.z

-- by position alone, whatever the connection's kind; a step without a face is level
unfoldable pub slope_between : ℤ → ℤ → ℤ → ℤ → ℤ → ℤ → ℕ
slope_between x y z x' y' z' = cond (eqb (facing_between x y z x' y' z') NoFace) Level (slope_of (shift (y' -ℤ y)))

abbrev pub step_slope : Component → Component → ℕ
step_slope source sink = slope_between source.x source.y source.z sink.x sink.y sink.z
