-- Faces by their numbers.
--     face_or_named, face_or_zero, face_or_above     which numbers name a face
--     code_range                                  a face has a number from 1 to 6
--     named_or                                    the face of a number, or another one
--     same_code                                   faces are one where their numbers are
--     each_face                                   what holds at each face that can be named holds of every number
-- Assumes nothing.
use mathlib.Core.Path.{◌≡◌, refl, sym}
use mathlib.Core.Bool.{Bool, true, false}
use Prim.Native.Nat.{ℕ, ◌<◌}
use native.Mathlib.Omega.{arith}
use mathlib.Core.Logic.{⊎_elim}
use lib.Dec.{eqb, ltb}
use borrow.Author.Tests.{le-leb, lt-leb, ltb-true, ltb-false}
use Rattle.lists.specs.First.{all_from}
use Rattle.lists.proofs.Search.{all_at}
use Rattle.faces.specs.Ports.{face_or}
use Rattle.faces.specs.Codes.{face_code, NamesFace}
use Rattle.faces.specs.declared.face.Face.{Face}
use Rattle.faces.specs.declared.face.Face.TheVariants.{North, East, South, West, Up, Down}
use Rattle.faces.specs.declared.face.UnknownFace.{UnknownFace}
use Rattle.faces.specs.contracts.face.Face.{the_type}
use denote.Enum.Bare.{sameb}
use Rattle.std.specs.Prelude.{Result, Ok, Err}
use Rattle.std.specs.Result.{result_unwrap_or}

-- a face has a number from 1 to 6
pub code_range : (face : Face) → (0 < face_code face) × (face_code face < 7)
code_range North = (omega arith, omega arith)
code_range East = (omega arith, omega arith)
code_range South = (omega arith, omega arith)
code_range West = (omega arith, omega arith)
code_range Up = (omega arith, omega arith)
code_range Down = (omega arith, omega arith)

pub face_or_named : (none face : ℕ) → 0 < face → face < 7 → face_or none face ≡ face
unfolding face_or
face_or_named none face p q = rw (le-leb 1 face p, le-leb face 6 (omega arith))

pub face_or_zero : (none : ℕ) → face_or none 0 ≡ none
unfolding face_or
face_or_zero none = refl

pub face_or_above : (none face : ℕ) → 6 < face → face_or none face ≡ none
unfolding face_or
face_or_above none face p = rw (lt-leb face 6 p, le-leb 1 face (omega arith))

-- the face of a number, or another one where it names none
pub named_or : (none : Face) (number : ℕ) (r : Result Face UnknownFace) (face : Face) → NamesFace number r → face ≡ result_unwrap_or r none
    → face_code face ≡ face_or (face_code none) number
named_or none number (Ok named) face e is = rw (is, ← e) (sym (face_or_named (face_code none) (face_code named) (code_range named).0 (code_range named).1))
named_or none number (Err other) face e is =
    rw is (⊎_elim (λ z. rw z (sym (face_or_zero (face_code none)))) (λ h. sym (face_or_above (face_code none) number h)) e.1)

-- a test of faces that holds at each that can be named, holds of every number
pub each_face : (test : ℕ → Bool) (none : ℕ) → all_from (λ f. test (face_or none f)) 0 7 ≡ true → (face : ℕ) → test (face_or none face) ≡ true
each_face test none e face = go (ltb face 7) refl
  where
    at : (f : ℕ) → f < 7 → test (face_or none f) ≡ true
    at f h = all_at (λ g. test (face_or none g)) 0 7 e f (omega arith) (omega arith)

    go : (t : Bool) → ltb face 7 ≡ t → test (face_or none face) ≡ true
    go true h = at face (ltb-true face 7 h)
    go false h = rw (face_or_above none face (ltb-false face 7 h), ← face_or_zero none) (at 0 (omega arith))

-- faces are one where their numbers are
pub same_code : (a b : Face) → sameb the_type a b ≡ eqb (face_code a) (face_code b)
same_code North North = refl
same_code North East = refl
same_code North South = refl
same_code North West = refl
same_code North Up = refl
same_code North Down = refl
same_code East North = refl
same_code East East = refl
same_code East South = refl
same_code East West = refl
same_code East Up = refl
same_code East Down = refl
same_code South North = refl
same_code South East = refl
same_code South South = refl
same_code South West = refl
same_code South Up = refl
same_code South Down = refl
same_code West North = refl
same_code West East = refl
same_code West South = refl
same_code West West = refl
same_code West Up = refl
same_code West Down = refl
same_code Up North = refl
same_code Up East = refl
same_code Up South = refl
same_code Up West = refl
same_code Up Up = refl
same_code Up Down = refl
same_code Down North = refl
same_code Down East = refl
same_code Down South = refl
same_code Down West = refl
same_code Down Up = refl
same_code Down Down = refl
