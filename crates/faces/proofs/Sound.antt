-- What holds of every component's ports under all rules: there are at most seven, and Structural ones face Down only.
-- Assumes nothing.
use mathlib.Core.Path.{◌≡◌, refl}
use mathlib.Core.Bool.{Bool, true, false, cond, not, ◌&&◌, ◌||◌}
use mathlib.Core.List.{List, [], ◌∷◌}
use Prim.Native.Nat.{ℕ, zero, suc, ◌≤◌, ◌<◌}
use native.Mathlib.Nat.{le_of_suc-le-suc, not-suc-le-zero}
use lib.Dec.{leb, eqb}
use lib.ListN.{length, get_or}
use borrow.Author.Tests.{leb-true, eqb-true, eq-eqb}
use Rattle.lists.specs.First.{all_from}
use Rattle.lists.proofs.Search.{both}
use Rattle.faces.specs.Ports.{Port, opposite, face_or, neither, four, support_down, Down, Input, RedstoneSignal, Structural, repeater_ports, ports_by_kind, ports_by_facing, piston_kind, blank_ports, ports_for}
use Rattle.faces.specs.Rows.{port_places}
use Rattle.faces.specs.Select.{port_at}
use Rattle.faces.proofs.Computed.{every, no_ports}
use Rattle.faces.proofs.Unread.{each_ports}

-- the tests

abbrev downward : Port → Bool
downward p = not (eqb p.channel Structural) || eqb p.face Down

unfoldable down_only : List Port → Bool
down_only [] = true
down_only (p ∷ ports) = downward p && down_only ports

abbrev sound : List Port → Bool
sound ports = leb (length ports) port_places && down_only ports

-- ---- what they say

blank_sound : (kind : ℕ) → sound (blank_ports kind) ≡ true
unfolding down_only
blank_sound kind = go (eqb kind piston_kind)
  where
    go : (t : Bool) → sound (cond t (four Input RedstoneSignal) support_down) ≡ true
    go true = refl
    go false = refl

module _ (rules kind facing support conducts : ℕ) where
  sound_by_facing : sound (ports_by_facing kind facing support conducts) ≡ true
  unfolding all_from face_or opposite neither repeater_ports ports_by_facing down_only
  sound_by_facing = every (λ k f s c. sound (get_or (ports_by_kind f s c) k [])) refl (λ k f s c h. rw (no_ports k f s c h)) kind facing support conducts

  all_sound : sound (ports_for rules kind facing support conducts) ≡ true
  all_sound = each_ports rules kind facing support conducts (λ ports. sound ports ≡ true) (blank_sound kind) sound_by_facing

  pub ports_few : length (ports_for rules kind facing support conducts) ≤ port_places
  ports_few = leb-true _ _ (both _ _ all_sound).0

down_only_lem : (ports : List Port) → down_only ports ≡ true → (i : ℕ) → i < length ports → (port_at ports i).channel ≡ Structural → (port_at ports i).face ≡ Down
unfolding down_only
down_only_lem [] e i h s = absurd (not-suc-le-zero h)
down_only_lem (p ∷ ports) e zero h s = eqb-true p.face Down (rw (eq-eqb p.channel Structural s) at (both (downward p) (down_only ports) e).0)
down_only_lem (p ∷ ports) e (suc i) h s = down_only_lem ports (both (downward p) (down_only ports) e).1 i (le_of_suc-le-suc h) s

pub structural_down : (rules kind facing support conducts i : ℕ) → i < length (ports_for rules kind facing support conducts)
    → (port_at (ports_for rules kind facing support conducts) i).channel ≡ Structural → (port_at (ports_for rules kind facing support conducts) i).face ≡ Down
structural_down rules kind facing support conducts i h s =
    let ports = ports_for rules kind facing support conducts in
    down_only_lem ports (both (leb (length ports) port_places) (down_only ports) (all_sound rules kind facing support conducts)).1 i h s
