-- A small plot: two levers, 20 and 30, two wires, 5 and 7, and a repeater, 9. Each lever feeds both wires; both wires feed the repeater's
-- input, port 1, and wire 5 its side, port 3, too; wire 7 also feeds 5; lever 20 supports the repeater.
-- Assumes nothing.
use Prim.Native.Nat.{ℕ}
use mathlib.Core.Path.{◌≡◌, refl}
use mathlib.Core.Bool.{true, false}
use mathlib.Core.List.{List, [], ◌∷◌, ◌++◌}
use mathlib.Core.Logic.{inl}
use native.Mathlib.Omega.{arith}
use lib.IntN.{ℤ, pos}
use Rattle.lists.specs.First.{first_from}
use Rattle.lists.specs.Ids.{place_below}
use Rattle.signals.specs.Sources.{source_kind, is_on_frontier}
use Rattle.trail.specs.Trail.{onward, trail, NotAfter}
use Rattle.trail.specs.Port.{is_drive_id, feeds_next, feeds_into, port_trail}

-- a component at x, 0, 0
block : ℕ → ℕ → ℕ → List ℤ
block id x kind = pos id ∷ pos x ∷ pos 0 ∷ pos 0 ∷ pos kind ∷ pos 1 ∷ pos 0 ∷ pos 0 ∷ []

plot : List ℤ
unfolding block
plot = block 30 0 4 ++ block 7 1 0 ++ block 9 2 1 ++ block 5 3 0 ++ block 20 4 4

wire : ℕ → ℕ → ℕ → ℕ → List ℤ
wire source sink port transfer = pos source ∷ pos 0 ∷ pos sink ∷ pos port ∷ pos transfer ∷ []

wires : List ℤ
unfolding wire
wires =
    wire 30 7 0 0 ++ wire 30 5 0 0 ++ wire 20 5 0 0 ++ wire 20 7 0 0 ++ wire 7 9 1 0 ++ wire 5 9 1 0 ++ wire 5 9 3 0 ++ wire 7 5 0 0 ++ wire 20 9 1 6

-- the best trail of port 1, another of two ids, and one of three
accepted : (port_trail plot wires [] 9 1 (20 ∷ 5 ∷ []) ≡ true) × (port_trail plot wires [] 9 1 (20 ∷ 7 ∷ []) ≡ true)
    × (port_trail plot wires [] 9 1 (20 ∷ 7 ∷ 5 ∷ []) ≡ true)
unfolding plot wires block wire trail onward is_drive_id feeds_next feeds_into place_below first_from source_kind is_on_frontier
accepted = (refl, refl, refl)

-- compared from the lever's end on, 20, 7 comes before 30, 5
first_difference : NotAfter (20 ∷ 7 ∷ []) (30 ∷ 5 ∷ [])
first_difference = inl (omega arith)

-- only wire 5 feeds port 3
sink_port : (port_trail plot wires [] 9 3 (20 ∷ 5 ∷ []) ≡ true) × (port_trail plot wires [] 9 3 (20 ∷ 7 ∷ []) ≡ false)
unfolding plot wires block wire trail onward is_drive_id feeds_next feeds_into place_below first_from source_kind is_on_frontier
sink_port = (refl, refl)

-- no trail: the empty list, one that begins at a wire, an id that is no component, a lever that only supports the device, a step that no
-- connection makes
refused : (port_trail plot wires [] 9 1 [] ≡ false) × (port_trail plot wires [] 9 1 (5 ∷ []) ≡ false) × (port_trail plot wires [] 9 1 (8 ∷ 5 ∷ []) ≡ false)
    × (port_trail plot wires [] 9 1 (20 ∷ []) ≡ false) × (port_trail plot wires [] 9 1 (20 ∷ 5 ∷ 7 ∷ []) ≡ false)
unfolding plot wires block wire trail onward is_drive_id feeds_next feeds_into place_below first_from source_kind is_on_frontier
refused = (refl, refl, refl, refl, refl)
