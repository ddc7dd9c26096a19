-- Ports in the places of an array.
--     at_place, past_ports    a place with a port, and the first without one
--     ports_long              there are no more ports than places
--     ports_back              a list of ports is what its places hold
--     below_long, port_below  the ports of the rows below a count, and one of them
-- Assumes nothing.
use mathlib.Core.Path.{◌≡◌, refl, ap, ap₂, ◌∙◌}
use mathlib.Core.List.{List, [], ◌∷◌, ◌++◌, map}
use Prim.Native.Nat.{ℕ, zero, suc, min, ◌≤◌, ◌<◌, ◌-◌, zero-le}
use native.Mathlib.Omega.{arith}
use native.Mathlib.Nat.{le_of_suc-le-suc, not-suc-le-zero}
use lib.ListN.{length, get_or, take, replicate, length-take, length-map, get_or-map}
use lib.Seq.{get_or-take}
use Rattle.std.specs.Prelude.{Option, Some, None}
use Rattle.faces.specs.Ports.{Port as Numbers}
use Rattle.faces.specs.Rows.{port_places, places_of, port_of, ports_below}
use Rattle.faces.specs.Codes.{port_code, numbers_at, ports_in}
use Rattle.faces.specs.Select.{port_at}
use Rattle.faces.specs.declared.ports.Port.{Port}

-- where all places before it have a port
pub at_place : (places : List (Option Port)) (i : ℕ) (p : Port) → i ≤ length (ports_in places) → get_or places i None ≡ Some p
    → (i < length (ports_in places)) × (port_at (ports_in places) i ≡ port_code p)
at_place [] i p h e = absurd (let n : ◌≡◌ {A = Option Port} None (Some p) = e in cc)
at_place (Some q ∷ places) zero p h e = (omega arith, let same : q ≡ p = cc in ap port_code same)
at_place (Some q ∷ places) (suc i) p h e = let rest = at_place places i p (le_of_suc-le-suc h) e in (omega (arith, rest.0), rest.1)
at_place (None ∷ places) zero p h e = absurd (let n : ◌≡◌ {A = Option Port} None (Some p) = e in cc)
at_place (None ∷ places) (suc i) p h e = absurd (not-suc-le-zero h)

pub past_ports : (places : List (Option Port)) (i : ℕ) → i ≤ length (ports_in places) → ((p : Port) → get_or places i None ≡ Some p → ⊥) → length (ports_in places) ≤ i
past_ports [] i h n = zero-le
past_ports (Some q ∷ places) zero h n = absurd (n q refl)
past_ports (Some q ∷ places) (suc i) h n = let rest = past_ports places i (le_of_suc-le-suc h) n in omega arith
past_ports (None ∷ places) i h n = zero-le

pub ports_long : (places : List (Option Port)) → length (ports_in places) ≤ length places
ports_long [] = zero-le
ports_long (Some q ∷ places) = let rest = ports_long places in omega arith
ports_long (None ∷ places) = zero-le

back : (places : List (Option Port)) (ports : List Numbers) (n : ℕ) → map numbers_at places ≡ map Some ports ++ replicate n None → ports_in places ≡ ports
back [] [] n e = refl
back [] (p ∷ ports) n e = absurd (cc)
back (None ∷ places) [] n e = refl
back (None ∷ places) (p ∷ ports) n e = absurd (cc)
back (Some q ∷ places) [] zero e = absurd (cc)
back (Some q ∷ places) [] (suc n) e = absurd (cc)
back (Some q ∷ places) (p ∷ ports) n e =
    let here : port_code q ≡ p = cc in
    let later : map numbers_at places ≡ map Some ports ++ replicate n None = cc in
    ap₂ ◌∷◌ here (back places ports n later)

pub ports_back : (places : List (Option Port)) (ports : List Numbers) → map numbers_at places ≡ places_of ports → ports_in places ≡ ports
ports_back places ports e = back places ports (port_places - length ports) e

pub below_long : (rows : List (List ℕ)) (count : ℕ) → length (ports_below rows count) ≡ min count (length rows)
below_long rows count = length-map (take count rows) port_of ∙ length-take count rows

pub port_below : (rows : List (List ℕ)) (count i : ℕ) → i < count → port_at (ports_below rows count) i ≡ port_of (get_or rows i [])
port_below rows count i h = get_or-map port_of (take count rows) i [] ∙ ap port_of (get_or-take count rows i [] h)
