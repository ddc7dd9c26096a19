-- How many bytes the lists of a short sheet take at most, whose fields are in their ranges.
--     line_sized                       the line of a count
--     components_sized, connections_sized, frontiers_sized    a list, by how many records it has
-- Assumes nothing.
use Prim.Native.Nat.{ℕ, zero, suc, ◌+◌, ◌*◌, ◌/◌, ◌^◌, ◌≤◌, ◌<◌}
use native.Mathlib.Omega.{arith}
use mathlib.Core.Path.{◌≡◌, refl}
use mathlib.Core.Bool.{true}
use mathlib.Core.List.{List, [], ◌∷◌}
use lib.IntN.{ℤ, pos}
use lib.ListN.{length, get_or, length-append}
use borrow.Author.Tests.{ltb-true}
use Rattle.std.specs.Prelude.{None}
use Rattle.lines.specs.Decimal.{number, line_of}
use Rattle.lines.proofs.Writing.{line_size}
use Rattle.lists.specs.Signed.{at, in_range}
use Rattle.lists.specs.Ranges.{first_out_of_range, component_low, component_high, connection_low, connection_high, frontier_low, frontier_high}
use Rattle.lists.specs.declared.Section.TheVariants.{Components, Connections, Frontiers}
use Rattle.lists.proofs.Fields.{within}
use Rattle.forms.specs.Form.{write_records}
use Rattle.forms.specs.declared.Style.TheVariants.{Short}
use Rattle.forms.specs.Tables.{short_components, short_connections, short_frontiers, count_key}
use Rattle.forms.specs.Writing.{count_of, list_text}
use Rattle.forms.proofs.Sizes.{digits_sized, natural_sized, signed_sized, sized, ranged_sized}

pub line_sized : (key : List ℕ) (k n : ℕ) → n < 10 ^ suc k → length (line_of key (pos n)) ≤ length key + k + 3
line_sized key k n h = omega (arith, line_size key (pos n), digits_sized k 19 n [] h)

-- ---- a number, by its field

coordinate_sized : (z : ℤ) → in_range (at frontier_low 0) (at frontier_high 0) z ≡ true → length (number z []) ≤ 9
coordinate_sized z e = signed_sized 7 29999999 30000000 z (ltb-true _ _ refl) (ltb-true _ _ refl) e

-- id; x, y, z; kind; facing, support, conducts
abbrev component_sizes : List ℕ
component_sizes = 10 ∷ 9 ∷ 9 ∷ 9 ∷ 2 ∷ 1 ∷ 1 ∷ 1 ∷ []

component_sized : (f : ℕ) (z : ℤ) → f < length component_low → in_range (at component_low f) (at component_high f) z ≡ true
    → length (number z []) ≤ get_or component_sizes f 0
component_sized zero z h e = natural_sized 9 4294967295 z (ltb-true _ _ refl) e
component_sized (suc zero) z h e = coordinate_sized z e
component_sized (suc (suc zero)) z h e = coordinate_sized z e
component_sized (suc (suc (suc zero))) z h e = coordinate_sized z e
component_sized (suc (suc (suc (suc zero)))) z h e = natural_sized 1 12 z (ltb-true _ _ refl) e
component_sized (suc (suc (suc (suc (suc zero))))) z h e = natural_sized 0 6 z (ltb-true _ _ refl) e
component_sized (suc (suc (suc (suc (suc (suc zero)))))) z h e = natural_sized 0 6 z (ltb-true _ _ refl) e
component_sized (suc (suc (suc (suc (suc (suc (suc zero))))))) z h e = natural_sized 0 1 z (ltb-true _ _ refl) e
component_sized (suc (suc (suc (suc (suc (suc (suc (suc f)))))))) z h e = absurd (omega arith)

-- source, sink; kind
abbrev connection_sizes : List ℕ
connection_sizes = 10 ∷ 10 ∷ 1 ∷ []

connection_sized : (f : ℕ) (z : ℤ) → f < length connection_low → in_range (at connection_low f) (at connection_high f) z ≡ true
    → length (number z []) ≤ get_or connection_sizes f 0
connection_sized zero z h e = natural_sized 9 4294967295 z (ltb-true _ _ refl) e
connection_sized (suc zero) z h e = natural_sized 9 4294967295 z (ltb-true _ _ refl) e
connection_sized (suc (suc zero)) z h e = natural_sized 0 9 z (ltb-true _ _ refl) e
connection_sized (suc (suc (suc f))) z h e = absurd (omega arith)

-- x, y, z
abbrev frontier_sizes : List ℕ
frontier_sizes = 9 ∷ 9 ∷ 9 ∷ []

frontier_sized : (f : ℕ) (z : ℤ) → f < length frontier_low → in_range (at frontier_low f) (at frontier_high f) z ≡ true
    → length (number z []) ≤ get_or frontier_sizes f 0
frontier_sized zero z h e = coordinate_sized z e
frontier_sized (suc zero) z h e = coordinate_sized z e
frontier_sized (suc (suc zero)) z h e = coordinate_sized z e
frontier_sized (suc (suc (suc f))) z h e = absurd (omega arith)

-- ---- the records, by how many there are

component_records : (n : ℕ) (cs : List ℤ) → n ≡ length cs / 8 → first_out_of_range component_low component_high cs ≡ None
    → length (write_records short_components n cs) ≤ n * 52
unfolding sized
component_records n cs c e =
    ranged_sized short_components component_sizes n (within n component_low component_high cs (omega arith) e) refl (omega arith) (omega arith) component_sized

connection_records : (n : ℕ) (ps : List ℤ) → n ≡ length ps / 3 → first_out_of_range connection_low connection_high ps ≡ None
    → length (write_records short_connections n ps) ≤ n * 26
unfolding sized
connection_records n ps c e =
    ranged_sized short_connections connection_sizes n (within n connection_low connection_high ps (omega arith) e) refl (omega arith) (omega arith) connection_sized

frontier_records : (n : ℕ) (fs : List ℤ) → n ≡ length fs / 3 → first_out_of_range frontier_low frontier_high fs ≡ None
    → length (write_records short_frontiers n fs) ≤ n * 32
unfolding sized
frontier_records n fs c e =
    ranged_sized short_frontiers frontier_sizes n (within n frontier_low frontier_high fs (omega arith) e) refl (omega arith) (omega arith) frontier_sized

-- ---- the lists

pub components_sized : (k : ℕ) (cs : List ℤ) → count_of Short Components cs < 10 ^ suc k → first_out_of_range component_low component_high cs ≡ None
    → length (list_text Short Components cs) ≤ count_of Short Components cs * 52 + k + 13
components_sized k cs h e =
    let n = count_of Short Components cs in
    let l = line_of (count_key Components) (pos n) in
    omega (arith, length-append l (write_records short_components n cs), line_sized (count_key Components) k n h, component_records n cs refl e)

pub connections_sized : (k : ℕ) (ps : List ℤ) → count_of Short Connections ps < 10 ^ suc k → first_out_of_range connection_low connection_high ps ≡ None
    → length (list_text Short Connections ps) ≤ count_of Short Connections ps * 26 + k + 14
connections_sized k ps h e =
    let n = count_of Short Connections ps in
    let l = line_of (count_key Connections) (pos n) in
    omega (arith, length-append l (write_records short_connections n ps), line_sized (count_key Connections) k n h, connection_records n ps refl e)

pub frontiers_sized : (k : ℕ) (fs : List ℤ) → count_of Short Frontiers fs < 10 ^ suc k → first_out_of_range frontier_low frontier_high fs ≡ None
    → length (list_text Short Frontiers fs) ≤ count_of Short Frontiers fs * 32 + k + 12
frontiers_sized k fs h e =
    let n = count_of Short Frontiers fs in
    let l = line_of (count_key Frontiers) (pos n) in
    omega (arith, length-append l (write_records short_frontiers n fs), line_sized (count_key Frontiers) k n h, frontier_records n fs refl e)
