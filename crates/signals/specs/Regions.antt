-- Regions, and the inferred inputs among their wires (document 01, "liveness.rs").
--     labels, region_count      the regions of the members, found and numbered by the walk of crate `regions`
--     region_of_place, regions_of      the region of the component at a list place; of each, in list order
--     is_cyclic, holds_drive       of a region's number
--     is_passive, fed_from_outside, is_inferred      what depends on the rules number, its first argument
-- Assumes nothing: these are definitions.
use Rattle.std.specs.Prelude.{Option, Some, None}
use Rattle.std.specs.Prelude.{ℕ, Bool, not, ◌&&◌, ◌||◌, List, eqb, leb, ℤ}
use Rattle.sets.specs.Members.{count_below}
use Rattle.lists.specs.Records.{component, port_connection, component_count, port_count}
use Rattle.lists.specs.First.{some, tabulate}
use Rattle.lists.specs.Rules.{lamps_pass}
use Rattle.lists.specs.Ids.{place_of, member_of}
use Rattle.regions.specs.Graph.{at}
use Rattle.regions.specs.Kosaraju.{region_of, count}
use Rattle.signals.specs.Signals.{is_signal, source_member, sink_member, signals}
use Rattle.signals.specs.Sources.{is_drive}

abbrev pub labels : List ℤ → List ℤ → List ℕ
labels cs ps = region_of (component_count cs) (signals cs ps)

abbrev pub region_count : List ℤ → List ℤ → ℕ
region_count cs ps = count (component_count cs) (signals cs ps)

abbrev pub region_of_place : List ℤ → List ℤ → ℕ → ℕ
region_of_place cs ps p = at (labels cs ps) (member_of cs p)

abbrev pub regions_of : List ℤ → List ℤ → List ℕ
regions_of cs ps = tabulate (region_of_place cs ps) (component_count cs)

-- two members or more, or a connection from its member to itself
unfoldable pub is_cyclic : List ℤ → List ℤ → ℕ → Bool
is_cyclic cs ps r =
    leb 2 (count_below (λ m. eqb (at (labels cs ps) m) r) (component_count cs))
    || some (λ k. is_signal ps k && (eqb (source_member cs ps k) (sink_member cs ps k) && eqb (at (labels cs ps) (sink_member cs ps k)) r)) (port_count ps)

-- the region holds a drive source
unfoldable pub holds_drive : List ℤ → List ℤ → List ℤ → ℕ → Bool
holds_drive cs ps fs r = some (λ p. is_drive cs fs p && eqb (region_of_place cs ps p) r) (component_count cs)

-- ---- inferred inputs

abbrev pub wire : ℕ
wire = 0

abbrev pub lamp : ℕ
lamp = 11

-- Solid and Transparent sources are left uncounted, and from rules 2 on lamps
abbrev pub is_passive : ℕ → ℕ → Bool
is_passive rules kind = eqb kind 9 || (eqb kind 10 || (eqb kind lamp && lamps_pass rules))

abbrev pub kind_at : List ℤ → Option ℕ → ℕ
kind_at cs (Some p) = (component cs p).kind
kind_at cs None = 0

-- the region gets a connection from another region's component that is not passive
unfoldable pub fed_from_outside : ℕ → List ℤ → List ℤ → ℕ → Bool
fed_from_outside rules cs ps r =
    some (λ k. is_signal ps k
    && (not (eqb (at (labels cs ps) (source_member cs ps k)) (at (labels cs ps) (sink_member cs ps k)))
    && (eqb (at (labels cs ps) (sink_member cs ps k)) r && not (is_passive rules (kind_at cs (place_of cs (port_connection ps k).source))))))
    (port_count ps)

-- how many distinct neighbours a member has in its region, itself counted if connected to itself
unfoldable pub neighbours : List ℤ → List ℤ → ℕ → ℕ
neighbours cs ps m =
    count_below (λ j. eqb (at (labels cs ps) j) (at (labels cs ps) m) && (signals cs ps m j || signals cs ps j m)) (component_count cs)

-- a wire with at most one distinct neighbour in its region, which holds no drive source and gets no connection from outside
unfoldable pub is_inferred : ℕ → List ℤ → List ℤ → List ℤ → ℕ → Bool
is_inferred rules cs ps fs p =
    eqb (component cs p).kind wire
    && (leb (neighbours cs ps (member_of cs p)) 1
    && (not (holds_drive cs ps fs (region_of_place cs ps p)) && not (fed_from_outside rules cs ps (region_of_place cs ps p))))
