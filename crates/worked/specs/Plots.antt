-- Document 01, "Plots to try": W1 to W12 as lists of the entries, what the definitions answer, and what the document says of it.
--     w1, .., w12     the answers at each plot
--     computed        these twelve, in order
--     expected        what document 01 says, in the same order
--     Worked          they agree
-- "Ids are as named; unspecified fields 0." W2 is a scene of the grouping entry, W4 one of the ports entry; W6 to W12 are scenes of the liveness
-- entry, whose port connections have transfer 0. All are under rules 1; LaterRules.antt has some under 2 and 3.
-- Assumes nothing: these are definitions.
use Rattle.std.specs.Prelude.{Option, Some, None}
use Rattle.std.specs.Prelude.{ℕ, ◌/◌, ◌≡◌, true, false, List, [], ◌∷◌, ◌++◌, map, eqb, length, get_or, ℤ, pos, negsuc}
use Rattle.sets.specs.Members.{as_nat}
use Rattle.lists.specs.First.{tabulate}
use Rattle.lists.specs.Records.{component, component_count}
use Rattle.checks.specs.Refusals.{grouping_lists, liveness_lists, packed}
use Rattle.lines.specs.Text.{ascii}
use Rattle.circuit.specs.Topology.{nets_of, net_count, fragment_count}
use Rattle.faces.specs.Ports.{ports_for}
use Rattle.faces.specs.Rows.{row_of}
use Rattle.faces.specs.Step.{facing_between, slope_between}
use Rattle.faces.specs.Select.{select_port}
use Rattle.scene.specs.Kept.{sloped_rows, kept_count}
use Rattle.regions.specs.Graph.{range, filter}
use Rattle.signals.specs.Regions.{regions_of, region_count, is_cyclic}
use Rattle.assessment.specs.Verdicts.{source_rows, input_rows}
use Rattle.report.specs.Report.{report_of}

-- ---- components and connections

-- at 0, 0, 0
abbrev pub block : ℕ → ℕ → List ℤ
block kind id = pos id ∷ pos 0 ∷ pos 0 ∷ pos 0 ∷ pos kind ∷ pos 0 ∷ pos 0 ∷ pos 0 ∷ []

abbrev pub wire : ℕ → List ℤ
wire id = block 0 id

abbrev pub repeater : ℕ → List ℤ
repeater id = block 1 id

abbrev pub lever : ℕ → List ℤ
lever id = block 4 id

abbrev pub solid : ℕ → List ℤ
solid id = block 9 id

abbrev pub lamp : ℕ → List ℤ
lamp id = block 11 id

-- a grouping connection of kind 0
abbrev pub dust : ℕ → ℕ → List ℤ
dust source sink = pos source ∷ pos sink ∷ pos 0 ∷ []

-- a port connection from port 0 to a port of the sink
abbrev pub feed : ℕ → ℕ → ℕ → List ℤ
feed source sink port = pos source ∷ pos 0 ∷ pos sink ∷ pos port ∷ pos 0 ∷ []

-- ---- answers, each a list of numbers

abbrev pub Answers : Type 0
Answers = List (List ℕ)

-- 0: the checks of the grouping and the ports entry accept the lists, and those of the liveness entry, given slices that are long enough
abbrev pub grouping_checks : List ℤ → List ℤ → List ℕ
grouping_checks cs ps = packed (grouping_lists 1 cs ps [] true) ∷ []

abbrev pub liveness_checks : List ℤ → List ℤ → List ℤ → List ℕ
liveness_checks cs ps fs = packed (liveness_lists 1 cs ps fs true) ∷ []

-- the ids of the components that have a number, given the number of each
abbrev pub ids_of : List ℤ → List ℕ → ℕ → List ℕ
ids_of cs numbers k = map (λ p. (component cs p).id) (filter (λ p. eqb (get_or numbers p 0) k) (range 0 (component_count cs)))

-- the ids of each net, by its number
abbrev pub nets : List ℤ → List ℤ → Answers
nets cs ps = tabulate (ids_of cs (nets_of cs ps)) (net_count cs ps)

-- the ids of each region, by its number
abbrev pub regions : List ℤ → List ℤ → Answers
regions cs ps = tabulate (ids_of cs (regions_of cs ps)) (region_count cs ps)

-- whether each region is cyclic
abbrev pub cyclic : List ℤ → List ℤ → List ℕ
cyclic cs ps = tabulate (λ r. as_nat (is_cyclic cs ps r)) (region_count cs ps)

-- face and slope of a step from 0, 0, 0
abbrev pub step : ℤ → ℤ → ℤ → List ℕ
step x y z = facing_between (pos 0) (pos 0) (pos 0) x y z ∷ slope_between (pos 0) (pos 0) (pos 0) x y z ∷ []

abbrev pub port_number : Option ℕ → List ℕ
port_number (Some k) = k ∷ []
port_number None = []

-- ---- the plots

-- W1 no components: all counts 0
abbrev pub w1 : Answers
w1 =
    grouping_checks [] []
    ∷ liveness_checks [] [] []
    ∷ (component_count [] ∷ net_count [] [] ∷ fragment_count [] [] ∷ kept_count 1 [] [] ∷ region_count [] []
    ∷ length (source_rows 1 [] [] []) / 2 ∷ length (input_rows 1 [] [] []) / 3 ∷ [])
    ∷ report_of 1 [] [] []
    ∷ []

-- W2 ids 0, 1, 2 listed so, Dust 2 to 0: nets {1}, {0,2}
abbrev pub three : List ℤ
three = wire 0 ++ wire 1 ++ wire 2

abbrev pub w2 : Answers
w2 = grouping_checks three (dust 2 0) ∷ nets three (dust 2 0)

-- W3 step 1,-1,0 is East (2) and falls (2); 1,1,1 and 0,0,0 have no face (0) and are level (0)
abbrev pub w3 : Answers
w3 = step (pos 1) (negsuc 0) (pos 0) ∷ step (pos 1) (pos 1) (pos 1) ∷ step (pos 0) (pos 0) (pos 0) ∷ []

-- W4 Torch, support East (2): in from East is port 4, out to East port 1. Then Torch 1 and wire 2 to the East of it, connected both ways
abbrev pub east_torch : List ℤ
east_torch =
    pos 1 ∷ pos 0 ∷ pos 0 ∷ pos 0 ∷ pos 3 ∷ pos 0 ∷ pos 2 ∷ pos 0
    ∷ pos 2 ∷ pos 1 ∷ pos 0 ∷ pos 0 ∷ pos 0 ∷ pos 0 ∷ pos 0 ∷ pos 0 ∷ []

abbrev pub w4 : Answers
w4 =
    port_number (select_port (ports_for 1 3 0 2 0) 2 false 0)
    ∷ port_number (select_port (ports_for 1 3 0 2 0) 2 true 0)
    ∷ grouping_checks east_torch (dust 1 2 ++ dust 2 1)
    ∷ sloped_rows 1 east_torch (dust 1 2 ++ dust 2 1)
    ∷ []

-- W5 Repeater facing Up (5): Up, Down, four Controls, Support 6
abbrev pub w5 : Answers
w5 = map row_of (ports_for 1 1 5 0 0)

-- W6 lone wire: inferred, not cyclic
abbrev pub w6 : Answers
w6 = liveness_checks (wire 0) [] [] ∷ cyclic (wire 0) [] ∷ source_rows 1 (wire 0) [] [] ∷ []

-- W7 wires 1 to 2 to 3 to 1: one cyclic region, none inferred
abbrev pub ring : List ℤ
ring = feed 1 2 0 ++ feed 2 3 0 ++ feed 3 1 0

abbrev pub wires : List ℤ
wires = wire 1 ++ wire 2 ++ wire 3

abbrev pub w7 : Answers
w7 = liveness_checks wires ring [] ∷ cyclic wires ring ∷ source_rows 1 wires ring [] ∷ regions wires ring

-- W8 wire 1 to Repeater 2 port 1: status 1
abbrev pub w8 : Answers
w8 = liveness_checks (wire 1 ++ repeater 2) (feed 1 2 1) [] ∷ input_rows 1 (wire 1 ++ repeater 2) (feed 1 2 1) [] ∷ []

-- W9 Lamp 1 to wire 2: 2 not inferred; Solid instead: inferred
abbrev pub w9 : Answers
w9 =
    liveness_checks (lamp 1 ++ wire 2) (feed 1 2 0) []
    ∷ source_rows 1 (lamp 1 ++ wire 2) (feed 1 2 0) []
    ∷ liveness_checks (solid 1 ++ wire 2) (feed 1 2 0) []
    ∷ source_rows 1 (solid 1 ++ wire 2) (feed 1 2 0) []
    ∷ []

-- W10 2 to 1: region 0 is {2}
abbrev pub w10 : Answers
w10 = liveness_checks (wire 1 ++ wire 2) (feed 2 1 0) [] ∷ regions (wire 1 ++ wire 2) (feed 2 1 0)

-- W11 lever on frontier: source kinds 0, 2
abbrev pub origin : List ℤ
origin = pos 0 ∷ pos 0 ∷ pos 0 ∷ []

abbrev pub w11 : Answers
w11 = liveness_checks (lever 0) [] origin ∷ source_rows 1 (lever 0) [] origin ∷ []

-- W12 Repeaters 1 and 2 feeding each other's port 1: status 3 twice
abbrev pub pair : List ℤ
pair = repeater 1 ++ repeater 2

abbrev pub w12 : Answers
w12 = liveness_checks pair (feed 1 2 1 ++ feed 2 1 1) [] ∷ input_rows 1 pair (feed 1 2 1 ++ feed 2 1 1) [] ∷ []

-- ---- the list

abbrev pub computed : List Answers
computed = w1 ∷ w2 ∷ w3 ∷ w4 ∷ w5 ∷ w6 ∷ w7 ∷ w8 ∷ w9 ∷ w10 ∷ w11 ∷ w12 ∷ []

-- what the checks answer
abbrev pub accepted : List ℕ
accepted = 0 ∷ []

-- a source row is id, source kind; a verdict row device, port, status; a kept connection source, port, sink, port, transfer, slope
abbrev pub expected : List Answers
expected =
    -- W1 all counts 0
    (accepted ∷ accepted
    ∷ (0 ∷ 0 ∷ 0 ∷ 0 ∷ 0 ∷ 0 ∷ 0 ∷ [])
    ∷ ascii "answer=0\ncomponents=0\nconnections=0\nregions=0\nsources=0\ninputs=0\n"
    ∷ [])
    -- W2 nets {1}, {0,2}
    ∷ (accepted ∷ (1 ∷ []) ∷ (0 ∷ 2 ∷ []) ∷ [])
    -- W3 East and falling; no face; no face
    ∷ ((2 ∷ 2 ∷ []) ∷ (0 ∷ 0 ∷ []) ∷ (0 ∷ 0 ∷ []) ∷ [])
    -- W4 in from East is port 4, out to East port 1
    ∷ ((4 ∷ []) ∷ (1 ∷ [])
    ∷ accepted
    ∷ (1 ∷ 1 ∷ 2 ∷ 3 ∷ 0 ∷ 0 ∷ 2 ∷ 3 ∷ 1 ∷ 4 ∷ 0 ∷ 0 ∷ [])
    ∷ [])
    -- W5 role, face, channel: out Up, in Down, four Controls, Support 6 (channel 4)
    ∷ ((1 ∷ 5 ∷ 0 ∷ [])
    ∷ (0 ∷ 6 ∷ 0 ∷ [])
    ∷ (3 ∷ 1 ∷ 0 ∷ [])
    ∷ (3 ∷ 2 ∷ 0 ∷ [])
    ∷ (3 ∷ 3 ∷ 0 ∷ [])
    ∷ (3 ∷ 4 ∷ 0 ∷ [])
    ∷ (4 ∷ 6 ∷ 4 ∷ [])
    ∷ [])
    -- W6 inferred, not cyclic
    ∷ (accepted ∷ (0 ∷ []) ∷ (0 ∷ 3 ∷ []) ∷ [])
    -- W7 one cyclic region, none inferred
    ∷ (accepted ∷ (1 ∷ []) ∷ [] ∷ (1 ∷ 2 ∷ 3 ∷ []) ∷ [])
    -- W8 status 1
    ∷ (accepted ∷ (2 ∷ 1 ∷ 1 ∷ []) ∷ [])
    -- W9 2 not inferred; inferred
    ∷ (accepted ∷ [] ∷ accepted ∷ (2 ∷ 3 ∷ []) ∷ [])
    -- W10 region 0 is {2}
    ∷ (accepted ∷ (2 ∷ []) ∷ (1 ∷ []) ∷ [])
    -- W11 source kinds 0, 2
    ∷ (accepted ∷ (0 ∷ 0 ∷ 0 ∷ 2 ∷ []) ∷ [])
    -- W12 status 3 twice
    ∷ (accepted ∷ (1 ∷ 1 ∷ 3 ∷ 2 ∷ 1 ∷ 3 ∷ []) ∷ [])
    ∷ []

abbrev pub Worked : Type 0
Worked = computed ≡ expected
