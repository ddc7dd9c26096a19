-- The port connections that are kept of a scene's grouping connections (document 01, "scene.rs: ports"): an end with no component, face or
-- port drops the connection. Those kept stay in order. By the rules number, since the ports are (document 02, R-7).
--     kept_rows       rows of five numbers, a list of the liveness entry
--     sloped_rows     the same with the slope of each step (document 02, R-2), which the ports entry answers
-- Assumes nothing: these are definitions.
use Rattle.std.specs.Prelude.{Option, Some, None}
use Rattle.std.specs.Prelude.{ℕ, zero, suc, ◌/◌, true, false, cond, List, [], ◌∷◌, ◌++◌, eqb, length, ℤ}
use Rattle.lists.specs.Limits.{port_width}
use Rattle.lists.specs.Records.{Component, Connection, component, connection, connection_count}
use Rattle.lists.specs.Ids.{place_of}
use Rattle.faces.specs.Ports.{NoFace, opposite, ports_of}
use Rattle.faces.specs.Step.{Level, step_face, step_slope}
use Rattle.faces.specs.Select.{select_port, transfer_of}

-- a port at each end
abbrev pub both_ports : Option ℕ → Option ℕ → Option (ℕ × ℕ)
both_ports (Some i) (Some j) = Some (i, j)
both_ports (Some i) None = None
both_ports None sink = None

-- the source's port at the step's face and the sink's at the opposite one
unfoldable pub ports_between : ℕ → Component → Component → ℕ → Option (ℕ × ℕ)
ports_between rules source sink kind =
    let face = step_face source sink in
    cond (eqb face NoFace) None
    (both_ports (select_port (ports_of rules source) face true kind) (select_port (ports_of rules sink) (opposite face) false kind))

-- between the components at two places
abbrev pub link_between : ℕ → List ℤ → ℕ → Option ℕ → Option ℕ → Option (ℕ × ℕ)
link_between rules cs kind (Some a) (Some b) = ports_between rules (component cs a) (component cs b) kind
link_between rules cs kind (Some a) None = None
link_between rules cs kind None sink = None

abbrev pub link_of : ℕ → List ℤ → Connection → Option (ℕ × ℕ)
link_of rules cs p = link_between rules cs p.kind (place_of cs p.source) (place_of cs p.sink)

-- source, source port, sink, sink port, transfer; or no row
abbrev pub row_by : Connection → Option (ℕ × ℕ) → List ℕ
row_by p (Some (i, j)) = p.source ∷ i ∷ p.sink ∷ j ∷ transfer_of p.kind ∷ []
row_by p None = []

abbrev pub kept_row : ℕ → List ℤ → List ℤ → ℕ → List ℕ
kept_row rules cs ps k = row_by (connection ps k) (link_of rules cs (connection ps k))

-- the rows of connections 0, 1, .., n - 1 one after the other
unfoldable pub rows_below : ℕ → List ℤ → List ℤ → ℕ → List ℕ
rows_below rules cs ps zero = []
rows_below rules cs ps (suc k) = rows_below rules cs ps k ++ kept_row rules cs ps k

abbrev pub kept_rows : ℕ → List ℤ → List ℤ → List ℕ
kept_rows rules cs ps = rows_below rules cs ps (connection_count ps)

abbrev pub kept_count : ℕ → List ℤ → List ℤ → ℕ
kept_count rules cs ps = length (kept_rows rules cs ps) / port_width

-- ---- with slopes

-- of the step between the components at two places
abbrev pub slope_at : List ℤ → Option ℕ → Option ℕ → ℕ
slope_at cs (Some a) (Some b) = step_slope (component cs a) (component cs b)
slope_at cs (Some a) None = Level
slope_at cs None sink = Level

abbrev pub slope_along : List ℤ → Connection → ℕ
slope_along cs p = slope_at cs (place_of cs p.source) (place_of cs p.sink)

-- source, source port, sink, sink port, transfer, slope; or no row
abbrev pub sloped_by : Connection → Option (ℕ × ℕ) → ℕ → List ℕ
sloped_by p (Some (i, j)) slope = p.source ∷ i ∷ p.sink ∷ j ∷ transfer_of p.kind ∷ slope ∷ []
sloped_by p None slope = []

abbrev pub sloped_row : ℕ → List ℤ → List ℤ → ℕ → List ℕ
sloped_row rules cs ps k = sloped_by (connection ps k) (link_of rules cs (connection ps k)) (slope_along cs (connection ps k))

-- the rows of connections 0, 1, .., n - 1 one after the other
unfoldable pub sloped_below : ℕ → List ℤ → List ℤ → ℕ → List ℕ
sloped_below rules cs ps zero = []
sloped_below rules cs ps (suc k) = sloped_below rules cs ps k ++ sloped_row rules cs ps k

abbrev pub sloped_rows : ℕ → List ℤ → List ℤ → List ℕ
sloped_rows rules cs ps = sloped_below rules cs ps (connection_count ps)

-- ---- rows of six cut to five

-- the first five numbers of each
unfoldable pub without_slopes : {A : Type 0} → List A → List A
without_slopes (a ∷ b ∷ c ∷ d ∷ e ∷ slope ∷ rows) = a ∷ b ∷ c ∷ d ∷ e ∷ without_slopes rows
without_slopes (a ∷ b ∷ c ∷ d ∷ e ∷ []) = []
without_slopes (a ∷ b ∷ c ∷ d ∷ []) = []
without_slopes (a ∷ b ∷ c ∷ []) = []
without_slopes (a ∷ b ∷ []) = []
without_slopes (a ∷ []) = []
without_slopes [] = []

-- and the sixth
unfoldable pub slopes_of : {A : Type 0} → List A → List A
slopes_of (a ∷ b ∷ c ∷ d ∷ e ∷ slope ∷ rows) = slope ∷ slopes_of rows
slopes_of (a ∷ b ∷ c ∷ d ∷ e ∷ []) = []
slopes_of (a ∷ b ∷ c ∷ d ∷ []) = []
slopes_of (a ∷ b ∷ c ∷ []) = []
slopes_of (a ∷ b ∷ []) = []
slopes_of (a ∷ []) = []
slopes_of [] = []
