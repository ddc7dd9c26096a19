-- Which port a connection takes at an end (document 01, "scene.rs: ports"): the first with the face that also fits.
-- Assumes nothing: these are definitions.
use Rattle.std.specs.Prelude.{Option}
use Rattle.std.specs.Prelude.{ℕ, Bool, cond, ◌&&◌, ◌||◌, List, [], ◌∷◌, eqb, length, get_or}
use Rattle.lists.specs.First.{first_from}
use Rattle.faces.specs.Ports.{Port, port, Input, Output, Bidirectional, Control, Structural}

-- ---- kinds of connection

abbrev pub control_kind : ℕ
control_kind = 8

abbrev pub support_kind : ℕ
support_kind = 9

-- Support needs Structural. Otherwise the source, where the connection goes out, needs Output or Bidirectional; the sink needs Control for
-- kind Control, else Input, Bidirectional or Control.
abbrev pub fits : Port → Bool → ℕ → Bool
fits p outgoing kind =
    cond (eqb kind support_kind) (eqb p.channel Structural)
    (cond outgoing (eqb p.role Output || eqb p.role Bidirectional)
    (cond (eqb kind control_kind) (eqb p.role Control)
    (eqb p.role Input || (eqb p.role Bidirectional || eqb p.role Control))))

unfoldable pub serves : Port → ℕ → Bool → ℕ → Bool
serves p face outgoing kind = eqb p.face face && fits p outgoing kind

-- port k of a list
abbrev pub port_at : List Port → ℕ → Port
port_at ports k = get_or ports k (port 0 0 0)

unfoldable pub select_port : List Port → ℕ → Bool → ℕ → Option ℕ
select_port ports face outgoing kind = first_from (λ k. serves (port_at ports k) face outgoing kind) 0 (length ports)

-- kinds 0 to 9 give 0, 0, 0, 2, 3, 4, 4, 1, 5, 6
unfoldable pub transfer_of : ℕ → ℕ
transfer_of kind = get_or (0 ∷ 0 ∷ 0 ∷ 2 ∷ 3 ∷ 4 ∷ 4 ∷ 1 ∷ 5 ∷ 6 ∷ []) kind 0
