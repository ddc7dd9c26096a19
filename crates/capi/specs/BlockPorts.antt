-- The ports of a block by its numbers, for a host that calls through the C convention.
--     block_refusal     11, 2, 3
--     block_rows        seven rows of role, face and channel
--     BlockPorts        what `dustroute_block_ports` answers and leaves
-- Assumes nothing: these are definitions.
use Rattle.std.specs.Prelude.{⊤, Option, Some, None, Result}
use Rattle.std.specs.Prelude.{ℕ, ◌≡◌, List, [], ◌∷◌, length, ℤ, pos}
use Rattle.std.specs.List.{flat_map}
use Rattle.lists.specs.declared.Fault.{Fault}
use Rattle.lists.specs.declared.Section.{Section}
use Rattle.lists.specs.declared.Refusal.{Refusal}
use Rattle.lists.specs.Records.{component}
use Rattle.lists.specs.Ranges.{first_out_of_range, component_low, component_high}
use Rattle.lists.specs.Slices.{left_of}
use Rattle.checks.specs.Refusals.{refuse, ◌or_else◌, strange_rules, too_short, room_for}
use Rattle.faces.specs.Ports.{Port, ports_of}
use Rattle.faces.specs.Rows.{port_places, row_of, unused_row, rows_of}
use Rattle.capi.specs.Kept.{ports_number}

-- the record of a component with these numbers: its id is 0, and it stands at 0, 0, 0
abbrev pub block_record : ℤ → ℤ → ℤ → ℤ → List ℤ
block_record kind facing support conducts = pos 0 ∷ pos 0 ∷ pos 0 ∷ pos 0 ∷ kind ∷ facing ∷ support ∷ conducts ∷ []

-- role, face, channel
abbrev pub row_width : ℕ
row_width = 3

-- given how many numbers the lent slice has. A number out of its range is 3 at item 0 of the components.
abbrev pub block_refusal : ℕ → List ℤ → ℕ → Result ⊤ Refusal
block_refusal rules block ports =
    refuse Fault.UnknownRules None (strange_rules rules)
    or_else refuse Fault.ShortSlice None (too_short (room_for port_places row_width ports))
    or_else refuse Fault.OutOfRange (Some Section.Components) (first_out_of_range component_low component_high block)

-- a row for each port, then rows of zeros
abbrev pub block_rows : ℕ → List ℤ → List ℕ
block_rows rules block = flat_map (λ (row : List ℕ). row) (rows_of (ports_of rules (component block 0)))

-- from a rules number, the record of a block and a lent slice
pub record BlockPorts (rules : ℕ) (block : List ℤ) (ports ports' : List ℕ) (r : ℕ) : Type 0 where
  -- the number of a refusal, or how many ports there are
  pub answer : r ≡ ports_number (block_refusal rules block (length ports)) (length (ports_of rules (component block 0)))
  pub left : ports' ≡ left_of (block_refusal rules block (length ports)) (block_rows rules block) ports

-- ---- what the code hands on

-- the row of a place
abbrev pub place_row : Option Port → List ℕ
place_row (Some p) = row_of p
place_row None = unused_row
