-- Demand 3 (document 01, "What the contracts must leave no choice in", 3) of a report, on its numbers as they are read back from its bytes.
--     read_block         the numbers of a block, and the text behind it
--     column             one number of each row
--     RegionsPrinted     what holds of the `region=` lines of the components and of the count `regions=`, beside the ids and connections printed
-- Assumes nothing: these are definitions.
use Rattle.std.specs.Prelude.{ℕ, ◌+◌, ◌*◌, ◌/◌, ◌<◌, ◌≡◌, List, length, get_or, ℤ, pos}
use Rattle.lists.specs.Records.{natural_at, component, component_count}
use Rattle.lists.specs.First.{tabulate}
use Rattle.lines.specs.Text.{ascii}
use Rattle.lines.specs.Line.{Taken, taken, refused, read_line, natural}
use Rattle.forms.specs.Form.{Fields, got, stop, read_records}
use Rattle.forms.specs.Tables.{keyed}
use Rattle.blocks.specs.Lines.{component_keys, connection_keys}
use Rattle.scene.specs.Kept.{without_slopes}
use Rattle.liveness.specs.Demand.{RegionsOfScene}

-- the numbers of so many rows, each with these keys
abbrev pub rows_of : List (List ℕ) → Taken ℕ → Fields
rows_of keys (taken n s) = read_records (keyed keys) n 0 s
rows_of keys refused = stop 0

-- a block at the front of a text: a line for its count, and a line for each number of its rows
abbrev pub read_block : List ℕ → List (List ℕ) → List ℕ → Fields
read_block name keys s = rows_of keys (natural (read_line name s))

-- number f, from 0, of each row of `width` numbers
abbrev pub column : ℕ → ℕ → List ℤ → List ℕ
column f width rows = tabulate (λ k. natural_at rows (k * width + f)) (length rows / width)

-- what a report says of the regions of components cs with port connections ps. The first four equations read its answer 0, the blocks of
-- components and connections, and the count of regions, one behind the other; so its bytes leave no choice in the other fields
pub record RegionsPrinted (cs ps : List ℤ) (report : List ℕ) : Type 0 where
  pub components : List ℤ
  pub connections : List ℤ
  pub count : ℕ
  pub after_answer : List ℕ
  pub after_components : List ℕ
  pub after_connections : List ℕ
  pub after_count : List ℕ
  pub answer_read : read_line (ascii "answer") report ≡ taken (pos 0) after_answer
  pub components_read : read_block (ascii "components") component_keys after_answer ≡ got components after_components
  pub connections_read : read_block (ascii "connections") connection_keys after_components ≡ got connections after_connections
  pub count_read : read_line (ascii "regions") after_connections ≡ taken (pos count) after_count
  -- `id` is number 0 of the six in a component's row, `region` number 3
  pub ids_are : (v : ℕ) → v < component_count cs → get_or (column 0 6 components) v 0 ≡ (component cs v).id
  -- the first five of a connection's six numbers
  pub connections_are : without_slopes connections ≡ ps
  pub demand : RegionsOfScene cs ps (column 3 6 components) count
