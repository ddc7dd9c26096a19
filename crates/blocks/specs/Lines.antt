-- The lines of a report (document 01, "The sheet and the program", its worked example): the keys of each block, and texts as functions of
-- the numbers that they print. Which numbers these are is said in crate `report`.
--     component_keys, .., unread_keys    the keys of the six blocks' rows, in the order in which the blocks are printed
--     field_key, field_lines           the lines of rows with given keys
--     block                            a count, and a line for each number of its rows
--     set_line, input_text               a line of ids; the lines of a verdict row
--     refusal_lines                     what is printed of a refusal
--     numbered_lines                    and of one in any numbers
-- Assumes nothing: these are definitions.
use Rattle.std.specs.Prelude.{ℕ, suc, ◌/◌, ◌%◌, List, [], ◌∷◌, ◌++◌, map, length, get_or, ℤ, pos}
use Rattle.lists.specs.declared.Refusal.{Refusal}
use Rattle.lists.specs.Refusal.{fault_number, list_number}
use Rattle.lines.specs.Text.{ascii}
use Rattle.lines.specs.Decimal.{digits, line_of}

-- ---- keys

abbrev pub component_keys : List (List ℕ)
component_keys = ascii "id" ∷ ascii "net" ∷ ascii "fragment" ∷ ascii "region" ∷ ascii "drive" ∷ ascii "potential" ∷ []

abbrev pub connection_keys : List (List ℕ)
connection_keys = ascii "source" ∷ ascii "source_port" ∷ ascii "sink" ∷ ascii "sink_port" ∷ ascii "transfer" ∷ ascii "slope" ∷ []

abbrev pub region_keys : List (List ℕ)
region_keys = ascii "cyclic" ∷ ascii "has_drive" ∷ []

abbrev pub source_keys : List (List ℕ)
source_keys = ascii "id" ∷ ascii "kind" ∷ []

abbrev pub input_keys : List (List ℕ)
input_keys = ascii "device" ∷ ascii "port" ∷ ascii "status" ∷ []

abbrev pub unread_keys : List (List ℕ)
unread_keys = ascii "id" ∷ []

-- ---- rows

-- the key of line k, from 0, of rows that have these keys
abbrev pub field_key : List (List ℕ) → ℕ → List ℕ
field_key keys k = get_or keys (k % length keys) []

-- a line for each number, the first of which is line k
unfoldable pub field_lines : List (List ℕ) → ℕ → List ℤ → List ℕ
field_lines keys k [] = []
field_lines keys k (z ∷ zs) = line_of (field_key keys k) z ++ field_lines keys (suc k) zs

-- ---- blocks

-- the count of the rows, and then a line for each of their numbers
abbrev pub block : List ℕ → List (List ℕ) → List ℕ → List ℕ
block name keys rows = line_of name (pos (length rows / length keys)) ++ field_lines keys 0 (map pos rows)

-- ---- verdict rows

-- numbers with one blank (32) between
unfoldable pub spaced : List ℕ → List ℕ
spaced [] = []
spaced (n ∷ []) = digits n []
spaced (n ∷ m ∷ ns) = digits n (32 ∷ spaced (m ∷ ns))

abbrev pub set_line : List ℕ → List ℕ → List ℕ
set_line key ids = key ++ 61 ∷ (spaced ids ++ 10 ∷ [])

-- a row, its immediate sources and its inferred inputs
abbrev pub input_text : ℕ → ℕ → ℕ → List ℕ → List ℕ → List ℕ
input_text device port status immediate inferred =
    field_lines input_keys 0 (pos device ∷ pos port ∷ pos status ∷ [])
    ++ (set_line (ascii "immediate") immediate ++ set_line (ascii "inferred") inferred)

-- ---- a refusal

unfoldable pub refusal_lines : Refusal → List ℕ
refusal_lines r =
    line_of (ascii "answer") (pos (fault_number r.fault)) ++ (line_of (ascii "list") (pos (list_number r.list)) ++ line_of (ascii "item") (pos r.item))

-- in any numbers
unfoldable pub numbered_lines : ℕ → ℕ → ℕ → List ℕ
numbered_lines number list item =
    line_of (ascii "answer") (pos number) ++ (line_of (ascii "list") (pos list) ++ line_of (ascii "item") (pos item))
