-- The two forms of a sheet (document 01, "The sheet and the program"; document 02, R-6): the form of each list's records, and the
-- key of its count. The bytes: 10 LF, 44 comma, 61 the sign `=`.
-- Assumes nothing: these are definitions.
use Rattle.std.specs.Prelude.{ℕ, zero, suc, List, [], ◌∷◌, ◌++◌}
use Rattle.lines.specs.Text.{ascii}
use Rattle.lists.specs.Limits.{component_width, connection_width, frontier_width}
use Rattle.lists.specs.declared.Section.{Section}
use Rattle.lists.specs.declared.Section.TheVariants.{Components, Connections, Frontiers}
use Rattle.forms.specs.Form.{Field}
use Rattle.forms.specs.declared.Style.{Style}
use Rattle.forms.specs.declared.Style.TheVariants.{Old, Short}

abbrev pub field : List ℕ → ℕ → Field
field prefix ending = record { prefix = prefix; ending = ending }

-- a line for each key
abbrev pub keyed : List (List ℕ) → List Field
keyed [] = []
keyed (k ∷ ks) = field (k ++ 61 ∷ []) 10 ∷ keyed ks

-- n numbers with commas between, and the last
abbrev pub commas : ℕ → List Field
commas zero = field [] 10 ∷ []
commas (suc n) = field [] 44 ∷ commas n

-- ---- a line to a field

abbrev pub old_components : List Field
old_components =
    keyed (ascii "id" ∷ ascii "x" ∷ ascii "y" ∷ ascii "z" ∷ ascii "kind" ∷ ascii "facing" ∷ ascii "support" ∷ ascii "conducts" ∷ [])

abbrev pub old_connections : List Field
old_connections = keyed (ascii "source" ∷ ascii "sink" ∷ ascii "kind" ∷ [])

abbrev pub old_frontiers : List Field
old_frontiers = keyed (ascii "x" ∷ ascii "y" ∷ ascii "z" ∷ [])

-- ---- a line to a record

abbrev pub short_components : List Field
short_components = field (ascii "c=") 44 ∷ commas 6

abbrev pub short_connections : List Field
short_connections = field (ascii "n=") 44 ∷ commas 1

abbrev pub short_frontiers : List Field
short_frontiers = field (ascii "f=") 44 ∷ commas 1

-- ---- by the list

-- the form of its records
abbrev pub form_of : Style → Section → List Field
form_of Old Components = old_components
form_of Old Connections = old_connections
form_of Old Frontiers = old_frontiers
form_of Short Components = short_components
form_of Short Connections = short_connections
form_of Short Frontiers = short_frontiers

-- the key of its count
abbrev pub count_key : Section → List ℕ
count_key Components = ascii "components"
count_key Connections = ascii "connections"
count_key Frontiers = ascii "frontiers"

-- how many numbers a record has, in each form (theorem `same_width`)
abbrev pub width_of : Section → ℕ
width_of Components = component_width
width_of Connections = connection_width
width_of Frontiers = frontier_width
