-- Forms as the code holds them, and what its functions hand on to each other: where a sheet's lists stand in the text. No sentence of a sheet
-- rests on these.
-- Assumes nothing: these are definitions.
use Rattle.std.specs.Prelude.{◌≡◌, ℕ, ◌+◌, ◌-◌, ◌*◌, ◌^◌, ◌≤◌, min, List, ℤ, Result, Ok, Err, length, drop, map}
use Rattle.lists.specs.Limits.{component_limit, connection_limit, frontier_limit}
use Rattle.lists.specs.Slices.{laid}
use Rattle.lists.specs.declared.Refusal.{Refusal}
use Rattle.lists.specs.declared.Section.{Section}
use Rattle.lists.specs.declared.Section.TheVariants.{Components, Connections, Frontiers}
use Rattle.forms.specs.Form.{Field, Fields, got, stop, lines_of, read_records}
use Rattle.forms.specs.Tables.{form_of}
use Rattle.forms.specs.Sheet.{Head, head, no_head, Part, part, fault, Parsed, Sheet, Faulty}
use Rattle.forms.specs.declared.Style.{Style}
use Rattle.forms.specs.declared.Counts.{Counts}
use Rattle.forms.specs.declared.Place.{Place}
use Rattle.forms.specs.declared.Field as code
use Rattle.forms.specs.declared.head.Head as front
use Rattle.forms.specs.declared.sheet.Sheet as found

-- ---- forms

abbrev pub field_of : code.Field → Field
field_of f = record { prefix = f.0.now; ending = f.1 }

abbrev pub fields_of : List code.Field → List Field
fields_of fs = map field_of fs

-- ---- a run of fields

-- every field was as it must be
abbrev pub AllRead : Fields → Type 0
AllRead (got zs s) = Unit {0}
AllRead (stop k) = ⊥

-- what checking fields answers: where they end in the text, or the line of the first fault
abbrev pub RunAs : List ℕ → List Field → Fields → Result ℕ ℕ → Type 0
RunAs text fs f (Ok p) = (zs : List ℤ) × (length zs ≡ length fs) × (p ≤ length text) × (f ≡ got zs (drop p text))
RunAs text fs f (Err k) = f ≡ stop k

-- what storing them leaves in a list, and where they end in the text
abbrev pub StoredAs : List ℕ → Fields → List ℤ → List ℤ → ℕ → Type 0
StoredAs text f before after p = (zs : List ℤ) × (p ≤ length text) × (f ≡ got zs (drop p text)) × (after ≡ laid zs before)

-- ---- a list

-- the numbers zs of a list stand at a place of a text
pub record StandsAt (text : List ℕ) (style : Style) (list : Section) (zs : List ℤ) (p : Place) : Type 0 where
  pub start_within : p.start ≤ length text
  pub end_within : p.end ≤ length text
  pub total : length zs ≡ p.count * length (form_of style list)
  pub records : read_records (form_of style list) p.count 0 (drop p.start text) ≡ got zs (drop p.end text)

abbrev pub SomeStand : List ℕ → Style → Section → Place → Type 0
SomeStand text style list p = (zs : List ℤ) × StandsAt text style list zs p

-- what checking a list at a line of the sheet answers
abbrev pub ListedAs : List ℕ → Style → Section → ℕ → ℕ → Part → Result Place Refusal → Type 0
ListedAs text style list limit line q (Ok p) =
    (zs : List ℤ)
    × StandsAt text style list zs p
    × (p.count ≤ limit)
    × (p.line ≡ line + 1 + p.count * lines_of (form_of style list))
    × (q ≡ part zs (drop p.end text) p.line)
ListedAs text style list limit line q (Err r) = q ≡ fault r

-- what storing a list leaves
abbrev pub StoredFrom : List ℕ → Style → Section → Place → List ℤ → List ℤ → Type 0
StoredFrom text style list p before after = (zs : List ℤ) → StandsAt text style list zs p → after ≡ laid zs before

-- ---- a sheet

-- the limits, cut to those of a scene
abbrev pub cut_limits : ℕ → ℕ → ℕ → Counts
cut_limits components connections frontiers = record {
  components = min components component_limit;
  connections = min connections connection_limit;
  frontiers = min frontiers frontier_limit;
}

-- what reading the head answers: where the lists start, and their line; or the refusal
abbrev pub HeadedAs : List ℕ → Head → Result front.Head Refusal → Type 0
HeadedAs text h (Ok x) = (x.at ≤ length text) × (x.line ≤ 2) × (h ≡ head x.style x.rules (drop x.at text) x.line)
HeadedAs text h (Err r) = h ≡ no_head r

-- the three lists stand at the places
pub record AllStand (text : List ℕ) (cs ps fs : List ℤ) (x : found.Sheet) : Type 0 where
  pub of_components : StandsAt text x.style Components cs x.components
  pub of_connections : StandsAt text x.style Connections ps x.connections
  pub of_frontiers : StandsAt text x.style Frontiers fs x.frontiers

-- what the first pass over a sheet answers: its form, its rules and where its lists stand, or the refusal
abbrev pub OutlinedAs : List ℕ → Parsed → Result found.Sheet Refusal → Type 0
OutlinedAs text q (Ok x) = (cs : List ℤ) × (ps : List ℤ) × (fs : List ℤ) × AllStand text cs ps fs x × (q ≡ Sheet x.style x.rules cs ps fs)
OutlinedAs text q (Err r) = q ≡ Faulty r

-- ---- lengths

-- a sum of lengths past it stays there
abbrev pub greatest : ℕ
greatest = 2 ^ 64 - 1
