-- The table in which each id's list place is settled before a loop over connections starts (document 02, R-3): with the connections it is all
-- of a scene that such a loop needs.
--     id_at, place_at     what an entry of the table says: an id and a list place
--     PlacesOfIds         the request's sentence of a table
--     PlacesLaws          what is proved of such a table: it says of each id what `place_of` does
-- Assumes nothing: these are definitions.
use Rattle.std.specs.Prelude.{Some, None}
use Rattle.std.specs.Prelude.{ℕ, ◌/◌, ◌%◌, ◌<◌, ◌≡◌, List, length, get_or, ℤ}
use Rattle.tables.specs.Pairs.{span}
use Rattle.lists.specs.Records.{component, component_count}
use Rattle.lists.specs.Ids.{place_of, first_repeated}

abbrev pub id_at : List ℕ → ℕ → ℕ
id_at keys i = get_or keys i 0 / span

abbrev pub place_at : List ℕ → ℕ → ℕ
place_at keys i = get_or keys i 0 % span

-- "a table proved to hold every component's id once, rising, with its list place"
pub record PlacesOfIds (cs : List ℤ) (keys : List ℕ) : Type 0 where
  -- as many entries as components
  pub long : length keys ≡ component_count cs
  -- once, rising: an entry's id is below those of all later ones
  pub rising : (i j : ℕ) → i < j → j < length keys → id_at keys i < id_at keys j
  -- every component's id with its list place
  pub holds : (k : ℕ) → k < component_count cs → (i : ℕ) × (i < length keys) × (id_at keys i ≡ (component cs k).id) × (place_at keys i ≡ k)
  -- and nothing else
  pub only : (i : ℕ) → i < length keys → (place_at keys i < component_count cs) × (id_at keys i ≡ (component cs (place_at keys i)).id)

-- of some components
abbrev pub IsPlacesOfIds : List ℕ → Type 0
IsPlacesOfIds keys = (cs : List ℤ) × PlacesOfIds cs keys

-- what is proved of it: an id that stands in the table has its list place beside it, any other is no component's, and no id is used twice
pub record PlacesLaws (cs : List ℤ) (keys : List ℕ) : Type 0 where
  pub found : PlacesOfIds cs keys → (i : ℕ) → i < length keys → place_of cs (id_at keys i) ≡ Some (place_at keys i)
  pub missing : PlacesOfIds cs keys → (id : ℕ) → ((i : ℕ) → i < length keys → id_at keys i ≡ id → ⊥) → place_of cs id ≡ None
  pub unrepeated : PlacesOfIds cs keys → first_repeated cs ≡ None
