-- An entry of a table of places with the id has the id's place: no other entry has that id.
-- Assumes nothing.
use Rattle.std.specs.Prelude.{Some}
use mathlib.Core.Path.{◌≡◌, sym, ap, ◌∙◌}
use mathlib.Core.List.{List}
use Prim.Native.Nat.{ℕ, ◌/◌, ◌%◌, ◌<◌}
use lib.ListN.{length, get_or}
use lib.IntN.{ℤ}
use Rattle.tables.specs.Pairs.{span}
use Rattle.lists.specs.Ids.{place_of}
use Rattle.lists.specs.Places.{PlacesOfIds}
use Rattle.lists.proofs.Places.{places_laws}

pub entry_found : (cs : List ℤ) {keys : List ℕ} → PlacesOfIds cs keys → (id i : ℕ) → i < length keys → get_or keys i 0 / span ≡ id
    → Some (get_or keys i 0 % span) ≡ place_of cs id
entry_found cs {keys} p id i h e = sym ((places_laws cs keys).found p i h) ∙ ap (place_of cs) e
