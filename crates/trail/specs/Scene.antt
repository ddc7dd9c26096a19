-- What the contracts of the finder's stages say.
-- Assumes nothing: these are definitions.
use Rattle.std.specs.Prelude.{Option, MatchOption, ℕ, ◌/◌, ◌≤◌, List, get_or, take, ℤ}
use Rattle.tables.specs.Pairs.{span}
use Rattle.lists.specs.Records.{component_count}
use Rattle.regions.specs.Graph.{marked}
use Rattle.signals.specs.Signals.{signals}
use Rattle.inputs.specs.Port.{drive_sources, immediate_sources}
use Rattle.trail.specs.Trail.{BestTrail, NoTrail}

-- the best trail of a port of the component at p stands at the front of a list, by members, and has so many; or there is none
abbrev pub FoundWay : List ℤ → List ℤ → List ℤ → ℕ → ℕ → List ℕ → Option ℕ → Type 0
FoundWay cs ps fs p port way found =
    let drive = marked (drive_sources cs fs) in
    let feeds = marked (immediate_sources cs ps p port) in
    MatchOption found (NoTrail drive (signals cs ps) feeds) (λ count. (count ≤ component_count cs) × BestTrail drive (signals cs ps) feeds (take count way))

-- the id of a member, by the table of ids
abbrev pub id_of : List ℕ → ℕ → ℕ
id_of keys m = get_or keys m 0 / span
