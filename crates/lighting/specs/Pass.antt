-- One pass over the regions, by rising number (document 02, R-11):
--
--     "marking regions once in number order is enough:        lit_below, lit
--     a region is driven exactly if                           lights
--     it holds a drive source                                 holds_drive, of crate signals
--     or an already marked region                             q below r, marked
--     feeds it."                                              feeds
--
-- Assumes nothing: these are definitions.
use Rattle.std.specs.Prelude.{ℕ, zero, suc, Bool, ◌&&◌, ◌||◌, List, [], ◌∷◌, ◌++◌, eqb, ℤ}
use Rattle.lists.specs.Records.{port_count}
use Rattle.lists.specs.First.{some}
use Rattle.regions.specs.Graph.{at, marked}
use Rattle.signals.specs.Signals.{is_signal, source_member, sink_member}
use Rattle.signals.specs.Regions.{labels, region_count, holds_drive}

-- a signal connection leads from a component of region q, of any kind, to one of region r
unfoldable pub feeds : List ℤ → List ℤ → ℕ → ℕ → Bool
feeds cs ps q r =
    some (λ k. is_signal ps k && (eqb (at (labels cs ps) (source_member cs ps k)) q && eqb (at (labels cs ps) (sink_member cs ps k)) r))
    (port_count ps)

-- whether region r is marked, given the marks of the regions before it: it holds a drive source, or one of those that are marked feeds it
abbrev pub lights : List ℤ → List ℤ → List ℤ → ℕ → List Bool → Bool
lights cs ps fs r marks = holds_drive cs ps fs r || some (λ q. marked marks q && feeds cs ps q r) r

-- the marks of the regions 0, 1, .., n - 1, each looked at once, after those of smaller number
unfoldable pub lit_below : List ℤ → List ℤ → List ℤ → ℕ → List Bool
lit_below cs ps fs zero = []
lit_below cs ps fs (suc n) = let before = lit_below cs ps fs n in before ++ (lights cs ps fs n before ∷ [])

-- the mark of a region after the pass over all of them
unfoldable pub lit : List ℤ → List ℤ → List ℤ → ℕ → Bool
lit cs ps fs r = marked (lit_below cs ps fs (region_count cs ps)) r
