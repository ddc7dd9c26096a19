-- The one pass over the regions at the worked plots, and a lamp behind two levers.
--     lit_regions        whether each region is lit, 1 or 0, by number
--     lamp_plot          lamp 1, fed by levers 2 and 3
--     LitPlots           what the pass lights
-- Assumes nothing: these are definitions.
use Rattle.std.specs.Prelude.{ℕ, ◌≡◌, List, [], ◌∷◌, ◌++◌, map, ℤ}
use Rattle.sets.specs.Members.{as_nat}
use Rattle.signals.specs.Regions.{region_count}
use Rattle.lighting.specs.Pass.{lit_below}
use Rattle.worked.specs.Plots.{wire, repeater, lever, solid, lamp, feed, ring, wires, origin, pair, regions}

abbrev pub lit_regions : List ℤ → List ℤ → List ℤ → List ℕ
lit_regions cs ps fs = map as_nat (lit_below cs ps fs (region_count cs ps))

abbrev pub lamp_plot : List ℤ
lamp_plot = lamp 1 ++ lever 2 ++ lever 3

abbrev pub from_both : List ℤ
from_both = feed 2 1 0 ++ feed 3 1 0

pub record LitPlots : Type 0 where
  -- W1 no regions
  pub w1 : lit_regions [] [] [] ≡ []
  -- W6 a lone wire, an inferred input, is not driven; W7 nor is a ring of wires, W8 a wire and the repeater that it feeds
  pub w6 : lit_regions (wire 0) [] [] ≡ 0 ∷ []
  pub w7 : lit_regions wires ring [] ≡ 0 ∷ []
  pub w8 : lit_regions (wire 1 ++ repeater 2) (feed 1 2 1) [] ≡ 0 ∷ 0 ∷ []
  -- W9 a lamp and a solid feed a wire, and drive nothing
  pub w9_lamp : lit_regions (lamp 1 ++ wire 2) (feed 1 2 0) [] ≡ 0 ∷ 0 ∷ []
  pub w9_solid : lit_regions (solid 1 ++ wire 2) (feed 1 2 0) [] ≡ 0 ∷ 0 ∷ []
  -- W10 2 feeds 1; W11 a lever on a frontier; W12 two repeaters that feed each other
  pub w10 : lit_regions (wire 1 ++ wire 2) (feed 2 1 0) [] ≡ 0 ∷ 0 ∷ []
  pub w11 : lit_regions (lever 0) [] origin ≡ 1 ∷ []
  pub w12 : lit_regions pair (feed 1 2 1 ++ feed 2 1 1) [] ≡ 0 ∷ []
  -- both levers come before the lamp, and light it
  pub lamp_last : regions lamp_plot from_both ≡ (3 ∷ []) ∷ (2 ∷ []) ∷ (1 ∷ []) ∷ []
  pub lamp_lit : lit_regions lamp_plot from_both [] ≡ 1 ∷ 1 ∷ 1 ∷ []
  -- a wire alone in the place of both levers lights nothing, and beside one of them it does not darken the lamp
  pub lamp_dark : lit_regions (lamp 1 ++ wire 2 ++ wire 3) from_both [] ≡ 0 ∷ 0 ∷ 0 ∷ []
  pub one_lever : lit_regions (lamp 1 ++ lever 2 ++ wire 3) from_both [] ≡ 0 ∷ 1 ∷ 1 ∷ []
