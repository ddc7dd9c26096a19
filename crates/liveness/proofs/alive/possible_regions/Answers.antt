-- `liveness::alive::possible_regions` meets its contract: the regions of the inferred inputs are gathered, and joined with those of drive
-- sources.
-- Assumes nothing.
use mathlib.Core.Path.{ap, ◌∙◌}
use mathlib.Core.Bool.{◌||◌}
use native.Mathlib.Omega.{arith}
use Rattle.regions.specs.Graph.{marked}
use Rattle.liveness.proofs.alive.possible_regions.Goals as goal

pub returns : goal.returns
returns c =
    let joined = c.combine_flags.ensures in
    let a = c.args in
    record {
      long = omega (arith, joined.long, c.gather.auto.out, c.requires.regions_len.1);
      at = λ r h.
          joined.at r (omega (arith, c.gather.auto.out, c.requires.regions_len.1))
          ∙ ap (λ t. marked a.has_drive.now r || t) (c.gather.ensures.at r (omega (arith, c.gather.auto.out, c.requires.regions_len.1)));
    }
