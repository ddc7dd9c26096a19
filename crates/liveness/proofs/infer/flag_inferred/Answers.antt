-- Answers for the goals that the search leaves.
use Rattle.std.proofs.Common.{◌∙◌}
use Rattle.liveness.proofs.Inferring.{inferred_is}
use Rattle.liveness.proofs.infer.flag_inferred.Goals as goal

pub returns : goal.returns
returns c fs driven =
    let p = c.args.plot.now in
    record {
      long = c.flag_quiet.ensures.long;
      at = λ q h. c.flag_quiet.ensures.at q h ∙ inferred_is p.plot.accepted.scene p.prepared p.plot.rules fs driven c.outside_regions.ensures q h;
    }
