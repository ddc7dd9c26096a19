-- A walk that looks for a goal. Document 02, R-5, says it of components and their sources; here it is said of any graph, any starts and goals,
-- and the edges are those to go along.
--
--     "Answer whether that input is status 0 by going upstream from it,       sought: each (seek ..) (starts_of ..)
--     sources by rising id                                                    starts_of, next
--     and each one's own before the next,                                     seek: each (seek ..) (next ..)
--     and stopping at the first drive source met.                             stop
--     The set of components met is answered too"                              met
--
-- The argument `fuel` bounds the depth of the calls. The nodes of the open calls are distinct, so n is enough.
-- Assumes nothing: these are definitions.
use Rattle.std.specs.Prelude.{Bool, true, false, cond, ◌||◌, List, ℕ, zero, suc, set, replicate}
use Rattle.regions.specs.Graph.{Edges, marked, each, next}
use Rattle.regions.specs.Kosaraju.{starts_of}

-- which nodes are met, and whether the walk has stopped
pub record Search : Type 0 where
  pub met : List Bool
  pub stopped : Bool

abbrev pub meet : ℕ → Search → Search
meet x s = record { met = set s.met x true; stopped = s.stopped }

abbrev pub stop : Search → Search
stop s = record { met = s.met; stopped = true }

-- nothing once the walk has stopped, or at a met node; else meet it, and stop if it is a goal, or go to its neighbours, one after the other
unfoldable pub seek : ℕ → Edges → List Bool → ℕ → ℕ → Search → Search
seek n edge goals zero x s = s
seek n edge goals (suc fuel) x s =
    cond (s.stopped || marked s.met x) s
    (cond (marked goals x) (stop (meet x s))
    (each (λ k t. seek n edge goals fuel k t) (next n edge x) (meet x s)))

-- a walk that goes on: these are met
abbrev pub seeking : List Bool → Search
seeking met = record { met = met; stopped = false }

-- the walks from the starts, one after the other
unfoldable pub sought : ℕ → Edges → List Bool → List Bool → Search
sought n edge goals starts = each (seek n edge goals n) (starts_of n starts) (seeking (replicate n false))
