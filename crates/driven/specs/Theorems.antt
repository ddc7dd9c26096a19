-- What is proved of the definitions of `Seek`, for every n, every graph on the nodes below n, and any starts and goals (document 02, R-5):
--
--     "each is an immediate source or upstream of one,        met_reached
--     and exactly one is a drive source at a yes;             one_goal
--     at a no it is all of these,                             all_met
--     none a drive source."                                   no_goal
--
-- What is reached from the starts is `reached` of the crate `regions`, which is proved to be just that (`reach_laws` there).
-- The theorem is `sought_laws` of proofs/Sought.antt.
-- Assumes nothing: these are statements.
use Rattle.std.specs.Prelude.{◌≡◌, Bool, true, false, List, ◌↔◌, ℕ, length}
use Rattle.regions.specs.Graph.{Edges, marked}
use Rattle.regions.specs.Kosaraju.{reached}
use Rattle.driven.specs.Seek.{sought}

-- exactly one node that is met is a goal
abbrev pub OneGoal : List Bool → List Bool → Type 0
OneGoal goals met =
    (g : ℕ) × (marked met g ≡ true) × (marked goals g ≡ true) × ((k : ℕ) → marked met k ≡ true → marked goals k ≡ true → k ≡ g)

pub record SoughtLaws (n : ℕ) (edge : Edges) (goals starts : List Bool) : Type 0 where
  -- each node that is met is reached from a start
  pub met_reached : (k : ℕ) → marked (sought n edge goals starts).met k ≡ true → marked (reached n edge starts) k ≡ true
  -- a walk that stops has met one goal
  pub one_goal : (sought n edge goals starts).stopped ≡ true → OneGoal goals (sought n edge goals starts).met
  -- a walk that does not stop has met all that the starts reach, and no goal
  pub all_met : (sought n edge goals starts).stopped ≡ false → (sought n edge goals starts).met ≡ reached n edge starts
  pub no_goal : (sought n edge goals starts).stopped ≡ false → (k : ℕ) → marked (sought n edge goals starts).met k ≡ true → marked goals k ≡ false
  -- it stops exactly if a goal is reached
  pub stops : ((sought n edge goals starts).stopped ≡ true) ↔ ((g : ℕ) × (marked goals g ≡ true) × (marked (reached n edge starts) g ≡ true))
  -- each node has an entry
  pub long : length (sought n edge goals starts).met ≡ n
