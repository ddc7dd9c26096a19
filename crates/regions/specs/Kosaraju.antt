-- Regions and reach as document 01 walks them (under "liveness.rs"), as functions on the arrays of this program; `visit_order` and
-- `collect_region` of the Rust are both `visit`.
--
--     "Regions: walk forward from components by rising id,        order: each (visit ..) (range 0 n)
--     neighbours by rising id,                                    next
--     noting each as it finishes.                                 push
--     Take them last finished first;                              labels: each (label ..) (reverse order)
--     each unvisited one collects all it reaches backwards        new_region, collect: visit on flip edge
--     among the unvisited. Regions are numbered as found."        paint, count
--     "`drive` means reached from a drive source, .. includes its sources."     reached
--
-- The argument `fuel` bounds the depth of the calls. The nodes of the open calls are distinct, so n is enough.
-- Assumes nothing: these are definitions.
use Rattle.std.specs.Prelude.{Bool, true, false, cond, List, [], ◌∷◌, ◌++◌, reverse, ℕ, zero, suc, set, replicate}
use Rattle.regions.specs.Graph.{Edges, flip, marked, range, filter, each, next}

-- ---- one walk

-- which nodes are visited, and the nodes as they finished
pub record Walk : Type 0 where
  pub visited : List Bool
  pub order : List ℕ

abbrev pub mark : ℕ → Walk → Walk
mark x s = record { visited = set s.visited x true; order = s.order }

abbrev pub push : ℕ → Walk → Walk
push x s = record { visited = s.visited; order = s.order ++ (x ∷ []) }

-- nothing at a visited node; else mark it, visit its neighbours, and note it as finished
unfoldable pub visit : ℕ → Edges → ℕ → ℕ → Walk → Walk
visit n edge zero x s = s
visit n edge (suc fuel) x s = cond (marked s.visited x) s (push x (each (λ k t. visit n edge fuel k t) (next n edge x) (mark x s)))

abbrev pub unvisited : ℕ → Walk
unvisited n = record { visited = replicate n false; order = [] }

-- ---- regions: the walk forward

unfoldable pub order : ℕ → Edges → List ℕ
order n edge = (each (visit n edge n) (range zero n) (unvisited n)).order

-- ---- regions: the walk back

-- each node's region, and how many there are so far
pub record Labels : Type 0 where
  pub visited : List Bool
  pub region_of : List ℕ
  pub count : ℕ

-- the walk from x against the edges; its order is the members of a region
abbrev pub collect : ℕ → Edges → ℕ → List Bool → Walk
collect n edge x visited = visit n (flip edge) n x (record { visited = visited; order = [] })

-- r at each node of the list
unfoldable pub paint : ℕ → List ℕ → List ℕ → List ℕ
paint r members l = each (λ x m. set m x r) members l

-- the walk from x finds the next region
abbrev pub new_region : ℕ → Edges → ℕ → Labels → Labels
new_region n edge x s =
    record {
      visited = (collect n edge x s.visited).visited;
      region_of = paint s.count (collect n edge x s.visited).order s.region_of;
      count = suc s.count;
    }

unfoldable pub label : ℕ → Edges → ℕ → Labels → Labels
label n edge x s = cond (marked s.visited x) s (new_region n edge x s)

abbrev pub unlabelled : ℕ → Labels
unlabelled n = record { visited = replicate n false; region_of = replicate n zero; count = zero }

unfoldable pub labels : ℕ → Edges → Labels
labels n edge = each (label n edge) (reverse (order n edge)) (unlabelled n)

abbrev pub region_of : ℕ → Edges → List ℕ
region_of n edge = (labels n edge).region_of

abbrev pub count : ℕ → Edges → ℕ
count n edge = (labels n edge).count

-- ---- reach

-- the marked nodes, by rising number
abbrev pub starts_of : ℕ → List Bool → List ℕ
starts_of n starts = filter (marked starts) (range zero n)

-- what the walks from the starts visit, one after the other
unfoldable pub reached : ℕ → Edges → List Bool → List Bool
reached n edge starts = (each (visit n edge n) (starts_of n starts) (unvisited n)).visited
