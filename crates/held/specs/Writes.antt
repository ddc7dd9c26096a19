-- What an accepted click writes, list by list, as the code writes it. proofs/WriteLaws.antt shows that on slices that show a plot this is the
-- layout of the plot that the click leaves.
--     seat_in, seated_state, seated_places       placing
--     freed_state, cleared_places               breaking: the place
--     joined_connections                       connecting
--     KeptOne, Dropped                        breaking: the connections at it
--     id_in                                    breaking: the place of an id
-- Assumes nothing: these are definitions.
use Rattle.std.specs.Prelude.{ℕ, ◌+◌, ◌*◌, ◌-◌, ◌≤◌, ◌<◌, ◌≡◌, Bool, not, cond, ◌&&◌, List, ◌++◌, length, set, drop, replicate, T, eqb, ℤ, pos}
use Rattle.std.proofs.Math.Seq.{paste}
use Rattle.std.specs.Int.Signed.{non_neg}
use Rattle.tables.specs.Order.{member}
use Rattle.lists.specs.Limits.{component_limit, component_width, port_width}
use Rattle.lists.specs.Signed.{at}
use Rattle.lists.specs.Records.{natural_at}
use Rattle.lists.specs.First.{tabulate}
use Rattle.held.specs.Tests.{keep}
use Rattle.held.specs.Plot.{Record, clear_of}
use Rattle.held.specs.Lent.{flat, counts_width, record_at, counter, used_in, freed_count_in, freed_places_in}

-- ---- placing

-- the place freed last stands last among the freed ones
unfoldable pub seat_in : List ℕ → ℕ
seat_in state = cond (eqb (freed_count_in state) 0) (used_in state) (counter state (4 + freed_count_in state))

unfoldable pub seated_state : List ℕ → List ℕ
seated_state state = cond (eqb (freed_count_in state) 0) (set state 1 (used_in state + 1)) (set (set state (4 + freed_count_in state) 0) 2 (freed_count_in state - 1))

abbrev pub seated_places : List ℤ → ℕ → List ℤ → List ℤ
seated_places places k numbers = paste places (k * component_width) numbers component_width

-- room for it
pub record SeatRoom (state : List ℕ) (places numbers : List ℤ) : Type 0 where
  pub state_room : counts_width + component_limit ≤ length state
  pub places_room : component_limit * component_width ≤ length places
  pub numbers_long : length numbers ≡ component_width
  pub freed_few : freed_count_in state ≤ component_limit
  pub seat_few : seat_in state < component_limit

pub record SeatedIn (state state' : List ℕ) (places places' numbers : List ℤ) (r : ℕ) : Type 0 where
  pub seat_is : r ≡ seat_in state
  pub state_is : state' ≡ seated_state state
  pub places_are : places' ≡ seated_places places (seat_in state) numbers

-- ---- breaking

unfoldable pub freed_state : List ℕ → ℕ → List ℕ
freed_state state k = set (set state (counts_width + freed_count_in state) k) 2 (freed_count_in state + 1)

abbrev pub cleared_places : List ℤ → ℕ → List ℤ
cleared_places places k = paste places (k * component_width) (replicate component_width (pos 0)) component_width

-- ---- connecting

abbrev pub joined_connections : List ℤ → ℕ → List ℤ → List ℤ
joined_connections connections k numbers = paste connections (k * port_width) numbers port_width

-- ---- breaking: connections kept at the front

-- a connection has no end at the id
abbrev pub clear_at : ℕ → List ℤ → ℕ → Bool
clear_at id list k = clear_of id (record_at port_width list k)

-- one record more, unless it has an end at the id
pub record KeptOne (list list' : List ℤ) (clear : Bool) (k count r : ℕ) : Type 0 where
  pub count_is : r ≡ cond clear (count + 1) count
  pub list_is : list' ≡ cond clear (paste list (count * port_width) (record_at port_width list k) port_width) list

-- the ends of the first n connections from k on are not negative
pub record EndsNatural (list : List ℤ) (n : ℕ) : Type 0 where
  pub source : (k : ℕ) → k < n → T (non_neg (at list (k * port_width)))
  pub sink : (k : ℕ) → k < n → T (non_neg (at list (k * port_width + 2)))

abbrev pub kept_of : List ℤ → ℕ → ℕ → List Record
kept_of list n id = keep (clear_of id) (tabulate (record_at port_width list) n)

-- of the first n connections those that are kept stand at the front, and zeros behind them
pub record Dropped (list list' : List ℤ) (n id r : ℕ) : Type 0 where
  pub count_is : r ≡ length (kept_of list n id)
  pub few : r ≤ n
  pub list_is : list' ≡ flat (kept_of list n id) ++ (replicate ((n - r) * port_width) (pos 0) ++ drop (n * port_width) list)

-- ---- breaking: the place of an id

-- place k has a block with the id
abbrev pub id_in : List ℕ → List ℤ → ℕ → ℕ → Bool
id_in state places id k = eqb (natural_at places (k * component_width)) id && not (member k (freed_places_in state))

-- the ids of the first n places are not negative
pub record IdsNatural (places : List ℤ) (n : ℕ) : Type 0 where
  pub at_place : (k : ℕ) → k < n → T (non_neg (at places (k * component_width)))
