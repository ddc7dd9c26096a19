-- What is proved of held plots (proofs/Theorems.antt).
--     Decides          the test of number 18 is right: it passes exactly the plots that an opening and clicks can leave
--     Eighteen         18 is answered exactly for the others, and before all else
--     Unchanged        a refused click changes nothing
--     Counted          accepted placings less accepted breakings is the number present
--     Fifteen          15 is given only where as many as the limit are present
--     Recent           a placed block goes to the most recently freed place still free, or else to the lowest never used
--     Seated           it goes there, and nothing else moves
-- Assumes nothing: these are statements.
use Rattle.std.specs.Prelude.{⊤, Option, Some, None, Result, Ok, Err}
use Rattle.lists.specs.declared.Fault.{Fault}
use Rattle.std.specs.Prelude.{ℕ, ◌+◌, ◌≡◌, true, cond, List, [], ◌∷◌, ◌++◌, ◌↔◌, length, ℤ}
use Rattle.lists.specs.Limits.{component_limit}
use Rattle.lists.specs.declared.Refusal.{Refusal}
use Rattle.held.specs.Plot.{Record, Place, free, taken, Plot, at, present, place_of, opened, placed, seat, breaking}
use Rattle.held.specs.Left.{Click, place, break, connect, checks_of, left_by, run, Leavable, is_free, valid, answer_of, held_after}

-- ---- number 18

abbrev pub Decides : Plot → Type 0
Decides plot = Leavable plot ↔ (valid plot ≡ true)

-- a handed-in plot that no opening and clicks can leave, under list 3, item 0
abbrev pub eighteen : Refusal
eighteen = record { fault = Fault.StrangePlot; list = None; item = 0 }

-- "18 comes before all else"; on a plot that can be left the other checks decide
pub record Eighteen (plot : Plot) (click : Click) : Type 0 where
  pub not_left : (Leavable plot → ⊥) → answer_of plot click ≡ Err eighteen
  pub left : Leavable plot → answer_of plot click ≡ checks_of plot click
  -- and a click on it leaves one that can be left
  pub again : Leavable plot → Leavable (held_after plot click)

-- "A refused click changes nothing."
abbrev pub Unchanged : Plot → Click → Type 0
Unchanged plot click = (refusal : Refusal) → answer_of plot click ≡ Err refusal → held_after plot click ≡ plot

-- ---- counts

-- 1 for an accepted click of the kind that is counted
abbrev pub one_if : Result ⊤ Refusal → ℕ
one_if (Ok tt) = 1
one_if (Err refusal) = 0

abbrev pub places_by : Plot → Click → ℕ
places_by plot (place block) = one_if (checks_of plot (place block))
places_by plot (break id) = 0
places_by plot (connect connection) = 0

abbrev pub breaks_by : Plot → Click → ℕ
breaks_by plot (place block) = 0
breaks_by plot (break id) = one_if (checks_of plot (break id))
breaks_by plot (connect connection) = 0

-- the accepted placings and the accepted breakings of a run
unfoldable pub placings : Plot → List Click → ℕ
placings plot [] = 0
placings plot (click ∷ clicks) = places_by plot click + placings (left_by plot click) clicks

unfoldable pub breakings : Plot → List Click → ℕ
breakings plot [] = 0
breakings plot (click ∷ clicks) = breaks_by plot click + breakings (left_by plot click) clicks

-- "From an opening, each click on the plot the one before left, accepted placings less accepted breakings is the number present."
abbrev pub Counted : ℕ → List ℤ → List Click → Type 0
Counted rules frontiers clicks =
    placings (opened rules frontiers) clicks ≡ breakings (opened rules frontiers) clicks + present (run (opened rules frontiers) clicks).places

-- ---- where a placed block goes

-- "15, no place is free, given only at 1,024 present"
abbrev pub Fifteen : Plot → Record → Type 0
Fifteen plot block = (item : ℕ) → answer_of plot (place block) ≡ Err (record { fault = Fault.FullPlot; list = None; item = item }) → present plot.places ≡ component_limit

-- the place that an accepted breaking frees
abbrev pub freed_at : Result ⊤ Refusal → Option ℕ → List ℕ
freed_at (Ok tt) (Some k) = k ∷ []
freed_at (Ok tt) None = []
freed_at (Err refusal) found = []

abbrev pub freed_by : Plot → Click → List ℕ
freed_by plot (place block) = []
freed_by plot (break id) = freed_at (breaking plot id) (place_of plot.places id)
freed_by plot (connect connection) = []

-- all that the clicks freed, the latest first, before what was freed earlier
unfoldable pub freed_in : Plot → List Click → List ℕ → List ℕ
freed_in plot [] earlier = earlier
freed_in plot (click ∷ clicks) earlier = freed_in (left_by plot click) clicks (freed_by plot click ++ earlier)

-- the first of these that is still free, or else the lowest place never used
unfoldable pub most_recent : List ℕ → List Place → ℕ
most_recent [] places = length places
most_recent (k ∷ earlier) places = cond (is_free (at places k)) k (most_recent earlier places)

-- "Placing takes and answers the most recently freed place still free, or else the lowest place never used", by what the clicks freed
abbrev pub Recent : ℕ → List ℤ → List Click → Type 0
Recent rules frontiers clicks =
    seat (run (opened rules frontiers) clicks) ≡ most_recent (freed_in (opened rules frontiers) clicks []) (run (opened rules frontiers) clicks).places

-- the block is at its seat, which was free; every other place is as it was
pub record Seated (plot : Plot) (block : Record) : Type 0 where
  pub was_free : at plot.places (seat plot) ≡ free
  pub here : at (placed plot block).places (seat plot) ≡ taken block
  pub other : (k : ℕ) → (k ≡ seat plot → ⊥) → at (placed plot block).places k ≡ at plot.places k
