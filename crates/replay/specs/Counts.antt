-- What is counted on the way.
-- Assumes nothing: these are definitions.
use Rattle.std.specs.Prelude.{ℕ, ◌+◌, min}
use Rattle.replay.specs.declared.compare.Tally.{Tally}

-- a sum, or the largest number of 64 bits
abbrev pub sum : ℕ → ℕ → ℕ
sum a b = min (a + b) 18446744073709551615

-- so many recorded numbers more, up to a place, of which some differ
abbrev pub after_numbers : Tally → ℕ → ℕ → ℕ → Tally
after_numbers t at numbers different =
    record { at = at; scenes = t.scenes; compared = sum t.compared numbers; different = sum t.different different }

-- one scene more
abbrev pub after_scene : Tally → Tally
after_scene t = record { at = t.at; scenes = sum t.scenes 1; compared = t.compared; different = t.different }
