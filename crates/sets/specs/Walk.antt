-- A walk from member to member of a set.
-- Assumes nothing.
use Rattle.std.specs.Prelude.{◌≡◌, ℕ, ◌+◌, Option, None, Some}
use Rattle.sets.specs.Members.{FirstFrom}
use Rattle.sets.specs.declared.Members.{Members}

-- the next member is given, and the walk goes on behind it, or there is none, now or later
abbrev pub GivesMember : Members → Option ℕ → Members → Type 0
GivesMember old None new = FirstFrom old.set.words old.start None × (new ≡ old)
GivesMember old (Some m) new = FirstFrom old.set.words old.start (Some m) × (new.set ≡ old.set) × (new.start ≡ m + 1)
