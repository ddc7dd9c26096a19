-- The rules number (document 02, R-4 and R-7): by which year's rules a plot is marked. What does not take it does not depend on it.
--     rules_of         of the signed number that an entry is given
--     known_rules      there are rules 1, 2 and 3
--     lamps_pass       from rules 2 on a lamp is passive
--     blanks_unread    from rules 3 on a facing of none is not taken as North
-- Assumes nothing: these are definitions.
use Rattle.std.specs.Prelude.{ℕ, Bool, ◌&&◌, leb, ℤ, pos, negsuc}

-- a number below 0 is that of no rules, as 0 is
abbrev pub rules_of : ℤ → ℕ
rules_of (pos n) = n
rules_of (negsuc n) = 0

-- the greatest rules number
abbrev pub rules_limit : ℕ
rules_limit = 3

abbrev pub known_rules : ℕ → Bool
known_rules rules = leb 1 rules && leb rules rules_limit

abbrev pub lamps_pass : ℕ → Bool
lamps_pass rules = leb 2 rules

abbrev pub blanks_unread : ℕ → Bool
blanks_unread rules = leb 3 rules
