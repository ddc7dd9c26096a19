-- Every form of a sheet passes the test, by computing it; how wide its records are, and how many lines they take. Assumes nothing.
use Prim.Native.Nat.{ℕ, ◌*◌, ◌/◌, ◌%◌}
use native.Mathlib.Omega.{arith}
use mathlib.Core.Path.{◌≡◌, refl}
use mathlib.Core.Bool.{true}
use lib.ListN.{length}
use Rattle.lists.specs.declared.Section.{Section}
use Rattle.lists.specs.declared.Section.TheVariants.{Components, Connections, Frontiers}
use Rattle.forms.specs.Form.{lines_of, in_line, field_test, form_test}
use Rattle.forms.specs.declared.Style.{Style}
use Rattle.forms.specs.declared.Style.TheVariants.{Old, Short}
use Rattle.forms.specs.Tables.{old_components, old_connections, old_frontiers, short_components, short_connections, short_frontiers, form_of, width_of}

pub old_components_pass : form_test old_components ≡ true
unfolding form_test field_test in_line
old_components_pass = refl

pub old_connections_pass : form_test old_connections ≡ true
unfolding form_test field_test in_line
old_connections_pass = refl

pub old_frontiers_pass : form_test old_frontiers ≡ true
unfolding form_test field_test in_line
old_frontiers_pass = refl

pub short_components_pass : form_test short_components ≡ true
unfolding form_test field_test in_line
short_components_pass = refl

pub short_connections_pass : form_test short_connections ≡ true
unfolding form_test field_test in_line
short_connections_pass = refl

pub short_frontiers_pass : form_test short_frontiers ≡ true
unfolding form_test field_test in_line
short_frontiers_pass = refl

pub passes : (style : Style) (list : Section) → form_test (form_of style list) ≡ true
passes Old Components = old_components_pass
passes Old Connections = old_connections_pass
passes Old Frontiers = old_frontiers_pass
passes Short Components = short_components_pass
passes Short Connections = short_connections_pass
passes Short Frontiers = short_frontiers_pass

-- how many numbers a record has, in both forms
pub same_width : (style : Style) (list : Section) → length (form_of style list) ≡ width_of list
same_width Old Components = refl
same_width Old Connections = refl
same_width Old Frontiers = refl
same_width Short Components = refl
same_width Short Connections = refl
same_width Short Frontiers = refl

-- how many lines a record takes
pub old_lines : (list : Section) → lines_of (form_of Old list) ≡ width_of list
unfolding lines_of
old_lines Components = refl
old_lines Connections = refl
old_lines Frontiers = refl

pub short_lines : (list : Section) → lines_of (form_of Short list) ≡ 1
unfolding lines_of
short_lines Components = refl
short_lines Connections = refl
short_lines Frontiers = refl

-- ---- whole records

pub whole_parts : (list : Section) (n : ℕ) → ((n * width_of list) / width_of list ≡ n) × ((n * width_of list) % width_of list ≡ 0)
whole_parts Components n = (omega arith, omega arith)
whole_parts Connections n = (omega arith, omega arith)
whole_parts Frontiers n = (omega arith, omega arith)

pub parts_whole : (list : Section) (n : ℕ) → n % width_of list ≡ 0 → n / width_of list * width_of list ≡ n
parts_whole Components n h = omega arith
parts_whole Connections n h = omega arith
parts_whole Frontiers n h = omega arith
