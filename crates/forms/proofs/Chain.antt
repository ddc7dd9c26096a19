-- A sheet by what its lists are, one after the other: at the first that is faulty, or with something behind the last, it is refused.
-- Assumes nothing.
use Prim.Native.Nat.{ℕ, min, ◌≤◌, ◌<◌}
use mathlib.Core.Path.{◌≡◌}
use mathlib.Core.List.{List}
use lib.IntN.{ℤ}
use lib.ListN.{length, drop, drop_of_length-le}
use Rattle.lines.proofs.Reading.{next}
use Rattle.lists.specs.Limits.{component_limit, connection_limit, frontier_limit}
use Rattle.lists.specs.declared.Refusal.{Refusal}
use Rattle.lists.specs.declared.Section.TheVariants.{Components, Connections, Frontiers}
use Rattle.forms.specs.declared.Style.{Style}
use Rattle.forms.specs.Sheet.{head, no_head, part, fault, Sheet, Faulty, bad_line, read_head, read_list, ended, parse_lists, parse}

module _ (components connections frontiers : ℕ) (style : Style) (rules : ℕ) (s : List ℕ) (line : ℕ) where
  pub first_fault : {r : Refusal} → read_list style Components (min components component_limit) line s ≡ fault r → parse_lists components connections frontiers style rules s line ≡ Faulty r
  unfolding parse_lists
  first_fault e = rw e

  module _ {cs : List ℤ} {s₁ : List ℕ} {line₁ : ℕ} (e₁ : read_list style Components (min components component_limit) line s ≡ part cs s₁ line₁) where
    pub second_fault : {r : Refusal} → read_list style Connections (min connections connection_limit) line₁ s₁ ≡ fault r → parse_lists components connections frontiers style rules s line ≡ Faulty r
    unfolding parse_lists
    second_fault e = rw (e₁, e)

    module _ {ps : List ℤ} {s₂ : List ℕ} {line₂ : ℕ} (e₂ : read_list style Connections (min connections connection_limit) line₁ s₁ ≡ part ps s₂ line₂) where
      pub third_fault : {r : Refusal} → read_list style Frontiers (min frontiers frontier_limit) line₂ s₂ ≡ fault r → parse_lists components connections frontiers style rules s line ≡ Faulty r
      unfolding parse_lists
      third_fault e = rw (e₁, e₂, e)

      pub all_lists : {fs : List ℤ} {s₃ : List ℕ} {line₃ : ℕ} → read_list style Frontiers (min frontiers frontier_limit) line₂ s₂ ≡ part fs s₃ line₃
          → parse_lists components connections frontiers style rules s line ≡ ended style rules cs ps fs s₃ line₃
      unfolding parse_lists
      all_lists e = rw (e₁, e₂, e)

module _ (style : Style) (rules : ℕ) (cs ps fs : List ℤ) (text : List ℕ) (p line : ℕ) where
  pub nothing_behind : length text ≤ p → ended style rules cs ps fs (drop p text) line ≡ Sheet style rules cs ps fs
  nothing_behind h = rw (drop_of_length-le text h)

  pub something_behind : p < length text → ended style rules cs ps fs (drop p text) line ≡ Faulty (bad_line line)
  something_behind h = rw (next text p h)

-- ---- the head, and the lists behind it

module _ (most components connections frontiers : ℕ) (s : List ℕ) where
  pub by_head : {style : Style} {rules : ℕ} {r : List ℕ} {line : ℕ} → read_head most s ≡ head style rules r line
      → parse most components connections frontiers s ≡ parse_lists components connections frontiers style rules r line
  unfolding parse
  by_head e = rw e

  pub head_fault : {x : Refusal} → read_head most s ≡ no_head x → parse most components connections frontiers s ≡ Faulty x
  unfolding parse
  head_fault e = rw e
