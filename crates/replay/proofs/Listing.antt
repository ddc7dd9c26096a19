-- Sets listed a number at a time.
--     Front                        rows stand at the front of a list, and the rest is as it was
--     front_none, -more            none at first, one more
--     flag_is, flags_all           a flag as the code makes it; all flags below a number
--     names_none, -first, -last    the names below a number
-- Assumes nothing.
use Prim.Native.Nat.{ℕ, zero, suc, ◌+◌, ◌≤◌, ◌<◌}
use native.Mathlib.Numerals.{add-one}
use native.Mathlib.Omega.{arith}
use mathlib.Core.Path.{◌≡◌, refl, sym, ap, ◌∙◌}
use mathlib.Core.Bool.{Bool, true, false, cond}
use mathlib.Core.List.{List, [], ◌∷◌, ◌++◌, append-nil}
use lib.ListN.{length, take, get_or, set, length-append}
use lib.Seq.{take-length, take-suc}
use Rattle.std.specs.Int.{from_bool}
use Rattle.lists.specs.Slices.{laid}
use Rattle.lines.proofs.Writing.{laid_snoc}
use Rattle.sets.specs.Members.{as_nat, member_of, NoneIn, FirstFrom}
use Rattle.std.specs.Prelude.{Some, None}
use native.Mathlib.Nat.{add-zero}
use mathlib.Core.Path.{subst}
use Prim.Native.Nat.{◌-◌}
use Rattle.replay.specs.Names.{name_of, names_below, flags_below}

pub record Front (rows : List ℕ) (n : ℕ) (old new : List ℕ) : Type 0 where
  pub count : length rows ≡ n
  pub few : n ≤ length old
  pub front : new ≡ laid rows old

pub front_none : (old : List ℕ) → Front [] 0 old old
front_none old = record { count = refl; few = omega arith; front = refl }

pub front_more : {rows old new : List ℕ} {n : ℕ} (a : ℕ) → Front rows n old new → n < length old → Front (rows ++ (a ∷ [])) (n + 1) old (set new n a)
front_more {rows} {old} {new} {n} a f h =
    record {
      count = rw (length-append rows (a ∷ [])) (omega (arith, f.count));
      few = omega arith;
      front = rw f.front (laid_snoc rows old a n f.count h);
    }

-- a flag as the code makes it
flag_of : (b : Bool) → from_bool b ≡ as_nat b
flag_of true = refl
flag_of false = refl

-- what a call of the closure of `list_flags` gives
pub flag_is : (v : ℕ) (b t : Bool) → v ≡ from_bool b → b ≡ t → v ≡ as_nat t
flag_is v b t e f = e ∙ flag_of b ∙ ap as_nat f

-- a list whose every place below n holds its flag begins with all flags below n
module _ (words ys : List ℕ) where
  flags_front : (n : ℕ) → n ≤ length ys → ((k : ℕ) → k < n → get_or ys k 0 ≡ as_nat (member_of words k)) → take n ys ≡ flags_below words n
  unfolding flags_below
  flags_front zero h own = refl
  flags_front (suc n) h own =
      let front = flags_front n (omega arith) (λ k l. own k (omega arith)) in
      take-suc ys n 0 h ∙ rw (front, own n (omega arith))

  pub flags_all : (n : ℕ) → length ys ≡ n → ((k : ℕ) → k < n → get_or ys k 0 ≡ as_nat (member_of words k)) → ys ≡ flags_below words n
  flags_all n e own = sym (ap (λ m. take m ys) (sym e) ∙ take-length ys) ∙ flags_front n (omega arith) own

module _ (keys words : List ℕ) where
  pub names_none : names_below keys words 0 ≡ []
  unfolding names_below
  names_none = refl

  names_more : (m : ℕ) → member_of words m ≡ true → names_below keys words (m + 1) ≡ names_below keys words m ++ (name_of keys m ∷ [])
  unfolding names_below
  names_more m e = rw (add-one, e)

  -- no member among d
  names_skip : (d a : ℕ) → NoneIn words a (a + d) → names_below keys words (a + d) ≡ names_below keys words a
  unfolding names_below
  names_skip zero a none = ap (names_below keys words) (add-zero a)
  names_skip (suc d) a none =
      let e : a + suc d ≡ suc (a + d) = omega arith in
      rw (e, none (a + d) (omega arith) (omega arith)) (append-nil (names_below keys words (a + d)) ∙ names_skip d a (λ k h l. none k h (omega arith)))

  names_to : (a b : ℕ) → a ≤ b → NoneIn words a b → names_below keys words b ≡ names_below keys words a
  names_to a b h none =
      let e : b ≡ a + (b - a) = omega arith in
      ap (names_below keys words) e ∙ names_skip (b - a) a (subst (NoneIn words a) e none)

  -- the next member from a start on, and none
  pub names_first : (a m : ℕ) → FirstFrom words a (Some m) → names_below keys words (m + 1) ≡ names_below keys words a ++ (name_of keys m ∷ [])
  names_first a m (h, e, none) = names_more m e ∙ ap (λ l. l ++ (name_of keys m ∷ [])) (names_to a m h none)

  pub names_last : (a b : ℕ) → a ≤ b → FirstFrom words a None → names_below keys words b ≡ names_below keys words a
  names_last a b h f = names_to a b h (λ k l g. f k l)

  pub names_few : (m : ℕ) → length (names_below keys words m) ≤ m
  unfolding names_below
  names_few zero = omega arith
  names_few (suc m) = go (member_of words m) (names_few m)
    where
      go : (b : Bool) → length (names_below keys words m) ≤ m → length (names_below keys words m ++ cond b (name_of keys m ∷ []) []) ≤ suc m
      go true h = omega (arith, h, length-append (names_below keys words m) (name_of keys m ∷ []))
      go false h = omega (arith, h, length-append (names_below keys words m) [])
