-- The rows that are filled, and what they are in the report.
--     row_read, pair_read, flag_read    the same row by numbers that are equal
--     rows_same                         rows that are the same one by one
--     id_few                            a row of one number or none
--     natural_in, natural_is            a number of a list with no sign
-- Assumes nothing.
use mathlib.Core.Path.{◌≡◌, refl}
use mathlib.Core.Bool.{Bool, true, false, cond}
use mathlib.Core.List.{List, [], ◌∷◌, map}
use Prim.Native.Nat.{ℕ, zero, suc, ◌<◌}
use native.Mathlib.Omega.{arith}
use lib.Dec.{T}
use lib.IntN.{ℤ, pos}
use lib.ListN.{get_or, get_or-map}
use lib.Signed.{non_neg}
use Rattle.sets.specs.Members.{as_nat, member_of}
use Rattle.lists.specs.Signed.{at}
use Rattle.lists.specs.Records.{natural_at}
use Rattle.assessment.specs.Rows.{Put}
use Rattle.assessment.proofs.Devices.{Few}
use Rattle.report.specs.Report.{all_rows}

pub row_read : {at r : ℕ} {old new : List ℕ} {id id' net fragment region drive drive' potential potential' : ℕ} → id ≡ id' → drive ≡ drive' → potential ≡ potential'
    → Put (id ∷ net ∷ fragment ∷ region ∷ drive ∷ potential ∷ []) at old new r → Put (id' ∷ net ∷ fragment ∷ region ∷ drive' ∷ potential' ∷ []) at old new r
row_read e f g p = rw (← e, ← f, ← g) p

pub pair_read : {at r : ℕ} {old new : List ℕ} {a a' b b' : ℕ} → a ≡ a' → b ≡ b' → Put (a ∷ b ∷ []) at old new r → Put (a' ∷ b' ∷ []) at old new r
pair_read e f p = rw (← e, ← f) p

-- a flag, whether a number that is known otherwise is in a set
pub flag_read : (words : List ℕ) {d m m' : ℕ} {b : Bool} → d ≡ as_nat b → b ≡ member_of words m → m ≡ m' → d ≡ as_nat (member_of words m')
flag_read words e f g = rw (e, f, g)

pub rows_same : (row row' : ℕ → List ℕ) (n : ℕ) → ((p : ℕ) → p < n → row p ≡ row' p) → all_rows row n ≡ all_rows row' n
unfolding all_rows
rows_same row row' zero same = refl
rows_same row row' (suc n) same = rw (rows_same row row' n (λ p h. same p (omega arith)), same n (omega arith))

pub id_few : (b : Bool) (id : ℕ) → Few (cond b (id ∷ []) []) 1 1
id_few true id = record { turns = 1; whole = refl; few = omega arith }
id_few false id = record { turns = 0; whole = refl; few = omega arith }

-- ---- numbers with no sign

pub natural_in : {list : List ℤ} (ns : List ℕ) → list ≡ map pos ns → (i : ℕ) → T (non_neg (at list i))
natural_in ns e i = rw (e, get_or-map pos ns i 0) tt

pub natural_is : {list : List ℤ} (ns : List ℕ) → list ≡ map pos ns → (i : ℕ) → natural_at list i ≡ get_or ns i 0
natural_is ns e i = rw (e, get_or-map pos ns i 0)
