-- A buffer filled by one read after the other.
--     front_more       what stands at its front after one more
--     consumed_more    what two reads took, one after the other
-- Assumes nothing.
use Rattle.std.proofs.Common.{ℕ, List, ◌++◌, Option, Some, None, ◌≡◌, ◌+◌, ◌≤◌, length, take, sym, ap, ◌∙◌}
use mathlib.Core.List.{append_assoc}
use lib.Seq.{take-append-add, length-take-le}
use Rattle.std.proofs.lemmas.List.{take-append-le}
use borrow.Rule.Slice.PartMut.{put_mid, post_of}
use Rattle.std.specs.Io.KnownBytes.{Consumes}

pub front_more : (n m k : ℕ) (old more : List ℕ) → n ≤ length old → m ≤ length more
    → take (n + m) (put_mid n k old more) ≡ take n old ++ take m more
front_more n m k old more h l =
    let long : length (take n old) ≡ n = length-take-le n old h in
    ap (λ (i : ℕ). take (i + m) (put_mid n k old more)) (sym long)
    ∙ take-append-add (take n old) (more ++ post_of n k old) m
    ∙ ap (λ (t : List ℕ). take n old ++ t) (take-append-le m more (post_of n k old) l)

pub consumed_more : (a b c : Option (List ℕ)) (s t : List ℕ) → Consumes a b s → Consumes b c t → Consumes a c (s ++ t)
consumed_more None b c s t p q = tt
consumed_more (Some xs) (Some ys) (Some zs) s t p q = p ∙ ap (λ (r : List ℕ). s ++ r) q ∙ sym (append_assoc s t zs)
consumed_more (Some xs) (Some ys) None s t p q = q
consumed_more (Some xs) None c s t p q = absurd p
