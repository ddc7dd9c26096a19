-- Lists of nodes: membership and its test, ranges, filters, and that a list without repetition is no longer than a list that holds it.
-- Assumes nothing.
use mathlib.Core.Path.{◌≡◌, refl, sym, ap, ◌∙◌, subst}
use mathlib.Core.Bool.{Bool, true, false, cond, ◌||◌, false≢true, true≢false}
use mathlib.Core.List.{List, [], ◌∷◌, ◌++◌, map, reverse, reverse_aux, reverse-cons, reverse-reverse}
use mathlib.Core.Logic.{◌⊎◌, inl, inr, ⊎_elim}
use Prim.Native.Nat.{ℕ, zero, suc, ◌+◌, ◌≤◌, ◌<◌, zero-le, suc-le-suc}
use native.Mathlib.Nat.{eq-or-lt_of_le, le_of_suc-le-suc, not-suc-le-zero, zero-add}
use native.Mathlib.Omega.{arith}
use borrow.Author.Tests.{eqb-true, eq-eqb}
use lib.Dec.{eqb}
use lib.ListN.{length, get_or, set, replicate, length-map, length-set, length-replicate, get_or-replicate}
use lib.Seq.{ext_get_or, get_or-set_same, get_or-set_other}
use Rattle.std.proofs.lemmas.List.{get_or-reverse}
use Rattle.tables.specs.Order.{member}
use Rattle.tables.specs.Laws.{same?}
use Rattle.regions.specs.Graph.{range, filter}

infix 50 ◌∈◌
-- x stands in the list
abbrev pub ◌∈◌ : ℕ → List ℕ → Type 0
x ∈ [] = ⊥
x ∈ (y ∷ l) = (x ≡ y) ⊎ (x ∈ l)

-- no node stands in the list twice
abbrev pub Nodup : List ℕ → Type 0
Nodup [] = Unit {0}
Nodup (x ∷ l) = (¬ (x ∈ l)) × Nodup l

-- ---- tests

pub split : (b : Bool) → (b ≡ true) ⊎ (b ≡ false)
split true = inl refl
split false = inr refl

pub or_right : (a : Bool) {b : Bool} → b ≡ true → (a || b) ≡ true
or_right true e = refl
or_right false e = e

-- ---- membership and its test

pub mem-∈ : (x : ℕ) (l : List ℕ) → member x l ≡ true → x ∈ l
unfolding member
mem-∈ x [] e = absurd (false≢true e)
mem-∈ x (y ∷ l) e = go (eqb x y) refl (mem-∈ x l) e
  where
    go : (b : Bool) → eqb x y ≡ b → (member x l ≡ true → x ∈ l) → (b || member x l) ≡ true → x ∈ (y ∷ l)
    go true q ih e = inl (eqb-true x y q)
    go false q ih e = inr (ih e)

pub ∈-mem : (x : ℕ) (l : List ℕ) → x ∈ l → member x l ≡ true
unfolding member
∈-mem x [] h = absurd h
∈-mem x (y ∷ l) (inl e) = ap (λ b. b || member x l) (eq-eqb _ _ e)
∈-mem x (y ∷ l) (inr h) = or_right (eqb x y) (∈-mem x l h)

pub mem-∉ : (x : ℕ) (l : List ℕ) → member x l ≡ false → ¬ (x ∈ l)
mem-∉ x l e h = true≢false (sym (∈-mem x l h) ∙ e)

pub ∉-mem : (x : ℕ) (l : List ℕ) → ¬ (x ∈ l) → member x l ≡ false
∉-mem x l h = go (split (member x l))
  where
    go : (member x l ≡ true) ⊎ (member x l ≡ false) → member x l ≡ false
    go (inl e) = absurd (h (mem-∈ x l e))
    go (inr e) = e

pub member? : (x : ℕ) (l : List ℕ) → (x ∈ l) ⊎ (¬ (x ∈ l))
member? x l = go (split (member x l))
  where
    go : (member x l ≡ true) ⊎ (member x l ≡ false) → (x ∈ l) ⊎ (¬ (x ∈ l))
    go (inl e) = inl (mem-∈ x l e)
    go (inr e) = inr (mem-∉ x l e)

pub ∈-++ : (x : ℕ) (l m : List ℕ) → x ∈ (l ++ m) → (x ∈ l) ⊎ (x ∈ m)
∈-++ x [] m h = inr h
∈-++ x (y ∷ l) m (inl e) = inl (inl e)
∈-++ x (y ∷ l) m (inr h) = go (∈-++ x l m h)
  where
    go : (x ∈ l) ⊎ (x ∈ m) → (x ∈ (y ∷ l)) ⊎ (x ∈ m)
    go (inl p) = inl (inr p)
    go (inr p) = inr p

pub ∈-left : (x : ℕ) (l m : List ℕ) → x ∈ l → x ∈ (l ++ m)
∈-left x [] m h = absurd h
∈-left x (y ∷ l) m (inl e) = inl e
∈-left x (y ∷ l) m (inr h) = inr (∈-left x l m h)

pub ∈-right : (x : ℕ) (l m : List ℕ) → x ∈ m → x ∈ (l ++ m)
∈-right x [] m h = h
∈-right x (y ∷ l) m h = inr (∈-right x l m h)

-- ---- ranges and filters

pub ∈-range : (y a k : ℕ) → y ∈ range a k → (a ≤ y) × (y < a + k)
unfolding range
∈-range y a zero h = absurd h
∈-range y a (suc k) (inl e) = omega arith
∈-range y a (suc k) (inr h) = let p = ∈-range y (suc a) k h in omega (arith, p)

pub range-∈ : (y a k : ℕ) → a ≤ y → y < a + k → y ∈ range a k
unfolding range
range-∈ y a zero p q = absurd (omega arith)
range-∈ y a (suc k) p q = go (eq-or-lt_of_le p) (range-∈ y (suc a) k)
  where
    go : (a ≡ y) ⊎ (a < y) → (suc a ≤ y → y < suc a + k → y ∈ range (suc a) k) → (y ≡ a) ⊎ (y ∈ range (suc a) k)
    go (inl e) ih = inl (sym e)
    go (inr h) ih = inr (ih h (omega arith))

pub nodup_range : (a k : ℕ) → Nodup (range a k)
unfolding range
nodup_range a zero = tt
nodup_range a (suc k) = (λ h. let p = ∈-range a (suc a) k h in omega (arith, p), nodup_range (suc a) k)

pub length_range : (a k : ℕ) → length (range a k) ≡ k
unfolding range
length_range a zero = refl
length_range a (suc k) = ap suc (length_range (suc a) k)

pub ∈-filter : (p : ℕ → Bool) (y : ℕ) (l : List ℕ) → y ∈ filter p l → (y ∈ l) × (p y ≡ true)
unfolding filter
∈-filter p y [] h = absurd h
∈-filter p y (x ∷ l) h = go (p x) refl (∈-filter p y l) h
  where
    go : (b : Bool) → p x ≡ b → (y ∈ filter p l → (y ∈ l) × (p y ≡ true)) → y ∈ cond b (x ∷ filter p l) (filter p l) → (y ∈ (x ∷ l)) × (p y ≡ true)
    go true q ih (inl e) = (inl e, ap p e ∙ q)
    go true q ih (inr h) = (inr (ih h).0, (ih h).1)
    go false q ih h = (inr (ih h).0, (ih h).1)

pub filter-∈ : (p : ℕ → Bool) (y : ℕ) (l : List ℕ) → y ∈ l → p y ≡ true → y ∈ filter p l
unfolding filter
filter-∈ p y [] h q = absurd h
filter-∈ p y (x ∷ l) h q = go (p x) refl (filter-∈ p y l) h
  where
    go : (b : Bool) → p x ≡ b → (y ∈ l → p y ≡ true → y ∈ filter p l) → y ∈ (x ∷ l) → y ∈ cond b (x ∷ filter p l) (filter p l)
    go true r ih (inl e) = inl e
    go true r ih (inr h) = inr (ih h q)
    go false r ih (inl e) = absurd (true≢false (sym q ∙ ap p e ∙ r))
    go false r ih (inr h) = ih h q

-- ---- a list without repetition is no longer than a list that holds it

-- the list without the first x
remove : ℕ → List ℕ → List ℕ
remove x [] = []
remove x (y ∷ l) = cond (eqb x y) l (y ∷ remove x l)

length_remove : (x : ℕ) (l : List ℕ) → x ∈ l → length l ≡ suc (length (remove x l))
unfolding remove
length_remove x [] h = absurd h
length_remove x (y ∷ l) h = go (eqb x y) refl (length_remove x l) h
  where
    go : (b : Bool) → eqb x y ≡ b → (x ∈ l → length l ≡ suc (length (remove x l))) → x ∈ (y ∷ l) → suc (length l) ≡ suc (length (cond b l (y ∷ remove x l)))
    go true q ih h = refl
    go false q ih (inl e) = absurd (true≢false (sym (eq-eqb _ _ e) ∙ q))
    go false q ih (inr h) = ap suc (ih h)

∈-remove : (x y : ℕ) (l : List ℕ) → y ∈ l → ¬ (x ≡ y) → y ∈ remove x l
unfolding remove
∈-remove x y [] h ne = absurd h
∈-remove x y (z ∷ l) h ne = go (eqb x z) refl (∈-remove x y l) h
  where
    go : (b : Bool) → eqb x z ≡ b → (y ∈ l → ¬ (x ≡ y) → y ∈ remove x l) → y ∈ (z ∷ l) → y ∈ cond b l (z ∷ remove x l)
    go true q ih (inl e) = absurd (ne (eqb-true x z q ∙ sym e))
    go true q ih (inr h) = h
    go false q ih (inl e) = inl e
    go false q ih (inr h) = inr (ih h ne)

pub pigeonhole : (l m : List ℕ) → Nodup l → ((y : ℕ) → y ∈ l → y ∈ m) → length l ≤ length m
pigeonhole [] m d s = zero-le
pigeonhole (x ∷ l) m d s =
    subst (λ (k : ℕ). suc (length l) ≤ k) (sym (length_remove x m (s x (inl refl))))
    (suc-le-suc (pigeonhole l (remove x m) d.1 (λ y h. ∈-remove x y m (s y (inr h)) (λ e. d.0 (subst (λ (z : ℕ). z ∈ l) (sym e) h)))))

pub nodup_below : (n : ℕ) (l : List ℕ) → Nodup l → ((y : ℕ) → y ∈ l → y < n) → length l ≤ n
nodup_below n l d h =
    subst (λ (k : ℕ). length l ≤ k) (length_range zero n)
    (pigeonhole l (range zero n) d (λ y k. let p = h y k in range-∈ y zero n zero-le (omega (arith, p))))

-- ---- places: the element at place i, counted from 0

pub get_or-∈ : (l : List ℕ) (i d : ℕ) → i < length l → get_or l i d ∈ l
get_or-∈ [] i d h = absurd (not-suc-le-zero h)
get_or-∈ (x ∷ l) zero d h = inl refl
get_or-∈ (x ∷ l) (suc i) d h = inr (get_or-∈ l i d (le_of_suc-le-suc h))

pub ∈-get_or : (x : ℕ) (l : List ℕ) (d : ℕ) → x ∈ l → (i : ℕ) × (i < length l) × (get_or l i d ≡ x)
∈-get_or x [] d h = absurd h
∈-get_or x (y ∷ l) d (inl e) = (zero, suc-le-suc zero-le, sym e)
∈-get_or x (y ∷ l) d (inr h) = let p = ∈-get_or x l d h in (suc p.0, suc-le-suc p.1, p.2)

-- ---- arrays: f 0, f 1, .., f (n - 1)

abbrev pub table : {B : Type 0} → ℕ → (ℕ → B) → List B
table n f = map f (range zero n)

pub length_table : {B : Type 0} (n : ℕ) (f : ℕ → B) → length (table n f) ≡ n
length_table n f = length-map (range zero n) f ∙ length_range zero n

get_or_map_range : {B : Type 0} (f : ℕ → B) (a k i : ℕ) (d : B) → i < k → get_or (map f (range a k)) i d ≡ f (a + i)
unfolding range
get_or_map_range f a zero i d h = absurd (not-suc-le-zero h)
get_or_map_range f a (suc k) zero d h = ap f (omega arith)
get_or_map_range f a (suc k) (suc i) d h = get_or_map_range f (suc a) k i d (le_of_suc-le-suc h) ∙ ap f (omega arith)

pub get_or_table : {B : Type 0} (n : ℕ) (f : ℕ → B) (i : ℕ) (d : B) → i < n → get_or (table n f) i d ≡ f i
get_or_table n f i d h = get_or_map_range f zero n i d h ∙ ap f (zero-add i)

-- a list that is f at each of its n places is the array of f
pub table_of : {B : Type 0} (n : ℕ) (f : ℕ → B) (d : B) (l : List B) → length l ≡ n → ((i : ℕ) → i < n → get_or l i d ≡ f i) → l ≡ table n f
table_of n f d l e h =
    ext_get_or d l (table n f) (e ∙ sym (length_table n f)) (λ i k. let k' = subst (λ (m : ℕ). i < m) e k in h i k' ∙ sym (get_or_table n f i d k'))

pub table_ext : {B : Type 0} (n : ℕ) (f g : ℕ → B) → ((i : ℕ) → i < n → f i ≡ g i) → table n f ≡ table n g
table_ext n f g h = table_of n g (g zero) (table n f) (length_table n f) (λ i k. get_or_table n f i (g zero) k ∙ h i k)

pub table_replicate : {B : Type 0} (n : ℕ) (f : ℕ → B) (a : B) → ((i : ℕ) → f i ≡ a) → replicate n a ≡ table n f
table_replicate n f a h = table_of n f a (replicate n a) (length-replicate n a) (λ i k. get_or-replicate n i a a k ∙ sym (h i))

-- a store changes f at one place
pub table_set : {B : Type 0} (n : ℕ) (f g : ℕ → B) (x : ℕ) → x < n → ((i : ℕ) → ¬ (i ≡ x) → f i ≡ g i) → set (table n f) x (g x) ≡ table n g
table_set n f g x lt h = table_of n g (g x) (set (table n f) x (g x)) (length-set (table n f) x (g x) ∙ length_table n f) (λ i k. at i k (same? i x))
  where
    at : (i : ℕ) → i < n → (i ≡ x) ⊎ (¬ (i ≡ x)) → get_or (set (table n f) x (g x)) i (g x) ≡ g i
    at i k (inl e) =
        ap (λ (j : ℕ). get_or (set (table n f) x (g x)) j (g x)) e
        ∙ get_or-set_same (table n f) x (g x) (g x) (subst (λ (m : ℕ). x < m) (sym (length_table n f)) lt) ∙ ap g (sym e)
    at i k (inr ne) = get_or-set_other (table n f) x i (g x) (g x) ne ∙ get_or_table n f i (g x) k ∙ h i ne

-- ---- the list turned around

nodup_reverse_aux : (l r : List ℕ) → Nodup l → Nodup r → ((x : ℕ) → x ∈ l → ¬ (x ∈ r)) → Nodup (reverse_aux l r)
nodup_reverse_aux [] r dl dr apart = dr
nodup_reverse_aux (y ∷ l) r dl dr apart =
    nodup_reverse_aux l (y ∷ r) dl.1 (apart y (inl refl), dr)
    (λ x h. ⊎_elim (λ e. dl.0 (subst (λ (z : ℕ). z ∈ l) e h)) (apart x (inr h)))

pub ∈-reverse : (x : ℕ) (l : List ℕ) → x ∈ reverse l → x ∈ l
∈-reverse x [] h = h
∈-reverse x (y ∷ l) h =
    ⊎_elim (λ k. inr (∈-reverse x l k)) (⊎_elim inl absurd)
    (∈-++ x (reverse l) (y ∷ []) (subst (λ m. x ∈ m) (reverse-cons y l) h))

pub reverse-∈ : (x : ℕ) (l : List ℕ) → x ∈ l → x ∈ reverse l
reverse-∈ x l h = ∈-reverse x (reverse l) (subst (λ m. x ∈ m) (sym (reverse-reverse l)) h)

pub nodup_reverse : (l : List ℕ) → Nodup l → Nodup (reverse l)
nodup_reverse l d = nodup_reverse_aux l [] d tt (λ x h k. k)

-- place i from the front is place j from the back
pub get_or_reverse : (l : List ℕ) (i j d : ℕ) → suc (i + j) ≡ length l → get_or (reverse l) i d ≡ get_or l j d
get_or_reverse l i j d e = get_or-reverse l i d (omega arith) ∙ ap (λ (k : ℕ). get_or l k d) (omega arith)
