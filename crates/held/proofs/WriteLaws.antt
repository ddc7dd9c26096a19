-- What an accepted click writes is the layout of the plot that it leaves.
--     paste_behind, paste_flat        a record written behind others, and in the place of one
--     seat_state, seat_places         placing
--     free_state, free_places         breaking: the place
--     join_state, join_connections    connecting
-- Assumes nothing.
use mathlib.Core.Path.{◌≡◌, refl, sym, ap, ◌∙◌, subst}
use mathlib.Core.List.{List, [], ◌∷◌, ◌++◌, map, reverse, reverse-cons, append_assoc}
use Prim.Native.Nat.{ℕ, zero, suc, ◌+◌, ◌*◌, ◌-◌, ◌/◌, ◌≤◌, ◌<◌}
use native.Mathlib.Nat.{suc-mul, zero-mul}
use native.Mathlib.Omega.{arith}
use lib.ListN.{length, get_or, take, drop, set, replicate, length-append, length-set, length-reverse, length-map}
use lib.Seq.{paste, length-paste, take-append_seam, take-append-le, drop-append-le, take-append-add, drop-append-add, take-length, set_at, get_or_at}
use lib.IntN.{ℤ, pos}
use Rattle.lists.specs.Limits.{component_limit, connection_limit, component_width, port_width, frontier_width}
use Rattle.held.specs.Plot.{Record, Place, free, taken, Plot, seat_of, seated, still_free}
use Rattle.held.specs.Lent.{flat, padded, blank, slot_of, counts_of, laid_state, laid_places, laid_connections}
use Rattle.held.specs.Writes.{seat_in, seated_state, seated_places, freed_state, cleared_places, joined_connections}
use Rattle.held.proofs.Flat.{Long, length_flat, flat_snoc}
use Rattle.held.proofs.SeatLaws.{seat_lowest, state_lowest, seat_latest, state_latest}

-- ---- records written into a list

pub drop_replicate : {A : Type 0} (n z : ℕ) (a : A) → drop n (replicate z a) ≡ replicate (z - n) a
drop_replicate zero z a = let e : z ≡ z - 0 = omega arith in ap (λ (k : ℕ). replicate k a) e
drop_replicate (suc n) zero a = let e : 0 ≡ 0 - suc n = omega arith in ap (λ (k : ℕ). replicate k a) e
drop_replicate (suc n) (suc z) a = let e : z - n ≡ suc z - suc n = omega arith in drop_replicate n z a ∙ ap (λ (k : ℕ). replicate k a) e

-- behind the first records
pub paste_behind : (front : List ℤ) (n w : ℕ) (r : Record) → length r ≡ w → length front + w ≤ n → paste (padded n front) (length front) r w ≡ padded n (front ++ r)
paste_behind front n w r e h =
    let z : ℕ = n - length front in
    let rest : drop (length front + w) (front ++ replicate z (pos 0)) ≡ replicate (z - w) (pos 0) =
    drop-append-add front (replicate z (pos 0)) w ∙ drop_replicate w z (pos 0) in
    let whole : take w r ≡ r = subst (λ (k : ℕ). take k r ≡ r) e (take-length r) in
    let size : z - w ≡ n - length (front ++ r) = omega (arith, length-append front r) in
    rw (rest, take-append_seam front (replicate z (pos 0)), whole, size)

paste_more : (a d : List ℤ) (k w : ℕ) (r : Record) → paste (a ++ d) (length a + k) r w ≡ a ++ paste d k r w
paste_more a d k w r =
    let size : length a + k + w ≡ length a + (k + w) = omega arith in
    rw (size, drop-append-add a d (k + w), take-append-add a d k) (append_assoc (a ++ take k d) (take w r) (drop (k + w) d)
    ∙ (append_assoc a (take k d) (take w r ++ drop (k + w) d) ∙ ap (λ (t : List ℤ). a ++ t) (sym (append_assoc (take k d) (take w r) (drop (k + w) d)))))

-- in the place of record k
pub paste_flat : (w : ℕ) (rs : List Record) (k : ℕ) (r : Record) → Long w rs → k < length rs → length r ≡ w → paste (flat rs) (k * w) r w ≡ flat (set rs k r)
unfolding flat
paste_flat w [] k r l h e = absurd (omega arith)
paste_flat w (s ∷ rs) zero r l h e =
    let whole : take w r ≡ r = subst (λ (k : ℕ). take k r ≡ r) e (take-length r) in
    let at_zero : zero * w ≡ 0 = zero-mul w in
    let size : 0 + w ≡ length s + 0 = omega (arith, l.0) in
    rw (at_zero, whole, size, drop-append-add s (flat rs) 0)
paste_flat w (s ∷ rs) (suc k) r l h e =
    let size : suc k * w ≡ length s + k * w = omega (arith, l.0, suc-mul k w) in
    rw size (paste_more s (flat rs) (k * w) w r ∙ ap (λ (t : List ℤ). s ++ t) (paste_flat w rs k r l.1 (omega arith) e))

-- zeros behind do not matter
pub paste_padded : (front : List ℤ) (n k w : ℕ) (r : Record) → k + w ≤ length front → length r ≡ w → paste (padded n front) k r w ≡ paste front k r w ++ replicate (n - length front) (pos 0)
paste_padded front n k w r h e =
    let z : List ℤ = replicate (n - length front) (pos 0) in
    rw (take-append-le k front z (omega arith), drop-append-le (k + w) front z h) (sym (append_assoc (take k front ++ take w r) (drop (k + w) front) z))

-- ---- placing

abbrev plot_of : ℕ → List ℤ → List Place → List ℕ → List Record → Plot
plot_of rules fs ps freed cs = record { rules = rules; frontiers = fs; places = ps; freed = freed; connections = cs }

five : (l : ℕ) → 4 + suc l ≡ suc (suc (suc (suc (suc l))))
five l = omega arith

module _ (rules : ℕ) (fs : List ℤ) (cs : List Record) (n : ℕ) where
  pub seat_is : (ps : List Place) (freed : List ℕ) → seat_in (laid_state n (plot_of rules fs ps freed cs)) ≡ seat_of freed ps
  unfolding laid_state
  seat_is ps [] = seat_lowest (laid_state n (plot_of rules fs ps [] cs)) refl
  seat_is ps (k ∷ freed) =
      let z : List ℕ = replicate (n - length (counts_of (plot_of rules fs ps (k ∷ freed) cs))) 0 in
      let there : (reverse (k ∷ freed) ++ z) ≡ reverse freed ++ (k ∷ z) = ap (λ (t : List ℕ). t ++ z) (reverse-cons k freed) ∙ append_assoc (reverse freed) (k ∷ []) z in
      seat_latest (laid_state n (plot_of rules fs ps (k ∷ freed) cs)) (λ (e : suc (length freed) ≡ 0). omega arith)
      ∙ (ap (λ (i : ℕ). get_or (counts_of (plot_of rules fs ps (k ∷ freed) cs) ++ z) i 0) (five (length freed))
      ∙ (ap (λ (t : List ℕ). get_or t (length freed) 0) there ∙ get_or_at (reverse freed) k z 0 (length freed) (length-reverse freed)))

  pub seat_state : (ps : List Place) (freed : List ℕ) (r : Record) → 5 + length freed ≤ n
      → seated_state (laid_state n (plot_of rules fs ps freed cs)) ≡ laid_state n (plot_of rules fs (seated freed ps r) (still_free freed) cs)
  unfolding laid_state seated still_free
  seat_state ps [] r h =
      let more : length ps + 1 ≡ length (ps ++ (taken r ∷ [])) = sym (length-append ps (taken r ∷ [])) in
      state_lowest (laid_state n (plot_of rules fs ps [] cs)) refl ∙ rw more
  seat_state ps (k ∷ freed) r h =
      let z : ℕ = n - length (counts_of (plot_of rules fs ps (k ∷ freed) cs)) in
      let there : set (reverse (k ∷ freed) ++ replicate z 0) (length freed) 0 ≡ reverse freed ++ replicate (suc z) 0 =
      ap (λ (t : List ℕ). set t (length freed) 0) (ap (λ (t : List ℕ). t ++ replicate z 0) (reverse-cons k freed) ∙ append_assoc (reverse freed) (k ∷ []) (replicate z 0))
      ∙ set_at (reverse freed) k (replicate z 0) 0 (length freed) (length-reverse freed) in
      let size : suc z ≡ n - length (counts_of (plot_of rules fs (set ps k (taken r)) freed cs)) = omega (arith, length-reverse freed, length-reverse (k ∷ freed)) in
      let less : suc (length freed) - 1 ≡ length freed = omega arith in
      state_latest (laid_state n (plot_of rules fs ps (k ∷ freed) cs)) (λ (e : suc (length freed) ≡ 0). omega arith)
      ∙ (ap (λ (i : ℕ). set (set (counts_of (plot_of rules fs ps (k ∷ freed) cs) ++ replicate z 0) i 0) 2 (suc (length freed) - 1)) (five (length freed))
      ∙ (λ i. rules ∷ sym (length-set ps k (taken r)) i ∷ less i ∷ length cs ∷ length fs / frontier_width ∷ (there ∙ ap (λ (k : ℕ). reverse freed ++ replicate k 0) size) i))

  -- the slots of places
  map_set : (ps : List Place) (k : ℕ) (p : Place) → map slot_of (set ps k p) ≡ set (map slot_of ps) k (slot_of p)
  map_set [] k p = refl
  map_set (q ∷ ps) zero p = refl
  map_set (q ∷ ps) (suc k) p = ap (λ (t : List Record). slot_of q ∷ t) (map_set ps k p)

  map_snoc : (ps : List Place) (p : Place) → map slot_of (ps ++ (p ∷ [])) ≡ map slot_of ps ++ (slot_of p ∷ [])
  map_snoc [] p = refl
  map_snoc (q ∷ ps) p = ap (λ (t : List Record). slot_of q ∷ t) (map_snoc ps p)

  -- one slot changed
  slot_changed : (ps : List Place) (freed : List ℕ) (k : ℕ) (p : Place) → Long component_width (map slot_of ps) → k < length ps → length (slot_of p) ≡ component_width
      → paste (laid_places n (plot_of rules fs ps freed cs)) (k * component_width) (slot_of p) component_width ≡ padded n (flat (map slot_of (set ps k p)))
  unfolding laid_places
  slot_changed ps freed k p l h e =
      let rs : List Record = map slot_of ps in
      let long : length (flat rs) ≡ length ps * component_width = length_flat component_width rs l ∙ ap (λ (i : ℕ). i * component_width) (length-map ps slot_of) in
      let within : k * component_width + component_width ≤ length (flat rs) = omega arith in
      let changed : paste (flat rs) (k * component_width) (slot_of p) component_width ≡ flat (map slot_of (set ps k p)) =
      paste_flat component_width rs k (slot_of p) l (omega (arith, length-map ps slot_of)) e ∙ ap flat (sym (map_set ps k p)) in
      let size : length (flat rs) ≡ length (flat (map slot_of (set ps k p))) =
      sym (length-paste (flat rs) (k * component_width) (slot_of p) component_width within (omega arith)) ∙ ap length changed in
      paste_padded (flat rs) n (k * component_width) component_width (slot_of p) within e
      ∙ (ap (λ (t : List ℤ). t ++ replicate (n - length (flat rs)) (pos 0)) changed ∙ ap (λ (i : ℕ). flat (map slot_of (set ps k p)) ++ replicate (n - i) (pos 0)) size)

  pub seat_places : (ps : List Place) (freed : List ℕ) (r : Record) → Long component_width (map slot_of ps) → ((k : ℕ) (rest : List ℕ) → freed ≡ k ∷ rest → k < length ps)
      → length r ≡ component_width → component_limit * component_width ≤ n → seat_of freed ps < component_limit
      → seated_places (laid_places n (plot_of rules fs ps freed cs)) (seat_of freed ps) r ≡ laid_places n (plot_of rules fs (seated freed ps r) (still_free freed) cs)
  unfolding laid_places seated
  seat_places ps [] r l b e room h =
      let rs : List Record = map slot_of ps in
      let long : length (flat rs) ≡ length ps * component_width = length_flat component_width rs l ∙ ap (λ (i : ℕ). i * component_width) (length-map ps slot_of) in
      let more : flat rs ++ r ≡ flat (map slot_of (ps ++ (taken r ∷ []))) = sym (ap flat (map_snoc ps (taken r)) ∙ flat_snoc rs r) in
      ap (λ (i : ℕ). paste (padded n (flat rs)) i r component_width) (sym long) ∙ (paste_behind (flat rs) n component_width r e (omega arith) ∙ ap (padded n) more)
  seat_places ps (k ∷ freed) r l b e room h = slot_changed ps (k ∷ freed) k (taken r) l (b k freed refl) e

  -- ---- breaking: the place

  pub free_state : (ps : List Place) (freed : List ℕ) (k : ℕ) → 5 + length freed < n
      → freed_state (laid_state n (plot_of rules fs ps freed cs)) k ≡ laid_state n (plot_of rules fs (set ps k free) (k ∷ freed) cs)
  unfolding laid_state freed_state
  free_state ps freed k h =
      let z : ℕ = n - length (counts_of (plot_of rules fs (set ps k free) (k ∷ freed) cs)) in
      let size : n - length (counts_of (plot_of rules fs ps freed cs)) ≡ suc z = omega (arith, length-reverse freed, length-reverse (k ∷ freed)) in
      let five : 5 + length freed ≡ suc (suc (suc (suc (suc (length freed))))) = omega arith in
      let there : set (reverse freed ++ replicate (n - length (counts_of (plot_of rules fs ps freed cs))) 0) (length freed) k ≡ reverse (k ∷ freed) ++ replicate z 0 =
      ap (λ (i : ℕ). set (reverse freed ++ replicate i 0) (length freed) k) size
      ∙ (set_at (reverse freed) 0 (replicate z 0) k (length freed) (length-reverse freed)
      ∙ (sym (append_assoc (reverse freed) (k ∷ []) (replicate z 0)) ∙ ap (λ (t : List ℕ). t ++ replicate z 0) (sym (reverse-cons k freed)))) in
      let more : length freed + 1 ≡ suc (length freed) = omega arith in
      ap (λ (i : ℕ). set (set (counts_of (plot_of rules fs ps freed cs) ++ replicate (n - length (counts_of (plot_of rules fs ps freed cs))) 0) i k) 2 (length freed + 1)) five
      ∙ (λ i. rules ∷ sym (length-set ps k free) i ∷ more i ∷ length cs ∷ length fs / frontier_width ∷ there i)

  pub free_places : (ps : List Place) (freed : List ℕ) (k : ℕ) → Long component_width (map slot_of ps) → k < length ps
      → cleared_places (laid_places n (plot_of rules fs ps freed cs)) k ≡ laid_places n (plot_of rules fs (set ps k free) (k ∷ freed) cs)
  unfolding laid_places blank
  free_places ps freed k l h = slot_changed ps freed k free l h refl

-- ---- connecting

module _ (rules : ℕ) (fs : List ℤ) (ps : List Place) (freed : List ℕ) (n : ℕ) where
  pub join_state : (cs : List Record) (r : Record) → set (laid_state n (plot_of rules fs ps freed cs)) 3 (length cs + 1) ≡ laid_state n (plot_of rules fs ps freed (cs ++ (r ∷ [])))
  unfolding laid_state
  join_state cs r = let more : length cs + 1 ≡ length (cs ++ (r ∷ [])) = sym (length-append cs (r ∷ [])) in rw more

  pub join_connections : (cs : List Record) (r : Record) → Long port_width cs → length r ≡ port_width → connection_limit * port_width ≤ n → length cs < connection_limit
      → joined_connections (laid_connections n (plot_of rules fs ps freed cs)) (length cs) r ≡ laid_connections n (plot_of rules fs ps freed (cs ++ (r ∷ [])))
  unfolding laid_connections
  join_connections cs r l e room h =
      let long : length (flat cs) ≡ length cs * port_width = length_flat port_width cs l in
      ap (λ (i : ℕ). paste (padded n (flat cs)) i r port_width) (sym long) ∙ (paste_behind (flat cs) n port_width r e (omega arith) ∙ ap (padded n) (sym (flat_snoc cs r)))
