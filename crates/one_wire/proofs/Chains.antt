-- Chains of port connections where one is added.
--     chain_more        a chain is still one
--     chain_parts       a new chain is an old one, or old ones lead to the new connection's source and on from its sink
--     chains_same       from its sink old and new chains lead to the same ids
-- Assumes nothing.
use mathlib.Core.Path.{◌≡◌, sym, ap, subst, ◌∙◌}
use mathlib.Core.Bool.{Bool, true, not}
use mathlib.Core.List.{List}
use mathlib.Core.Logic.{◌⊎◌, inl, inr, ⊎_elim, ◌↔◌}
use Prim.Native.Nat.{ℕ, ◌<◌}
use lib.Dec.{eqb}
use lib.IntN.{ℤ}
use Rattle.lists.specs.Limits.{port_width}
use Rattle.lists.specs.Records.{PortConnection, port_connection, port_count}
use Rattle.lists.specs.Ids.{support_transfer}
use Rattle.liveness.specs.Demand.{Chain, nil, link}
use Rattle.one_wire.specs.Added.{Added}
use Rattle.one_wire.proofs.Shifted.{port_there, port_back}

-- it carries a signal
abbrev carries : PortConnection → Bool
carries c = not (eqb c.transfer support_transfer)

-- a first link, by what connection k is
linked : (ps : List ℤ) (k : ℕ) → k < port_count ps → (c : PortConnection) → port_connection ps k ≡ c → carries c ≡ true → {id : ℕ} → Chain ps c.sink id → Chain ps c.source id
linked ps k h c e s {id} rest =
    subst (λ (d : PortConnection). Chain ps d.source id) e
    (link k h (ap carries e ∙ s) (subst (λ (d : PortConnection). Chain ps d.sink id) (sym e) rest))

module _ {ps : List ℤ} {i : ℕ} {ps' : List ℤ} (added : Added port_width ps i ps') where
  pub chain_more : {a b : ℕ} → Chain ps a b → Chain ps' a b
  chain_more nil = nil
  chain_more (link k h s rest) = let (j, l, e) = port_there added k h in linked ps' j l (port_connection ps k) e s (chain_more rest)

  abbrev source : ℕ
  source = (port_connection ps' i).source

  abbrev sink : ℕ
  sink = (port_connection ps' i).sink

  pub chain_parts : {a b : ℕ} → Chain ps' a b → Chain ps a b ⊎ (Chain ps a source × Chain ps sink b)
  chain_parts nil = inl nil
  chain_parts {b = b} (link k h s rest) = go (chain_parts rest) (port_back added k h)
    where
      go : Chain ps (port_connection ps' k).sink b ⊎ (Chain ps (port_connection ps' k).sink source × Chain ps sink b)
          → (k ≡ i) ⊎ ((j : ℕ) × (j < port_count ps) × (port_connection ps' k ≡ port_connection ps j))
          → Chain ps (port_connection ps' k).source b ⊎ (Chain ps (port_connection ps' k).source source × Chain ps sink b)
      go (inl r) (inl e) = inr (subst (λ (x : ℕ). Chain ps (port_connection ps' x).source source) (sym e) nil, subst (λ (x : ℕ). Chain ps (port_connection ps' x).sink b) e r)
      go (inr (_, y)) (inl e) = inr (subst (λ (x : ℕ). Chain ps (port_connection ps' x).source source) (sym e) nil, y)
      go (inl r) (inr (j, l, e)) = inl (linked ps j l (port_connection ps' k) (sym e) s r)
      go (inr (x, y)) (inr (j, l, e)) = inr (linked ps j l (port_connection ps' k) (sym e) s x, y)

  pub chains_same : (id : ℕ) → Chain ps sink id ↔ Chain ps' sink id
  chains_same id = (chain_more, λ c. ⊎_elim (λ r. r) (λ (p : Chain ps sink source × Chain ps sink id). p.1) (chain_parts c))
