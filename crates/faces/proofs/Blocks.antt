-- The ports of blocks that have them in common, by the block.
--     repeater_block, lever_block, solid_block   blocks that have their ports in common
-- Assumes nothing.
use mathlib.Core.Path.{◌≡◌, refl}
use mathlib.Core.Logic.{◌⊎◌, inl, inr}
use Prim.Native.Nat.{ℕ}
use lib.Dec.{eqb}
use Rattle.lists.specs.declared.kinds.BlockKind.{BlockKind}
use Rattle.lists.specs.Kinds.{block_number}
use Rattle.faces.specs.Ports.{face_or, North, repeater_ports, lever_ports, solid_ports, ports_by_facing}

module _ (facing support conducts : ℕ) where
  pub repeater_block : (b : BlockKind) → (b ≡ BlockKind.Repeater) ⊎ (b ≡ BlockKind.Comparator)
      → ports_by_facing (block_number b) facing support conducts ≡ repeater_ports (face_or North facing)
  unfolding ports_by_facing
  repeater_block b (inl e) = rw e refl
  repeater_block b (inr e) = rw e refl

  pub lever_block : (b : BlockKind) → (b ≡ BlockKind.Lever) ⊎ ((b ≡ BlockKind.Button) ⊎ ((b ≡ BlockKind.PressurePlate) ⊎ (b ≡ BlockKind.RedstoneBlock)))
      → ports_by_facing (block_number b) facing support conducts ≡ lever_ports
  unfolding ports_by_facing
  lever_block b (inl e) = rw e refl
  lever_block b (inr (inl e)) = rw e refl
  lever_block b (inr (inr (inl e))) = rw e refl
  lever_block b (inr (inr (inr e))) = rw e refl

  pub solid_block : (b : BlockKind) → (b ≡ BlockKind.Solid) ⊎ ((b ≡ BlockKind.Transparent) ⊎ (b ≡ BlockKind.RedstoneLamp))
      → ports_by_facing (block_number b) facing support conducts ≡ solid_ports (eqb conducts 1)
  unfolding ports_by_facing
  solid_block b (inl e) = rw e refl
  solid_block b (inr (inl e)) = rw e refl
  solid_block b (inr (inr e)) = rw e refl
