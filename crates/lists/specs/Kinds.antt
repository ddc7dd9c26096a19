-- The numbers that stand for kinds in lists (document 01, "The scene taken in"), in the Rust's order.
-- Assumes nothing: these are definitions.
use Rattle.std.specs.Prelude.{ℕ, ◌≡◌, ◌≤◌, Result, MatchResult}
use Rattle.lists.specs.declared.kinds.UnknownKind.{UnknownKind}
use Rattle.lists.specs.declared.kinds.BlockKind.{BlockKind}
use Rattle.lists.specs.declared.kinds.ConnectionKind.{ConnectionKind}
use Rattle.lists.specs.declared.kinds.TransferKind.{TransferKind}

abbrev pub block_number : BlockKind → ℕ
block_number BlockKind.RedstoneWire = 0
block_number BlockKind.Repeater = 1
block_number BlockKind.Comparator = 2
block_number BlockKind.RedstoneTorch = 3
block_number BlockKind.Lever = 4
block_number BlockKind.Button = 5
block_number BlockKind.PressurePlate = 6
block_number BlockKind.RedstoneBlock = 7
block_number BlockKind.Piston = 8
block_number BlockKind.Solid = 9
block_number BlockKind.Transparent = 10
block_number BlockKind.RedstoneLamp = 11
block_number BlockKind.Air = 12

-- the kind with this number, or an error with a number that no kind has
abbrev pub NamesBlock : ℕ → Result BlockKind UnknownKind → Type 0
NamesBlock number r = MatchResult r (λ kind. block_number kind ≡ number) (λ e. (e.0 ≡ number) × (13 ≤ number))

abbrev pub connection_number : ConnectionKind → ℕ
connection_number ConnectionKind.Dust = 0
connection_number ConnectionKind.DustRise = 1
connection_number ConnectionKind.DustFallThroughConductor = 2
connection_number ConnectionKind.WeakPower = 3
connection_number ConnectionKind.StrongPower = 4
connection_number ConnectionKind.DirectionalInput = 5
connection_number ConnectionKind.DirectionalOutput = 6
connection_number ConnectionKind.DirectSource = 7
connection_number ConnectionKind.Control = 8
connection_number ConnectionKind.Support = 9

-- the kind with this number, or an error with a number that no kind has
abbrev pub NamesConnection : ℕ → Result ConnectionKind UnknownKind → Type 0
NamesConnection number r = MatchResult r (λ kind. connection_number kind ≡ number) (λ e. (e.0 ≡ number) × (10 ≤ number))

abbrev pub transfer_number : TransferKind → ℕ
transfer_number TransferKind.DustPropagation = 0
transfer_number TransferKind.DirectSignal = 1
transfer_number TransferKind.WeakPower = 2
transfer_number TransferKind.StrongPower = 3
transfer_number TransferKind.DirectionalDevice = 4
transfer_number TransferKind.SideControl = 5
transfer_number TransferKind.StructuralSupport = 6
