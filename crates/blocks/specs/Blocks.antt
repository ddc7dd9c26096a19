-- What the functions that write lines and blocks hand on to each other. No line of a report rests on these.
--     block_numbered                        a block by its number
--     block_keys, count_name, block_text    the blocks
--     ids_in                              the ids of a set's members, by the table of ids
-- Assumes nothing: these are definitions.
use Rattle.std.specs.Prelude.{ℕ, zero, suc, ◌/◌, cond, List, [], ◌∷◌, length, get_or}
use Rattle.blocks.specs.declared.Block.{Block}
use Rattle.tables.specs.Pairs.{span}
use Rattle.sets.specs.Members.{member_of}
use Rattle.lines.specs.Text.{ascii}
use Rattle.blocks.specs.Lines.{component_keys, connection_keys, region_keys, source_keys, input_keys, unread_keys, block}

-- ---- blocks

-- by number, from 0; a number past these is the last
abbrev pub block_numbered : ℕ → Block
block_numbered zero = Block.Components
block_numbered (suc zero) = Block.Connections
block_numbered (suc (suc zero)) = Block.Regions
block_numbered (suc (suc (suc zero))) = Block.Sources
block_numbered (suc (suc (suc (suc zero)))) = Block.Inputs
block_numbered (suc (suc (suc (suc (suc n))))) = Block.Unread

-- the keys of a block's rows
abbrev pub block_keys : Block → List (List ℕ)
block_keys Block.Components = component_keys
block_keys Block.Connections = connection_keys
block_keys Block.Regions = region_keys
block_keys Block.Sources = source_keys
block_keys Block.Inputs = input_keys
block_keys Block.Unread = unread_keys

-- the key of its count
abbrev pub count_name : Block → List ℕ
count_name Block.Components = ascii "components"
count_name Block.Connections = ascii "connections"
count_name Block.Regions = ascii "regions"
count_name Block.Sources = ascii "sources"
count_name Block.Inputs = ascii "inputs"
count_name Block.Unread = ascii "unread"

abbrev pub block_text : Block → List ℕ → List ℕ
block_text b rows = block (count_name b) (block_keys b) rows

-- ---- sets

-- the ids of those of the k members from m on that the words keep. Key m of the table has the id of member m
unfoldable pub ids_from : List ℕ → List ℕ → ℕ → ℕ → List ℕ
ids_from keys words m zero = []
ids_from keys words m (suc k) =
    cond (member_of words m) (get_or keys m 0 / span ∷ ids_from keys words (suc m) k) (ids_from keys words (suc m) k)

abbrev pub ids_in : List ℕ → List ℕ → List ℕ
ids_in keys words = ids_from keys words 0 (length keys)
