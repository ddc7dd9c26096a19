-- What the contracts cite, to be read in this order, after the definitions of crates signals and liveness. The proofs are in proofs/.
--     Rings      rings of any relation; rings of a graph's regions, and how counting tells them
--     Scene      rings of a scene's port connections; which regions have one
--     Entry      the entry `find_rings`
--     Counts     what the functions hand on to each other
pub mod Rings
pub mod Scene
pub mod Entry
pub mod Counts
