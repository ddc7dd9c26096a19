-- What the contracts cite. To be read in this order, after the definitions of crate signals; from Scene on they say what the functions
-- hand on to each other.
pub mod Demand
pub mod Meaning
pub mod Sets
pub mod Entry
pub mod Scene
pub mod Given
