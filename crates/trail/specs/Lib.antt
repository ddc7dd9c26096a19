-- What the contracts cite, to be read in this order: the trail to be found, the entries, and what is proved of them. The rest is what the
-- inner functions say.
pub mod Trail
pub mod Port
pub mod Entries
pub mod Theorems
pub mod Levels
pub mod Waves
pub mod Ways
pub mod Scene
