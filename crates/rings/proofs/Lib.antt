-- The theorems, and what the proofs of the functions use.
--     Linking      links, and how many parts they leave
--     Pairs        the joined pairs as links
--     Closed       rings of a class, by its pairs
--     Laws         what specs/Rings.antt states
--     Counting     the passes that count joined pairs
--     Prepared     the rings of a prepared plot
--     Named        rings of members are rings of ids
--     Scenes       what specs/Scene.antt states
--     Examples     plots, as antt computes them
pub mod Linking
pub mod Pairs
pub mod Closed
pub mod Laws
pub mod Counting
pub mod Prepared
pub mod Named
pub mod Scenes
mod Examples
