-- The theorems, for the crates above, and what the proofs of the functions use.
--     Laws      laws of the definitions
--     Theorems  what specs/Theorems.antt states
--     Fill      lists of one value
--     Again     a walk passes a visited node over
--     Frames    the open calls of `visit` as a stack of frames
--     Stack     a lent stack as frames
--     Order     walks from a list of nodes
--     Label     the labels of a region
pub mod Laws
pub mod Theorems
pub mod Fill
pub mod Again
pub mod Frames
pub mod Stack
pub mod Order
pub mod Label
