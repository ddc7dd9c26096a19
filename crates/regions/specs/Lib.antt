-- To be read in this order. `Theorems` says what is proved of the definitions; the proofs are in proofs/.
pub mod Graph
pub mod Kosaraju
pub mod Theorems
pub mod Search
