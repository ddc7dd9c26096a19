-- What the contracts cite, to be read in this order, after the definitions of crates signals and liveness. `Laws` says what is proved of
-- the pass; the proofs are in proofs/. `Room` is for what the functions hand on to each other.
pub mod Pass
pub mod Laws
pub mod Entry
pub mod Room
