-- Laws of the definitions, for the proofs of this crate and of those above it.
pub mod Chain
pub mod Accepts
pub mod Accepted
pub mod Small
