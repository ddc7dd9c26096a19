-- Laws of the definitions, for the proofs of this crate and of those above it.
pub mod Answers
pub mod Converts
mod Examples
