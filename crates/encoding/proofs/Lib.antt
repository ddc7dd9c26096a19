-- Laws of the definitions, for the proofs of this crate and of those above it.
pub mod Laid
pub mod Reading
pub mod Writing
pub mod Words
pub mod Answers
