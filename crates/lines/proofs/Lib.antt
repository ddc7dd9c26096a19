-- Laws of the definitions, for the proofs of this crate and of those above it.
pub mod Digits
pub mod Reading
pub mod Grammar
pub mod Placed
pub mod Counting
pub mod Writing
mod Examples
