-- Laws of the definitions, for the proofs of this crate and of those above it.
pub mod Merges
pub mod Splits
pub mod Orders
pub mod Unions
pub mod Agrees
pub mod Accepts
pub mod Carried
pub mod Kept
pub mod Laws
pub mod Steps
pub mod Examples
