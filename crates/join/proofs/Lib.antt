-- Laws of the definitions, for the proofs of this crate and of those above it.
pub mod Records
pub mod Behind
pub mod Stages
pub mod Written
pub mod Joins
pub mod Examples
