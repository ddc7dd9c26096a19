-- Laws of the definitions, for the proofs of this crate and of those above it.
pub mod Search
pub mod Some
pub mod Signed
pub mod Fields
pub mod Ordering
pub mod Table
pub mod Members
pub mod Places
pub mod EndLaws
