-- Laws of the definitions, for the proofs of this crate and of those above it.
pub mod Printing
pub mod FieldText
pub mod IdText
pub mod Rises
