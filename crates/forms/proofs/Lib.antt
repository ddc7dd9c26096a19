-- Laws of the definitions, for the proofs of this crate and of those above it.
pub mod Until
pub mod Grammar
pub mod Lines
pub mod Tables
pub mod Sheets
pub mod Converter
pub mod Placed
pub mod Again
pub mod Fields
pub mod Held
pub mod Steps
pub mod Storing
pub mod Writing
pub mod Lengths
pub mod Most
pub mod Sizes
pub mod ShortSizes
pub mod Texts
pub mod Heads
pub mod Finding
pub mod Chain
pub mod SheetSmall
mod Examples
mod OldForm
