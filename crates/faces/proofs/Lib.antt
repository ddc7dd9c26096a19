-- Laws of the definitions, for the proofs of this crate and of those above it.
pub mod Faces
pub mod Table
pub mod Computed
pub mod Blocks
pub mod Runs
pub mod Unread
pub mod Blank
pub mod Steps
pub mod Places
pub mod Transfers
pub mod Sound
