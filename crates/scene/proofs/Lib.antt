-- Laws of the definitions, for the proofs of this crate and of those above it.
pub mod Links
pub mod Slopes
pub mod Writes
pub mod KeptEnds
pub mod KeptWithin
pub mod Unread
pub mod LeftOut
pub mod Told
pub mod Cleared
