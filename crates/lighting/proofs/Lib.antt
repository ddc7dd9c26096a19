-- Laws of the definitions, for the proofs of this crate and of those above it.
--     Lights         one pass over the regions lights what the drive sources reach
--     Handed         the marks that the program hands on are those of the pass
--     Examples       a plot, as antt computes it
pub mod Lights
pub mod Handed
mod Examples
