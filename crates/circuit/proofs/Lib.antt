-- What the proofs of several functions use, in the order in which they build on one another.
pub mod Lists
pub mod Entry
pub mod Link
pub mod Follow
pub mod Flatten
pub mod Unite
pub mod Closure
pub mod Roots
pub mod Numbering
pub mod Settling
pub mod Nets
