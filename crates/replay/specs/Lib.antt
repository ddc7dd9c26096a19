-- What the contracts cite. To be read in this order.
pub mod Recorded
pub mod Differing
pub mod Counts
pub mod Compared
pub mod Names
pub mod Bounds
