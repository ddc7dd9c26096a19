-- What the contracts cite. To be read in this order; from Keys on they say what the functions hand on to each other.
pub mod Signals
pub mod Sources
pub mod Regions
pub mod Drive
pub mod Keys
pub mod Flags
pub mod Seen
pub mod Stages
