-- What the contracts cite, to be read in this order. `Written` says what the inner functions hand on to each other.
pub mod Parts
pub mod Promises
pub mod Entry
pub mod Written
