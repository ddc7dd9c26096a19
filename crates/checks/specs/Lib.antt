-- What the contracts cite. To be read in this order.
pub mod Refusals
pub mod Numbered
pub mod Checks
