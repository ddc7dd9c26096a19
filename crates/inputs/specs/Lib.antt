-- What the contracts cite. To be read in this order.
pub mod Query
pub mod Port
pub mod Same
pub mod Inputs
