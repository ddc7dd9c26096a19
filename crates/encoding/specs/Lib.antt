-- What the contracts cite. To be read in this order.
pub mod Bytes
pub mod Entry
