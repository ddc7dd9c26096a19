-- What the contracts cite. To be read in this order.
pub mod Text
pub mod Decimal
pub mod Line
pub mod Wrote
