-- What the contracts cite. To be read in this order.
pub mod Ports
pub mod Unread
pub mod Rows
pub mod Codes
pub mod Step
pub mod Select
