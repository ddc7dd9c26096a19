-- What the contracts cite. To be read in this order.
pub mod Numbers
pub mod Form
pub mod Tables
pub mod Sheet
pub mod Writing
pub mod Converter
pub mod Places
