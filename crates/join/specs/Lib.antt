-- What the contracts cite. To be read in this order.
pub mod Entry
pub mod Texts
pub mod Laws
