-- What the contracts cite. To be read in this order.
pub mod Report
pub mod Demand
pub mod Entry
pub mod Same
pub mod Rules
pub mod Printing
