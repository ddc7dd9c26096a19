-- What the contracts cite. To be read in this order.
pub mod Lines
pub mod Blocks
pub mod Printed
pub mod Rising
