-- What the contracts cite. To be read in this order.
pub mod Kept
pub mod Answer
pub mod Reasons
pub mod Cleared
pub mod Unread
