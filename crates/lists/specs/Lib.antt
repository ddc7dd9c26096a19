-- What the contracts cite. To be read in this order.
pub mod Limits
pub mod Signed
pub mod First
pub mod Refusal
pub mod Rules
pub mod Records
pub mod Ranges
pub mod Within
pub mod Order
pub mod Ids
pub mod Places
pub mod Ends
pub mod Slices
pub mod Kinds
