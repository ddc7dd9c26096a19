-- Laws for the proofs of this crate.
--     Filled    the flat list after some turns of `copy_records`
--     Limit     a list over the limit
pub mod Filled
pub mod Limit
