-- What the contracts of `src/` cite, to be read in this order. `Rows` and `Linked` say what is meant, and `Carried`; `inner` has what
-- single functions ask and leave.
pub mod Rows
pub mod Linked
pub mod Carried
pub mod inner
