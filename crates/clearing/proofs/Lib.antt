-- Laws of the definitions, and what the request promises. To be read in this order.
--     Numbers     the refusals
--     Items       the items that pass a test
--     Kept        the kept list
--     Writes      rows laid one after the other, for `part`
--     Promises    what specs/Promises.antt states
--     Answers     what follows for callers, from the contracts
--     Examples    the straight wire with a cleared source
pub mod Numbers
pub mod Items
pub mod Kept
pub mod Writes
pub mod Promises
pub mod Answers
pub mod Examples
