-- Laws of the definitions, for the proofs of this crate and of those above it.
--     Inputs         the port of an input query, its immediate sources and its inferred inputs
--     Asking         the same by the table of what is upstream of each region
--     Upstream       what the second set means, in chains of port connections
--     Small          the refusal as one number
--     Sources        the flags of the immediate sources and of the drive sources
--     Status         status 0 of a port
--     Reported       the port's row among the verdict rows of an analysis
--     SameMembers    order and repetition of port connections change nothing
pub mod Inputs
pub mod Asking
pub mod Upstream
pub mod Small
pub mod Sources
pub mod Status
pub mod Reported
pub mod SameMembers
