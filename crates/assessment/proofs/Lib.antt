-- Laws of the definitions, for the proofs of this crate and of those above it.
--     Positions, Frontiers                  where components that ascend part, and the first of each part
--     Reached                               marks carried along the edges give `drive` and `potential`
--     Fed, Places, Statuses                 the keys and the flags of a slot, and its status
--     UpRows                                the rows of what is upstream of each region
--     Written, Devices, Required, RowLaws   the rows written are those of the document
--     Ascends                               the source rows ascend
--     RulesLaws, LampPlot                   what the rules number changes
pub mod Positions
pub mod Frontiers
pub mod UpRows
pub mod Fed
pub mod Places
pub mod Written
pub mod Devices
pub mod Statuses
pub mod Required
pub mod RowLaws
pub mod Reached
pub mod Ascends
pub mod RulesLaws
pub mod LampPlot
