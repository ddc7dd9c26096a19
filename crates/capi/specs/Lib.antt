-- What the contracts cite. To be read in this order.
pub mod Liveness
pub mod Written
pub mod OneInput
pub mod TheWay
pub mod Clear
pub mod Light
pub mod ReachTable
pub mod Rings
pub mod Kept
pub mod LeftOut
pub mod BlockPorts
pub mod InputSets
pub mod Texts
pub mod Join
pub mod Held
pub mod HeldParts
