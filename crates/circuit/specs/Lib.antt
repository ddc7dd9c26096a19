pub mod Forest
pub mod Connected
pub mod Groups
pub mod Topology
pub mod Within
