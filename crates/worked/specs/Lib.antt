-- What the theorems say.
pub mod Plots
pub mod Founding
pub mod Lighting
pub mod Staircase
pub mod Example
pub mod LaterRules
