-- The theorems.
--     Forests     the single places of a forest, computed in few steps
--     Worked      W1 to W12, in a single list
--     Founding    the straight row, and the same with a cleared block named at either end
--     Lighting    the one pass over the regions
--     Staircase   wires up a step and down again
--     Dropped     the worked sheet with a connection more that is dropped
--     Printed     the worked sheet, from its bytes to those of its report
--     LaterRules  plots under each rules number, and a sheet under rules 3
--     Walks       small graphs
mod Forests
pub mod Worked
pub mod Founding
pub mod Lighting
pub mod Staircase
mod Dropped
pub mod Printed
pub mod LaterRules
mod Walks
