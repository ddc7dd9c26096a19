-- The laws of trails, and what the proofs of the functions share.
--     Best         levels give the best trail
--     Shortest     what specs/Theorems.antt states of any tests
--     Renamed      trails under other names
--     Row          the neighbours of a node
--     Queued, Spread, Spreading      the search for levels
--     Starting     start_of
--     Walking      step_down, walk_down
--     Found        find_way
--     Named        the trails of a port by members and by ids
--     Status       a port has a trail exactly if its status is 0
--     Written      write_ids, member_way, trail_port
--     Checked      goes_on, is_trail
--     Answered     trail_plot
--     Theorems     what specs/Theorems.antt states of the entries
--     Examples     a small plot
pub mod Best
pub mod Shortest
pub mod Renamed
pub mod Row
pub mod Queued
pub mod Spread
pub mod Spreading
pub mod Starting
pub mod Walking
pub mod Found
pub mod Named
pub mod Status
pub mod Written
pub mod Checked
pub mod Answered
pub mod Theorems
pub mod Examples
