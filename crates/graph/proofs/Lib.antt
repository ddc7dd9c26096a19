-- What the proofs of the functions use, and laws of rows for the crates above.
--     Rows      laws of rows; a walk along a row is a walk along the neighbours
--     Frames    the open calls of `visit` as a stack of frames
--     Stack     visit_from
--     Order     finish_order, reach_from
--     Label     label_from, label_all, regions
--     Counting  count_rows, scatter
--     Built     lay, build_rows
--     Carrying  hand_on, carry_marks, by_region
--     Edges     the graph of the connections' ends is that of tested connections
--     Turned    connections with their ends exchanged
pub mod Rows
pub mod Frames
pub mod Stack
pub mod Order
pub mod Label
pub mod Counting
pub mod Built
pub mod Carrying
pub mod Edges
pub mod Turned
