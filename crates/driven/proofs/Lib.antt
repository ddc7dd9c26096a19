-- The theorems, for the crates above, and what the proofs of the functions use.
--     Passing      a walk passes a met node over, and does nothing once it has stopped
--     Sought       what specs/Theorems.antt states
--     Examples     small graphs
--     Driven       what specs/Status.antt states
--     Frames       the open calls of `seek` as a stack of frames
--     Stack        seek_from
--     Starts       seek_all
--     Asking       driven_port, driven_plot
pub mod Passing
pub mod Sought
pub mod Examples
pub mod Driven
pub mod Frames
pub mod Stack
pub mod Starts
pub mod Asking
