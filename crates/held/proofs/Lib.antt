-- The theorems on held plots, and what they use.
--     Lists      laws of the tests over lists
--     Places     laws of places: what stands where, who is present, how many
--     Sound      what a valid plot is, by its parts; the test `valid` says exactly this
--     Kept       every click keeps a plot sound
--     Reached    every sound plot is left by an opening and clicks
--     Theorems   what specs/Laws.antt states
--     Flat       records one after the other, and zeros
--     Shown      a layout shows the plot that was laid out
--     LentLaws   what specs/Lent.antt states: slices that can be left
--     Sorting    components in order
--     SceneLaws  what specs/Scene.antt states: the fresh scene of a held plot
--     SeatLaws   what a placed block writes, by the count of freed places
--     WriteLaws  what an accepted click writes is the layout of the plot that it leaves
--     InspectLaws  what the functions that look for number 18 use
--     ValidLaws  the test of number 18 in the parts in which the code makes it
--     PartLaws   its parts, and what the code answers
--     EntryLaws  what the clicks use
--     DropLaws   connections that are dropped
--     BreakLaws  breaking, in the slices
--     ConnectLaws  connecting, in the slices
--     OpenLaws   opening, in the slices
--     Loops      loops over a held plot, a turn at a time
--     LentRuns   slices that can be left are those that an opening and clicks on slices leave
pub mod Lists
pub mod Places
pub mod Sound
pub mod Kept
pub mod Reached
pub mod Theorems
pub mod Flat
pub mod Shown
pub mod LentLaws
pub mod Sorting
pub mod SceneLaws
pub mod SeatLaws
pub mod WriteLaws
pub mod InspectLaws
pub mod ValidLaws
pub mod PartLaws
pub mod Twice
pub mod KeyLaws
pub mod EntryLaws
pub mod DropLaws
pub mod BreakLaws
pub mod ConnectLaws
pub mod OpenLaws
pub mod LentRuns
pub mod Loops
