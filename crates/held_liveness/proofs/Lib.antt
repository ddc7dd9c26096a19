-- That the blocks are sorted, and that the report is that of the fresh scene.
--     Raised      numbers raised are in the order of the numbers
--     Rounds      one round of the sort, and the first order
--     Rows        the rows by the places are the components of the fresh scene
--     FreshLaws   what specs/Entry.antt states
pub mod Raised
pub mod Rounds
pub mod Rows
pub mod FreshLaws
