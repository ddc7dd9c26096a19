-- The theorems, and what the proofs of the functions use.
--     Warshall     after its middles the table says who reaches whom over them
--     Rows         equal rows are classes
--     Numbering    the numbers of the classes are the quick walk's
--     Theorems     what specs/Theorems.antt states
--     Scenes       what specs/Scene.antt states; the edges of an accepted plot
--     Worked       small graphs
--     Cells        places of the square
--     Comparing    same_rows
--     Filling      admit, fill
--     Starting     put_diagonal, put_edges, start_square
--     Finishing    finish_places
--     Classes      number_class, number_all
--     Relabelled   the numbers by list place are those by member
--     Entries      table_in, slow_regions
pub mod Warshall
pub mod Rows
pub mod Numbering
pub mod Theorems
pub mod Scenes
pub mod Worked
pub mod Cells
pub mod Comparing
pub mod Filling
pub mod Starting
pub mod Finishing
pub mod Classes
pub mod Relabelled
pub mod Entries
