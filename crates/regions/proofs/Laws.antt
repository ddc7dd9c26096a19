-- Laws of the definitions of specs/. Nothing here has to be read: the theorems are stated in specs/Theorems.antt.
--     Lists      lists of nodes; arrays as lists
--     Model      the two walks once more, over lists of nodes: what the proofs are about
--     Walks      what a walk does to its state
--     Regions    the second walk finds the strongly connected components
--     Refine     the arrays of `Kosaraju` hold what the lists of `Model` say
--     Main       the theorems on regions
--     Reach      the theorems on reach
--     Loops      for a proof of the program: one more turn of each of its loops
pub mod Lists
pub mod Loops
pub mod Main
pub mod Model
pub mod Reach
pub mod Refine
pub mod Regions
pub mod Walks
