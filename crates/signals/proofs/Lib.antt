-- Laws of the definitions, for the proofs of this crate and of those above it.
--     Tabulated, Ends, Graph            the ends of connections, and the table of fed ports
--     Marks, Stores, Lent               flags and numbers, stored place by place
--     Neighbours                        the neighbours seen
--     Staged                            the stages give `labels` and `is_cyclic`
--     Within                            the signals of a scene stay within its members
--     Tested                            truth values that imply each other
--     Rowed                             the rows of a graph with labels
--     Edged                             flags of the regions that edges lead into
pub mod Tabulated
pub mod Ends
pub mod Graph
pub mod Marks
pub mod Neighbours
pub mod Stores
pub mod Lent
pub mod Staged
pub mod Within
pub mod Tested
pub mod Rowed
pub mod Edged
