-- What the contracts cite, and the theorems, to be read in this order. What only inner functions cite stands in Square. The proofs are in
-- proofs/.
--     Table, Numbers, Theorems    graphs: the reach table, its classes and their numbers
--     Scene, Entry                scenes, and the entry `slow_regions`
--     Square                      the square that is lent, as the stages leave it
pub mod Table
pub mod Numbers
pub mod Theorems
pub mod Scene
pub mod Entry
pub mod Square
