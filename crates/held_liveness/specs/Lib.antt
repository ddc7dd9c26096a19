-- The definitions, in reading order.
--     Entry      what the report answers and leaves
--     Order      what the functions that sort the blocks hand to each other
pub mod Entry
pub mod Order
