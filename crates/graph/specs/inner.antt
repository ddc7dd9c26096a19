-- What single functions ask of the arrays that they are lent, and leave in them.
pub mod Room
pub mod Layout
pub mod Marks
