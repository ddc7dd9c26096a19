-- Laws of the definitions, for the proofs of this crate and of those above it.
--     Outside                           the regions fed from outside
--     Inferring                         the inferred inputs
--     Answers                           sets and rows of an answer
--     Demands                           demand 3
--     Meanings                          what a walk from some of the components visits, in chains
--     Lent                              fronts of arrays, lent for nodes or edges
--     Linked                            the rows of the signal edges
pub mod Outside
pub mod Inferring
pub mod Demands
pub mod Meanings
pub mod Answers
pub mod Lent
pub mod Linked
