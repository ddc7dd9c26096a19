-- Laws of the definitions, for the proofs of this crate.
mod Counting
mod Listing
mod Numbers
mod Lists
