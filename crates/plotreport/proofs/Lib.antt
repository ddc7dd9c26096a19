-- What the proofs of the program need.
mod Fed
mod Spoken
mod Fits
