-- What the contracts cite.
pub mod Program
pub mod Fits
