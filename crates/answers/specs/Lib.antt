-- How an answer becomes one number of 64 bits.
pub mod Numbers
pub mod Fits
